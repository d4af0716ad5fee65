-- `list::items::item_at` meets its contract: the steps lead to the item, or one of them is refused.
-- Assumes nothing.
use mathlib.Core.Path.{sym, ◌∙◌}
use Rattle.refusal.proofs.Told.{hands_on}
use Rattle.wire.proofs.Numbers.{width_bounds}
use Rattle.list.specs.Items.{item_from}
use Rattle.list.proofs.Fields.{by_steps, item_says, item_onward}
use Rattle.list.proofs.Stepping.{or_tells, skipped, or_missed}
use Rattle.list.proofs.items.item_at.Goals as goal

pub invariant_of-skip : goal.invariant_of-skip
invariant_of-skip c = record { onward = item_onward _ (width_bounds c.args.w).0 c.args.s.now }

pub returns-in_err-from : goal.returns-in_err-from
returns-in_err-from c =
    let s = rw c.in_err-from.was at c.skip.ensures in
    hands_on _ c.from_residual.ensures (or_missed (item_says _ c.args.s.now) (by_steps _ (width_bounds c.args.w).0 c.args.s.now) c.args.at (sym s))

pub returns : goal.returns
unfolding item_from
returns c =
    let s = rw c.in_ok-from.was at c.skip.ensures in
    c.item_from.ensures
    ∙ sym (skipped (by_steps _ (width_bounds c.args.w).0 _) (or_tells (item_says _ c.args.s.now)) c.args.at (sym s))
