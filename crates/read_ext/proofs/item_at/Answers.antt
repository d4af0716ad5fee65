-- `read_ext::item_at` meets its contract: the steps lead to the item, or one of them is refused.
-- Assumes nothing.
use mathlib.Core.Path.{refl, sym, ap, ◌∙◌}
use Rattle.refusal.specs.Answers.{giving}
use Rattle.refusal.proofs.Told.{hands_on}
use Rattle.list.proofs.Stepping.{or_tells, skipped, or_missed}
use Rattle.read_ext.specs.Kinds.{fits}
use Rattle.read_ext.specs.Extensions.{opened, opened_from}
use Rattle.read_ext.proofs.Turns.{turn, opened_or, item_onward}
use Rattle.read_ext.proofs.item_at.Goals as goal

pub invariant_of-skip : goal.invariant_of-skip
invariant_of-skip c = record { onward = item_onward c.args.block.now }

pub returns-in_err-from : goal.returns-in_err-from
returns-in_err-from c =
    let s = rw c.in_err-from.was at c.skip.ensures in
    let e = or_missed (λ n. refl) (turn 2 fits c.args.block.now) c.args.n (sym s) in
    hands_on _ c.from_residual.ensures (rw (← e))

pub returns : goal.returns
unfolding opened_from
returns c =
    let s = rw c.in_ok-from.was at c.skip.ensures in
    let e = skipped (turn 2 fits c.args.block.now) (or_tells (λ n. refl)) c.args.n (sym s) in
    c.open_from.ensures ∙ opened_or _ _ ∙ ap (giving (opened c.args.block.now)) (sym e)
