-- `list::items::item_count` meets its contract: a walk counts all the items. Assumes nothing.
use mathlib.Core.Path.{◌∙◌}
use native.Mathlib.Omega.{arith}
use Rattle.wire.proofs.Numbers.{width_bounds}
use Rattle.list.proofs.Fields.{by_steps, item_says, item_onward}
use Rattle.list.proofs.Stepping.{or_tells, counted}
use Rattle.list.proofs.items.item_count.Goals as goal

pub invariant_of-count : goal.invariant_of-count
invariant_of-count c = record { onward = item_onward _ (width_bounds c.args.w).0 c.args.s.now }

pub returns : goal.returns
returns c =
    c.count.ensures.count_value
    ∙ (counted (by_steps _ (width_bounds c.args.w).0 _) (or_tells (item_says _ c.args.s.now)) 0 (omega arith)).0
