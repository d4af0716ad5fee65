-- `read_ext::count_items` meets its contract: a walk counts all the items. Assumes nothing.
use mathlib.Core.Path.{refl}
use native.Mathlib.Omega.{arith}
use Rattle.list.proofs.Stepping.{or_tells, counted}
use Rattle.read_ext.specs.Kinds.{fits}
use Rattle.read_ext.proofs.Turns.{turn, item_onward}
use Rattle.read_ext.proofs.count_items.Goals as goal

pub invariant_of-count : goal.invariant_of-count
invariant_of-count c = record { onward = item_onward c.args.block.now }

pub returns : goal.returns
returns c =
    let n = counted (turn 2 fits c.args.block.now) (or_tells (λ n. refl)) 0 (omega arith) in
    rw (← n.0, ← n.1, ← c.count.ensures.count_value, ← c.count.ensures.end_value)
