-- `read_ext::names::count_names` meets its contract: a walk counts all the names. Assumes nothing.
use native.Mathlib.Omega.{arith}
use Rattle.list.specs.Tagged.{any_data}
use Rattle.list.proofs.Stepping.{or_tells, counted}
use Rattle.read_ext.proofs.Turns.{turn, name_says, name_onward}
use Rattle.read_ext.proofs.names.count_names.Goals as goal

pub invariant_of-count : goal.invariant_of-count
invariant_of-count c = record { onward = name_onward c.args.list.now }

pub returns : goal.returns
returns c =
    let n = counted (turn 1 any_data c.args.list.now) (or_tells (name_says c.args.list.now)) 0 (omega arith) in
    rw (← n.0, ← n.1, ← c.count.ensures.count_value, ← c.count.ensures.end_value)
