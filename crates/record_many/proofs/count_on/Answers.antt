-- `record_many::count_on` meets its contract: a step tells of the record that is found where it is
-- asked. Assumes nothing.
use mathlib.Core.Path.{refl}
use native.Mathlib.Omega.{arith}
use Rattle.list.proofs.Stepping.{onward, counted, tells}
use Rattle.record_many.specs.Many.{record_past, records_told}
use Rattle.record_many.proofs.Records.{by_records}
use Rattle.record_many.proofs.count_on.Goals as goal

pub invariant_of-count : goal.invariant_of-count
unfolding record_past
invariant_of-count c = record { onward = λ at next b e. onward (by_records c.args.s.now) (tells (λ n. refl)) e }

pub returns : goal.returns
unfolding record_past records_told
returns c =
    let n = counted (by_records c.args.s.now) (tells (λ n. refl)) c.args.from (omega arith) in
    rw (← n.0, ← n.1, ← c.count.ensures.count_value, ← c.count.ensures.end_value)
