-- `record_walk::count_messages` meets its contract: a step tells of the message that is met where
-- it is asked. Assumes nothing.
use mathlib.Core.Path.{refl, ◌∙◌}
use native.Mathlib.Omega.{arith}
use Rattle.list.proofs.Stepping.{onward, counted, tells, refused_one}
use Rattle.record_walk.proofs.Walking.{by_messages}
use Rattle.record_walk.proofs.count_messages.Goals as goal

pub invariant_of-count_to_stop : goal.invariant_of-count_to_stop
invariant_of-count_to_stop c =
    record { onward = λ at next b e. onward (by_messages c.args.s.now) (tells (λ n. refl)) e }

pub returns : goal.returns
returns c =
    let h = c.count_to_stop.ensures in
    let n = counted (by_messages c.args.s.now) (tells (λ n. refl)) c.args.from (omega arith) in
    record {
      count_value = h.count_value ∙ n.0;
      end_value = h.end_value ∙ n.1;
      end_value_2 = refused_one _ _ h.stop_value;
    }
