-- `list::any::count_any_to_stop` meets its contract: so many steps led there. Assumes nothing.
use Prim.Native.Nat.{◌-◌, ◌^◌, ◌<◌, ◌≤◌}
use Rattle.list.specs.AnySteps.{Leads}
use Rattle.list.proofs.any.count_any_to_stop.Given as goal

abbrev pub invariant-loop-stop : goal.invariant-loop-stop
invariant-loop-stop g l = (l.end < 2 ^ 64) × (l.count ≤ l.end) × Leads (g.S.AnyStep.may_answer l.step) l.count l.from l.end

abbrev pub decreases-loop-stop : goal.decreases-loop-stop
decreases-loop-stop g l = 2 ^ 64 - l.end
