-- `list::steps::count_to_stop` meets its contract: the steps that were taken and those that are
-- left are all of them. Assumes nothing.
use Prim.Native.Nat.{◌-◌, ◌^◌, ◌<◌, ◌≤◌}
use Rattle.list.proofs.Stepping.{Stands}
use Rattle.list.proofs.steps.count_to_stop.Given as goal

abbrev pub invariant-loop-stop : goal.invariant-loop-stop
invariant-loop-stop g l =
    (l.end < 2 ^ 64) × (l.count ≤ l.end) × Stands (g.S.Step.answered l.step) l.from l.count l.end

abbrev pub decreases-loop-stop : goal.decreases-loop-stop
decreases-loop-stop g l = 2 ^ 64 - l.end
