-- `list::any::skip_any` meets its contract: so many steps led there. Assumes nothing.
use Prim.Native.Nat.{◌^◌, ◌<◌}
use Rattle.list.specs.AnySteps.{Leads}
use Rattle.list.proofs.any.skip_any.Given as goal

abbrev pub invariant-loop : goal.invariant-loop
invariant-loop g l = (l.at < 2 ^ 64) × Leads (g.S.AnyStep.may_answer l.step) l.counter 0 l.at
