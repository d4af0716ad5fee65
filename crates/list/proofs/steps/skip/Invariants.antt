-- `list::steps::skip` meets its contract: so many steps led there. Assumes nothing.
use Prim.Native.Nat.{◌-◌}
use mathlib.Core.Path.{◌≡◌}
use Rattle.list.specs.Stepping.{led_by}
use Rattle.list.proofs.steps.skip.Given as goal

abbrev pub invariant-loop : goal.invariant-loop
invariant-loop g l =
    led_by l.n (g.S.Step.answered l.step) 0 ≡ led_by (l.n - l.counter) (g.S.Step.answered l.step) l.at
