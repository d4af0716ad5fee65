-- `list::steps::skip` meets its contract: the steps that are left lead on from where it stands.
-- Assumes nothing.
use Prim.Native.Nat.{suc, ◌+◌, ◌-◌}
use mathlib.Core.Path.{◌≡◌, sym, ap, ◌∙◌}
use native.Mathlib.Omega.{arith}
use Rattle.refusal.proofs.Told.{hands_on}
use Rattle.list.specs.Stepping.{led_by}
use Rattle.list.proofs.Stepping.{led_on, led_not, led_none}
use Rattle.list.proofs.steps.skip.Goals as goal

pub loop-init : goal.loop-init
loop-init g c =
    let z : c.args.n ≡ c.args.n - 0 = omega arith in
    ap (λ n. led_by n (g.S.Step.answered c.args.step.now) 0) z

pub loop-preserved : goal.loop-preserved
loop-preserved g c =
    let k : c.args.n - c.loop.counter ≡ suc (c.args.n - (c.loop.counter + 1)) = omega (arith, c.loop-test.true) in
    let s = rw c.in_ok-at.was at c.past.ensures in
    c.loop.invariant ∙ rw k (led_on _ _ c.loop.at (sym s))

pub returns-in_err-at : goal.returns-in_err-at
returns-in_err-at g c =
    let k : c.args.n - c.loop.counter ≡ suc (c.args.n - (c.loop.counter + 1)) = omega (arith, c.loop-test.true) in
    let s = rw c.in_err-at.was at c.past.ensures in
    hands_on _ c.from_residual.ensures (sym (c.loop.invariant ∙ rw k (led_not _ _ c.loop.at (sym s))))

pub returns : goal.returns
returns g c =
    let k : c.args.n - c.loop.counter ≡ 0 = omega (arith, c.loop-test.false, c.loop.auto.counter-end) in
    sym (c.loop.invariant ∙ rw k (led_none _ c.loop.at))
