-- `list::any::skip_any` meets its contract: so many steps led there. Assumes nothing.
use Prim.Native.Nat.{suc, ◌+◌}
use mathlib.Core.Path.{◌≡◌, refl}
use native.Mathlib.Omega.{arith}
use Rattle.list.specs.AnySteps.{Leads}
use Rattle.list.proofs.AnySteps.{leads_on}
use Rattle.list.proofs.any.skip_any.Goals as goal

pub loop-init : goal.loop-init
unfolding Leads
loop-init g c = (omega arith, refl)

pub loop-preserved : goal.loop-preserved
loop-preserved g c =
    let i = c.loop.invariant in
    let d : c.loop.counter + 1 ≡ suc c.loop.counter = omega arith in (
      omega (arith, rw c.in_ok-at.was at c.lead.type_inv),
      rw d (leads_on _ c.loop.counter 0 c.loop.at i.1 i.0 (rw c.in_ok-at.was at c.lead.ensures)),
    )
