-- `list::any::count_any_to_stop` meets its contract: so many steps led there. Assumes nothing.
use Prim.Native.Nat.{suc, ◌+◌}
use mathlib.Core.Path.{◌≡◌, refl}
use native.Mathlib.Omega.{arith}
use Rattle.list.specs.AnySteps.{Leads}
use Rattle.list.proofs.AnySteps.{leads_on}
use Rattle.list.proofs.any.count_any_to_stop.Goals as goal

pub loop-stop-init : goal.loop-stop-init
unfolding Leads
loop-stop-init g c = (omega (arith, c.ranges.from), omega arith, refl)

pub loop-stop-preserved : goal.loop-stop-preserved
loop-stop-preserved g c =
    let i = c.loop-stop.invariant in
    let s = rw c.in-Ok.is at c.lead.ensures in
    let o = g.met.S.OnwardStep.moves_on c.args.step.now c.loop-stop.end c.in-Ok.next i.0 s in
    let d : c.loop-stop.count + 1 ≡ suc c.loop-stop.count = omega arith in
    (omega (arith, rw c.in-Ok.is at c.lead.type_inv), omega (arith, i.1, o), rw d (leads_on _ c.loop-stop.count c.args.from c.loop-stop.end i.2 i.0 s))
