-- `list::steps::count_to_stop` meets its contract: the steps that were taken and those that are
-- left are all of them. Assumes nothing.
use Prim.Native.Nat.{◌^◌, ◌<◌}
use mathlib.Core.Path.{sym}
use native.Mathlib.Omega.{arith}
use Rattle.refusal.specs.Answers.{as_answer}
use Rattle.refusal.proofs.Told.{case}
use Rattle.list.proofs.Stepping.{stands_first, stands_on, stands_last}
use Rattle.list.proofs.steps.count_to_stop.Goals as goal

pub loop-stop-init : goal.loop-stop-init
loop-stop-init g c = (omega (arith, c.ranges.from), omega arith, stands_first _ c.args.from)

pub loop-stop-preserved : goal.loop-stop-preserved
loop-stop-preserved g c =
    let (b, l, i) = c.loop-stop.invariant in
    let s = rw c.in-Ok.is at c.past.ensures in
    let o = g.met.S.Step.moves_on c.args.step.now c.loop-stop.end c.in-Ok.next b (sym s) in
    let n : c.loop-stop.count < 2 ^ 64 = omega (arith, b, l) in (
      omega (arith, rw c.in-Ok.is at c.past.type_inv),
      omega (arith, l, o),
      stands_on _ c.args.from c.loop-stop.count c.loop-stop.end i n (sym s),
    )

pub returns-in-Err-clause-count_value : goal.returns-in-Err-clause-count_value
returns-in-Err-clause-count_value g c =
    let (b, l, i) = c.loop-stop.invariant in
    let n : c.loop-stop.count < 2 ^ 64 = omega (arith, b, l) in
    (stands_last _ c.args.from c.loop-stop.count c.loop-stop.end i n (case as_answer c.past.ensures c.in-Err.is)).0

pub returns-in-Err-clause-end_value : goal.returns-in-Err-clause-end_value
returns-in-Err-clause-end_value g c =
    let (b, l, i) = c.loop-stop.invariant in
    let n : c.loop-stop.count < 2 ^ 64 = omega (arith, b, l) in
    (stands_last _ c.args.from c.loop-stop.count c.loop-stop.end i n (case as_answer c.past.ensures c.in-Err.is)).1
