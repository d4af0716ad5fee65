-- `write_ext::rows::rows_length` meets its contract: the rows so far come to the sum, which is not
-- over 65,535. Assumes nothing.
use native.Mathlib.Omega.{arith}
use Rattle.refusal.specs.Answers.{as_answer}
use Rattle.refusal.proofs.Told.{case, hands_on}
use Rattle.write_ext.proofs.AllRows.{further, row_long, sums, sums-end, sums-not, sums-over, sums_next}
use Rattle.write_ext.proofs.rows.rows_length.Goals as goal

pub loop-row-init : goal.loop-row-init
loop-row-init c = sums _ _ c.requires

pub returns : goal.returns
returns c =
    let e = case as_answer c.row_from.ensures c.in_default.is in
    sums-end _ _ c.loop-row.invariant e

pub returns-in_err-sum : goal.returns-in_err-sum
returns-in_err-sum c =
    let e = case as_answer c.row_from.ensures c.in-Ok.is in
    let q = case as_answer c.row_length.ensures c.in_err-sum.was in
    hands_on _ c.from_residual.ensures (sums-not _ _ c.loop-row.invariant e q)

pub overflow_add-sum : goal.overflow_add-sum
overflow_add-sum c =
    let q = case as_answer c.row_length.ensures c.in_ok-sum.was in
    omega (arith, row_long _ _ q, c.loop-row.invariant.bound)

pub returns-then-sum-gt65535 : goal.returns-then-sum-gt65535
returns-then-sum-gt65535 c =
    let e = case as_answer c.row_from.ensures c.in-Ok.is in
    let q = case as_answer c.row_length.ensures c.in_ok-sum.was in
    sums-over _ _ c.loop-row.invariant e q c.unplaced.ensures c.if-sum-gt65535.true

pub loop-row-smaller : goal.loop-row-smaller
loop-row-smaller c =
    let e = case as_answer c.row_from.ensures c.in-Ok.is in
    omega (arith, further _ _ e)

pub loop-row-preserved : goal.loop-row-preserved
loop-row-preserved c =
    let e = case as_answer c.row_from.ensures c.in-Ok.is in
    let q = case as_answer c.row_length.ensures c.in_ok-sum.was in
    sums_next _ _ c.loop-row.invariant e q c.if-sum-gt65535.false
