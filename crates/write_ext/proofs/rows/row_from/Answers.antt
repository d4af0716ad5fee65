-- `write_ext::rows::row_from` meets its contract: there are ten bytes, and the row is the numbers
-- in them. Assumes nothing.
use mathlib.Core.Path.{sym}
use native.Mathlib.Omega.{arith}
use Rattle.refusal.specs.Answers.{as_answer}
use Rattle.refusal.proofs.Told.{case, hands_on}
use Rattle.field.proofs.Rules.{step_in}
use Rattle.write_ext.specs.ExtTexts.{row_from}
use Rattle.write_ext.proofs.AllRows.{row_at}
use Rattle.write_ext.proofs.rows.row_from.Goals as goal

pub overflow_add-at : goal.overflow_add-at
overflow_add-at c =
    let e = case as_answer c.take.ensures c.in_ok-p.was in
    omega (arith, step_in _ _ _ e)

pub overflow_add-at-2 : goal.overflow_add-at-2
overflow_add-at-2 c =
    let e = case as_answer c.take.ensures c.in_ok-p.was in
    omega (arith, step_in _ _ _ e)

pub returns-in_err-p : goal.returns-in_err-p
unfolding row_from
returns-in_err-p c =
    let e = case as_answer c.take.ensures c.in_err-p.was in
    hands_on _ c.from_residual.ensures (rw e)

pub returns : goal.returns
returns c =
    let e = case as_answer c.take.ensures c.in_ok-p.was in
    rw (c.number_there.ensures.value, c.number_there-2.ensures.value, c.number_there-3.ensures.value)
    (sym (row_at _ _ e))
