-- `write_ext::rows::put_rows` meets its contract: the rows so far are put in, and there is room for
-- the others. Assumes nothing.
use native.Mathlib.Omega.{arith}
use Rattle.refusal.specs.Answers.{as_answer}
use Rattle.refusal.proofs.Told.{case}
use Rattle.write_ext.proofs.AllRows.{further, puts, puts-end, puts-not, puts-next}
use Rattle.write_ext.proofs.rows.put_rows.Goals as goal

pub loop-row-init : goal.loop-row-init
loop-row-init c = puts _ _ _ c.requires

pub returns : goal.returns
returns c =
    let e = case as_answer c.row_from.ensures c.in_default.is in
    puts-end _ _ _ c.loop-row.invariant e

pub returns-in_default-gen_at : goal.returns-in_default-gen_at
returns-in_default-gen_at c =
    let e = case as_answer c.row_from.ensures c.in-Ok.is in
    let q = case as_answer c.gen_at.ensures.result_value c.in_default-gen_at.is in
    absurd (puts-not _ _ _ c.loop-row.invariant e c.part_of-content.ensures q)

pub loop-row-smaller : goal.loop-row-smaller
loop-row-smaller c =
    let e = case as_answer c.row_from.ensures c.in-Ok.is in
    omega (arith, further _ _ e)

pub loop-row-preserved : goal.loop-row-preserved
loop-row-preserved c =
    let e = case as_answer c.row_from.ensures c.in-Ok.is in
    let q = case as_answer c.gen_at.ensures.result_value c.in-Ok-gen_at.is in
    puts-next _ _ _ c.loop-row.invariant e c.part_of-content.ensures q c.gen_at.ensures.out_after
