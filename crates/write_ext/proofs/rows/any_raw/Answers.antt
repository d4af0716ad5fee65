-- `write_ext::rows::any_raw` meets its contract: of the rows so far none is raw. Assumes nothing.
use mathlib.Core.Path.{sym, ap, ◌∙◌}
use native.Mathlib.Omega.{arith}
use Rattle.refusal.specs.Answers.{as_answer}
use Rattle.refusal.proofs.Told.{case}
use Rattle.write_ext.specs.ExtTexts.{raw_row}
use Rattle.write_ext.proofs.AllRows.{all_left, further, raw_end, raw-here, raw-next}
use Rattle.write_ext.proofs.rows.any_raw.Goals as goal

pub loop-row-init : goal.loop-row-init
loop-row-init c = ap raw_row (all_left c.args.values.now)

pub returns : goal.returns
returns c =
    let e = case as_answer c.row_from.ensures c.in_default.is in
    sym (c.loop-row.invariant ∙ raw_end _ _ e)

pub returns-then-is_raw : goal.returns-then-is_raw
returns-then-is_raw c =
    let e = case as_answer c.row_from.ensures c.in-Ok.is in
    sym (c.loop-row.invariant ∙ raw-here _ _ e (sym c.is_raw.ensures ∙ c.if-is_raw.true))

pub loop-row-smaller : goal.loop-row-smaller
loop-row-smaller c =
    let e = case as_answer c.row_from.ensures c.in-Ok.is in
    omega (arith, further _ _ e)

pub loop-row-preserved : goal.loop-row-preserved
loop-row-preserved c =
    let e = case as_answer c.row_from.ensures c.in-Ok.is in
    c.loop-row.invariant ∙ raw-next _ _ e (sym c.is_raw.ensures ∙ c.if-is_raw.false)
