-- `write_ext::rows::gen_tls_extensions` meets its contract: a row is raw, or bytes are left behind
-- the last, or the extensions may not be written or find no room, or they and their length are put
-- in. Assumes nothing.
use mathlib.Core.Path.{sym, ◌∙◌}
use native.Mathlib.Omega.{arith}
use Rattle.refusal.specs.Answers.{as_answer}
use Rattle.refusal.proofs.Told.{case}
use Rattle.wire.proofs.Parts.{room_fits}
use Rattle.write_rules.proofs.Messages.{told_refused}
use Rattle.write_ext.proofs.AllRows.{all_raw, all_odd, all_refused, all_short, all_fit, all-out, all_in}
use Rattle.write_ext.proofs.rows.gen_tls_extensions.Goals as goal

pub returns-then-any_raw : goal.returns-then-any_raw
returns-then-any_raw c =
    let o = told_refused _ (all_raw c.args.values.now c.args.bytes.now (sym c.any_raw.ensures ∙ c.if-any_raw.true))
    c.refused.ensures.answer_value c.refused.ensures.len_value in
    record {
      answer_value = o.0;
      len_value = o.1.0;
      out_after = o.1.1;
    }

pub returns-then-values-ne0 : goal.returns-then-values-ne0
returns-then-values-ne0 c =
    let o = told_refused _ (all_odd c.args.values.now c.args.bytes.now (sym c.any_raw.ensures ∙ c.if-any_raw.false) c.if-values-ne0.true)
    c.refused-then-values-ne0.ensures.answer_value c.refused-then-values-ne0.ensures.len_value in
    record {
      answer_value = o.0;
      len_value = o.1.0;
      out_after = o.1.1;
    }

pub returns-in_default : goal.returns-in_default
returns-in_default c =
    let n = sym c.any_raw.ensures ∙ c.if-any_raw.false in
    let q = case as_answer c.rows_length.ensures c.in_default.is in
    let o = told_refused _ (all_refused c.args.values.now c.args.bytes.now n c.if-values-ne0.false q)
    c.refused-in_default.ensures.answer_value c.refused-in_default.ensures.len_value in
    record {
      answer_value = o.0;
      len_value = o.1.0;
      out_after = o.1.1;
    }

pub rows_length-requires : goal.rows_length-requires
rows_length-requires c = sym c.any_raw.ensures ∙ c.if-any_raw.false

pub overflow_add-len : goal.overflow_add-len
overflow_add-len c =
    let q = case as_answer c.rows_length.ensures c.in-Ok.is in
    omega (arith, all_short _ _ q)

pub slice_bounds-put_rows-count : goal.slice_bounds-put_rows-count
slice_bounds-put_rows-count c =
    let f = case as_answer c.room_for.ensures c.in-Ok-room_for.is in
    omega (arith, (room_fits _ _ _ f).inside)

pub slice_bounds-put_rows-start : goal.slice_bounds-put_rows-start
slice_bounds-put_rows-start c =
    let f = case as_answer c.room_for.ensures c.in-Ok-room_for.is in
    omega (arith, (room_fits _ _ _ f).inside)

pub put_rows-requires : goal.put_rows-requires
put_rows-requires c =
    let q = case as_answer c.rows_length.ensures c.in-Ok.is in
    let f = case as_answer c.room_for.ensures c.in-Ok-room_for.is in
    all_fit _ _ q _ f

pub returns-in-Err : goal.returns-in-Err
returns-in-Err c =
    let n = sym c.any_raw.ensures ∙ c.if-any_raw.false in
    let q = case as_answer c.rows_length.ensures c.in-Ok.is in
    let f = case as_answer c.room_for.ensures c.in-Err.is in
    let o = all-out _ _ q _ n c.if-values-ne0.false f in
    record {
      answer_value = o.0;
      len_value = o.1.0;
      out_after = o.1.1;
    }

pub returns-in-Ok-room_for : goal.returns-in-Ok-room_for
returns-in-Ok-room_for c =
    let n = sym c.any_raw.ensures ∙ c.if-any_raw.false in
    let q = case as_answer c.rows_length.ensures c.in-Ok.is in
    let f = case as_answer c.room_for.ensures c.in-Ok-room_for.is in
    let o = all_in _ _ q _ n c.if-values-ne0.false _ _ f c.put_rows.ensures c.gen_be.ensures.out_after in
    record {
      answer_value = o.0;
      len_value = o.1.0;
      out_after = o.1.1;
    }
