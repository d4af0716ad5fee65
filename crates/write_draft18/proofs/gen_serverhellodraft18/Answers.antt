-- `write_draft18::gen_serverhellodraft18` meets its contract: a part may not be written, there is
-- no room, or fields and head are put in. Assumes nothing.
use mathlib.Core.Path.{refl, sym, ◌∙◌}
use native.Mathlib.Omega.{arith}
use Rattle.refusal.specs.Answers.{as_answer}
use Rattle.refusal.proofs.Told.{case}
use Rattle.wire.proofs.Parts.{room_fits}
use Rattle.write_rules.proofs.Joins.{join_refused}
use Rattle.write_rules.proofs.Messages.{body_fits, message_in, no_room, wrote}
use Rattle.write_draft18.specs.Slices.{draft18_rows, draft18_parts}
use Rattle.write_draft18.proofs.Lengths.{may_write, may_bounds, may_message}
use Rattle.write_draft18.proofs.gen_serverhellodraft18.Goals as goal

pub overflow_add-len : goal.overflow_add-len
overflow_add-len c = omega (arith, may_bounds _ _ c.writable.ensures c.if-not-writable.false)

pub slice_bounds-put_fields-count : goal.slice_bounds-put_fields-count
slice_bounds-put_fields-count c =
    omega (arith, (room_fits _ _ _ (case as_answer c.room_for.ensures c.in-Ok.is)).inside)

pub slice_bounds-put_fields-start : goal.slice_bounds-put_fields-start
slice_bounds-put_fields-start c =
    omega (arith, (room_fits _ _ _ (case as_answer c.room_for.ensures c.in-Ok.is)).inside)

pub put_fields-requires : goal.put_fields-requires
put_fields-requires c =
    let m = may_message _ _ c.writable.ensures c.if-not-writable.false c.args.version c.args.cipher in
    (may_write _ _ c.writable.ensures c.if-not-writable.false c.args.version c.args.cipher, body_fits _ m (case as_answer c.room_for.ensures c.in-Ok.is))

pub returns-then-not-writable : goal.returns-then-not-writable
returns-then-not-writable c =
    let o = join_refused draft18_rows (draft18_parts c.args.version c.args.random.now c.args.cipher) _ 0x02 _
    (sym (c.writable.ensures c.args.version c.args.cipher) ∙ c.if-not-writable.true)
    c.refused.ensures.answer_value c.refused.ensures.len_value in
    record {
      answer_value = o.0;
      len_value = o.1.0;
      out_after = o.1.1;
    }

pub returns-in-Err : goal.returns-in-Err
returns-in-Err c =
    let o = no_room _ (may_message _ _ c.writable.ensures c.if-not-writable.false c.args.version c.args.cipher) refl (case as_answer c.room_for.ensures c.in-Err.is) in
    record {
      answer_value = o.0;
      len_value = o.1.0;
      out_after = o.1.1;
    }

pub returns-in-Ok : goal.returns-in-Ok
returns-in-Ok c =
    let m = may_message _ _ c.writable.ensures c.if-not-writable.false c.args.version c.args.cipher in
    let q = case as_answer c.room_for.ensures c.in-Ok.is in
    let o = wrote _ m refl (message_in _ m _ _ q c.put_fields.ensures c.gen_head.ensures.out_after) in
    record {
      answer_value = o.0;
      len_value = o.1.0;
      out_after = o.1.1;
    }
