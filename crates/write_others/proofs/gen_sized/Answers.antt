-- `write_others::gen_sized` meets its contract: the part may not be written, or there is no room,
-- or length and part and the head are put in. Assumes nothing.
use mathlib.Core.Bool.{not}
use mathlib.Core.Path.{ap, refl, sym, ◌∙◌}
use native.Mathlib.Omega.{arith}
use Rattle.refusal.specs.Answers.{as_answer}
use Rattle.refusal.proofs.Told.{case}
use Rattle.wire.specs.Numbers.{bytes_in}
use Rattle.wire.proofs.Parts.{room_fits}
use Rattle.field.specs.Fields.{sized}
use Rattle.field.proofs.Texts.{text_not}
use Rattle.write_rules.specs.MessageTexts.{head_text}
use Rattle.write_rules.proofs.Messages.{told_refused, message_not, no_room, wrote, message_by}
use Rattle.write_others.proofs.Parts.{field_message}
use Rattle.write_others.proofs.gen_sized.Goals as goal

pub returns-then-not-may_follow : goal.returns-then-not-may_follow
returns-then-not-may_follow c =
    let o = told_refused _ (message_not (head_text c.args.msg_type)
    (text_not (sized (bytes_in c.args.w)) c.args.part.now (sym c.may_follow.ensures ∙ c.if-not-may_follow.true)))
    c.refused.ensures.answer_value c.refused.ensures.len_value in
    record {
      answer_value = o.0;
      len_value = o.1.0;
      out_after = o.1.1;
    }

pub slice_bounds-gen_length_data-count : goal.slice_bounds-gen_length_data-count
slice_bounds-gen_length_data-count c =
    omega (arith, (room_fits _ _ _ (case as_answer c.room_for.ensures c.in-Ok.is)).inside)

pub slice_bounds-gen_length_data-start : goal.slice_bounds-gen_length_data-start
slice_bounds-gen_length_data-start c =
    omega (arith, (room_fits _ _ _ (case as_answer c.room_for.ensures c.in-Ok.is)).inside)

pub returns-in-Err : goal.returns-in-Err
returns-in-Err c =
    let m = field_message c.args.msg_type _ _ c.may_follow.ensures (ap not c.if-not-may_follow.false) c.requires _
    c.width_bytes.ensures in
    let o = no_room _ m refl (case as_answer c.room_for.ensures c.in-Err.is) in
    record {
      answer_value = o.0;
      len_value = o.1.0;
      out_after = o.1.1;
    }

pub returns-in-Ok : goal.returns-in-Ok
returns-in-Ok c =
    let m = field_message c.args.msg_type _ _ c.may_follow.ensures (ap not c.if-not-may_follow.false) c.requires _
    c.width_bytes.ensures in
    let q = case as_answer c.room_for.ensures c.in-Ok.is in
    let o = wrote _ m refl (message_by _ m _ _ m.is q c.gen_length_data.ensures.out_after c.gen_head.ensures.out_after) in
    record {
      answer_value = o.0;
      len_value = o.1.0;
      out_after = o.1.1;
    }
