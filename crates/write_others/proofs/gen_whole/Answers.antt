-- `write_others::gen_whole` meets its contract: the part is too long, or there is no room, or part
-- and head are put in. Assumes nothing.
use mathlib.Core.Path.{refl, sym, ◌∙◌}
use native.Mathlib.Omega.{arith}
use Rattle.refusal.specs.Answers.{as_answer}
use Rattle.refusal.proofs.Told.{case}
use Rattle.wire.proofs.Parts.{room_fits}
use Rattle.write_rules.proofs.Messages.{told_refused, message_over, body_message, no_room, wrote, message_by}
use Rattle.write_others.proofs.gen_whole.Goals as goal

pub returns-then-not-width_holds : goal.returns-then-not-width_holds
returns-then-not-width_holds c =
    let o = told_refused _ (message_over c.args.msg_type _ c.args.part.now refl (sym c.width_holds.ensures ∙ c.if-not-width_holds.true))
    c.refused.ensures.answer_value c.refused.ensures.len_value in
    record {
      answer_value = o.0;
      len_value = o.1.0;
      out_after = o.1.1;
    }

pub slice_bounds-gen_bytes-count : goal.slice_bounds-gen_bytes-count
slice_bounds-gen_bytes-count c =
    omega (arith, (room_fits _ _ _ (case as_answer c.room_for.ensures c.in-Ok.is)).inside)

pub slice_bounds-gen_bytes-start : goal.slice_bounds-gen_bytes-start
slice_bounds-gen_bytes-start c =
    omega (arith, (room_fits _ _ _ (case as_answer c.room_for.ensures c.in-Ok.is)).inside)

pub returns-in-Err : goal.returns-in-Err
returns-in-Err c =
    let m = body_message c.args.msg_type _ c.args.part.now refl (sym c.width_holds.ensures ∙ c.if-not-width_holds.false) in
    let o = no_room _ m refl (case as_answer c.room_for.ensures c.in-Err.is) in
    record {
      answer_value = o.0;
      len_value = o.1.0;
      out_after = o.1.1;
    }

pub returns-in-Ok : goal.returns-in-Ok
returns-in-Ok c =
    let m = body_message c.args.msg_type _ c.args.part.now refl (sym c.width_holds.ensures ∙ c.if-not-width_holds.false) in
    let q = case as_answer c.room_for.ensures c.in-Ok.is in
    let o = wrote _ m refl (message_by _ m _ _ refl q c.gen_bytes.ensures.out_after c.gen_head.ensures.out_after) in
    record {
      answer_value = o.0;
      len_value = o.1.0;
      out_after = o.1.1;
    }
