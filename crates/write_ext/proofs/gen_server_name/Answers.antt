-- `write_ext::gen_server_name` meets its contract: the name is too long, or there is no room, or
-- type, length and name are put in. Assumes nothing.
use mathlib.Core.Path.{sym, ◌∙◌}
use native.Mathlib.Omega.{arith}
use Rattle.refusal.specs.Answers.{as_answer}
use Rattle.refusal.proofs.Told.{case}
use Rattle.wire.proofs.Parts.{room_fits}
use Rattle.write_rules.proofs.Messages.{told_refused, text_short, text_put}
use Rattle.write_ext.proofs.OneText.{name_not, name_is, name_short, name_long, tag_put}
use Rattle.write_ext.proofs.gen_server_name.Goals as goal

pub returns-then-not-may_follow : goal.returns-then-not-may_follow
returns-then-not-may_follow c =
    let o = told_refused _ (name_not c.args.name_type _ (sym c.may_follow.ensures ∙ c.if-not-may_follow.true))
    c.refused.ensures.answer_value c.refused.ensures.len_value in
    record {
      answer_value = o.0;
      len_value = o.1.0;
      out_after = o.1.1;
    }

pub returns-in-Err : goal.returns-in-Err
returns-in-Err c =
    let i = name_is c.args.name_type _ (sym c.may_follow.ensures ∙ c.if-not-may_follow.false) in
    let o = text_short _ i (name_long c.args.name_type c.args.name.now) (case as_answer c.room_for.ensures c.in-Err.is) in
    record {
      answer_value = o.0;
      len_value = o.1.0;
      out_after = o.1.1;
    }

pub returns-in-Ok : goal.returns-in-Ok
returns-in-Ok c =
    let m = sym c.may_follow.ensures ∙ c.if-not-may_follow.false in
    let q = case as_answer c.room_for.ensures c.in-Ok.is in
    let y = tag_put 1 c.args.name_type c.args.name.now c.args.out.now 0 _ _ (omega arith) (name_short c.args.name_type _ m)
    (omega (arith, (room_fits _ _ _ q).inside)) c.gen_be.ensures.out_after c.gen_length_data.ensures.out_after in
    let o = text_put _ (name_is c.args.name_type _ m) (name_long c.args.name_type c.args.name.now) q y in
    record {
      answer_value = o.0;
      len_value = o.1.0;
      out_after = o.1.1;
    }
