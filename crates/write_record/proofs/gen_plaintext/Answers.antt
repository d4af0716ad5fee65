-- `write_record::gen_plaintext` meets its contract: the content is too large, or there is no
-- room, or the record is put in. Assumes nothing.
use mathlib.Core.Path.{sym, ◌∙◌}
use native.Mathlib.Omega.{arith}
use Rattle.refusal.specs.Answers.{as_answer}
use Rattle.refusal.proofs.Told.{case}
use Rattle.wire.proofs.Parts.{room_fits}
use Rattle.write_rules.proofs.Messages.{told_refused, text_short, text_put}
use Rattle.write_record.proofs.Records.{record_not, record_may, record_long, record_put}
use Rattle.write_record.proofs.gen_plaintext.Goals as goal

pub returns-then-not-may_follow : goal.returns-then-not-may_follow
returns-then-not-may_follow c =
    let o = told_refused _ (record_not c.args.hdr _ (sym c.may_follow.ensures ∙ c.if-not-may_follow.true))
    c.refused.ensures.answer_value c.refused.ensures.len_value in
    record {
      answer_value = o.0;
      len_value = o.1.0;
      out_after = o.1.1;
    }

pub returns-in-Err : goal.returns-in-Err
returns-in-Err c =
    let i = record_may c.args.hdr _ (sym c.may_follow.ensures ∙ c.if-not-may_follow.false) in
    let o = text_short _ i (record_long c.args.hdr _) (case as_answer c.room_for.ensures c.in-Err.is) in
    record {
      answer_value = o.0;
      len_value = o.1.0;
      out_after = o.1.1;
    }

pub returns-in-Ok : goal.returns-in-Ok
returns-in-Ok c =
    let m = sym c.may_follow.ensures ∙ c.if-not-may_follow.false in
    let q = case as_answer c.room_for.ensures c.in-Ok.is in
    let y = record_put c.args.hdr _ c.args.out.now _ _ _ m (omega (arith, (room_fits _ _ _ q).inside)) (omega arith) (omega arith)
    c.gen_be.ensures.out_after c.gen_be-in-Ok.ensures.out_after c.gen_length_data.ensures.out_after in
    let o = text_put _ (record_may c.args.hdr _ m) (record_long c.args.hdr _) q y in
    record {
      answer_value = o.0;
      len_value = o.1.0;
      out_after = o.1.1;
    }
