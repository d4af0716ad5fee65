-- `write_others::gen_clientkeyexchange` meets its contract: the number names no form, or `gen_form`
-- says what came of the part. Assumes nothing.
use Rattle.write_rules.specs.MessageTexts.{head_text}
use Rattle.write_rules.proofs.Messages.{told_refused, message_not}
use Rattle.write_others.proofs.gen_clientkeyexchange.Goals as goal

pub returns-in-None : goal.returns-in-None
returns-in-None c =
    let o = told_refused _ (message_not (head_text 0x10) (rw c.in-None.is at (c.form_of.ensures c.args.part.now)))
    c.refused.ensures.answer_value c.refused.ensures.len_value in
    record {
      answer_value = o.0;
      len_value = o.1.0;
      out_after = o.1.1;
    }
