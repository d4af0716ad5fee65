-- `write_content::gen_alert` meets its contract: the level is refused, or the two bytes are put in.
-- Assumes nothing.
use Prim.Native.Nat.{ℕ}
use mathlib.Core.Path.{◌≡◌, sym, ◌∙◌}
use mathlib.Core.Bool.{true, false}
use mathlib.Core.List.{[], ◌∷◌}
use Rattle.refusal.specs.Answers.{accepted, refused}
use Rattle.refusal.specs.Refusals.{unplaced}
use Rattle.refusal.specs.declared.Reason.TheVariants.{BadLength}
use Rattle.write_rules.proofs.Messages.{told_refused}
use Rattle.content.specs.Contents.{one_or_two}
use Rattle.write_content.specs.ContentTexts.{alert_text}
use Rattle.write_content.proofs.gen_alert.Goals as goal

-- the text by the level
level-not : (severity code : ℕ) → one_or_two severity ≡ false → alert_text severity code ≡ refused (unplaced BadLength)
unfolding alert_text
level-not severity code e = rw e

level-may : (severity code : ℕ) → one_or_two severity ≡ true → alert_text severity code ≡ accepted (severity ∷ code ∷ [])
unfolding alert_text
level-may severity code e = rw e

pub returns-then-not-one_or_two : goal.returns-then-not-one_or_two
returns-then-not-one_or_two c =
    let o = told_refused _ (level-not c.args.severity c.args.code (sym c.one_or_two.ensures ∙ c.if-not-one_or_two.true))
    c.refused.ensures.answer_value c.refused.ensures.len_value in
    record {
      answer_value = o.0;
      len_value = o.1.0;
      out_after = o.1.1;
    }

pub returns : goal.returns
returns c =
    let t = level-may c.args.severity c.args.code (sym c.one_or_two.ensures ∙ c.if-not-one_or_two.false) in
    record {
      answer_value = rw t c.gen_bytes.ensures.result_value;
      len_value = rw t;
      out_after = rw t c.gen_bytes.ensures.out_after;
    }
