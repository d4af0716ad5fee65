-- `write_content::gen_changecipherspec` meets its contract, by that of `gen_bytes`. Assumes
-- nothing.
use mathlib.Core.Path.{refl}
use Rattle.write_content.specs.ContentTexts.{cipher_spec_text}
use Rattle.write_content.proofs.gen_changecipherspec.Goals as goal

pub returns : goal.returns
unfolding cipher_spec_text
returns c =
    record {
      answer_value = c.gen_bytes.ensures.result_value;
      len_value = refl;
      out_after = c.gen_bytes.ensures.out_after;
    }
