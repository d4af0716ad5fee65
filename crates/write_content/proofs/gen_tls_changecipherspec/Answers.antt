-- `write_content::gen_tls_changecipherspec` meets its contract, by that of `gen_changecipherspec`.
-- Assumes nothing.
use Rattle.write_content.proofs.gen_tls_changecipherspec.Goals as goal

pub returns : goal.returns
returns c =
    record {
      result_value = c.gen_changecipherspec.ensures.answer_value;
      out_after = c.gen_changecipherspec.ensures.out_after;
    }
