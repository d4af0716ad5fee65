-- `write_record::gen_tls_plaintext` meets its contract, by that of `gen_plaintext`. Assumes
-- nothing.
use Rattle.write_record.proofs.gen_tls_plaintext.Goals as goal

pub returns : goal.returns
returns c =
    record {
      result_value = c.gen_plaintext.ensures.answer_value;
      out_after = c.gen_plaintext.ensures.out_after;
    }
