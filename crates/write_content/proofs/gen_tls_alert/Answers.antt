-- `write_content::gen_tls_alert` meets its contract, by that of `gen_alert`. Assumes nothing.
use Rattle.write_content.proofs.gen_tls_alert.Goals as goal

pub returns : goal.returns
returns c =
    record {
      result_value = c.gen_alert.ensures.answer_value;
      out_after = c.gen_alert.ensures.out_after;
    }
