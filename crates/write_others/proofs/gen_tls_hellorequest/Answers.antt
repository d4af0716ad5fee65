-- `write_others::gen_tls_hellorequest` meets its contract: the message is its head. Assumes
-- nothing.
use Rattle.write_others.proofs.Parts.{empty}
use Rattle.write_others.proofs.gen_tls_hellorequest.Goals as goal

pub returns : goal.returns
returns c =
    record {
      result_value = rw (← empty 0) c.gen_head.ensures.result_value;
      out_after = rw (← empty 0) c.gen_head.ensures.out_after;
    }
