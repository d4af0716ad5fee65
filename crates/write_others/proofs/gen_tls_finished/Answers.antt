-- `write_others::gen_tls_finished` meets its contract, by that of `gen_view`. Assumes nothing.
use Rattle.write_others.proofs.Parts.{raw_view}
use Rattle.write_others.proofs.gen_tls_finished.Goals as goal

pub returns : goal.returns
returns c =
    record {
      result_value = rw (raw_view c.args.i.now c.args.m) at c.gen_view.ensures.result_value;
      out_after = rw (raw_view c.args.i.now c.args.m) at c.gen_view.ensures.out_after;
    }
