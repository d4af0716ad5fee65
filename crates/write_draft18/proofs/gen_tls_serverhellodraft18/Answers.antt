-- `write_draft18::gen_tls_serverhellodraft18` meets its contract: a part lies outside, or the
-- writer of the parts says what came of it. Assumes nothing.
use mathlib.Core.Path.{ap}
use mathlib.Core.Bool.{not}
use Rattle.read_server.specs.Server.{draft18}
use Rattle.write_rules.proofs.Hellos.{outside_refused, by_parts}
use Rattle.write_draft18.proofs.gen_tls_serverhellodraft18.Goals as goal

pub returns-then-not-lies_in : goal.returns-then-not-lies_in
returns-then-not-lies_in c =
    let o = outside_refused draft18 _ _ 0x02 _ c.lies_in.ensures (ap not c.if-not-lies_in.true)
    c.unplaced.ensures in
    record {
      result_value = o.0;
      out_after = o.1;
    }

pub returns : goal.returns
returns c =
    let w = rw (c.random-random.ensures, c.ext-ext.ensures) at c.gen_serverhellodraft18.ensures in
    let o = by_parts draft18 c.args.i.now c.args.m 0x02 _ c.lies_in.ensures (ap not c.if-not-lies_in.false)
    (w.answer_value, (w.len_value, w.out_after)) in
    record {
      result_value = o.0;
      out_after = o.1;
    }
