-- `write_client::gen_tls_clienthello` meets its contract: a part lies outside, or the writer of the
-- parts says what came of it. Assumes nothing.
use mathlib.Core.Bool.{not}
use mathlib.Core.Path.{ap}
use Rattle.read_client.specs.Client.{client}
use Rattle.write_rules.proofs.Hellos.{outside_refused, by_parts}
use Rattle.write_client.proofs.gen_tls_clienthello.Goals as goal

pub returns-then-not-lies_in : goal.returns-then-not-lies_in
returns-then-not-lies_in c =
    let o = outside_refused client _ _ 0x01 _ c.lies_in.ensures (ap not c.if-not-lies_in.true)
    c.unplaced.ensures in
    record {
      result_value = o.0;
      out_after = o.1;
    }

pub returns : goal.returns
returns c =
    let w = rw (
      c.random-random.ensures,
      c.session_id-id.ensures,
      c.part_of-ciphers.ensures,
      c.part_of-comp.ensures,
      c.ext-ext.ensures,
    ) at c.gen_clienthello.ensures in
    let o = by_parts client c.args.i.now c.args.m 0x01 _ c.lies_in.ensures (ap not c.if-not-lies_in.false)
    (w.answer_value, (w.len_value, w.out_after)) in
    record {
      result_value = o.0;
      out_after = o.1;
    }
