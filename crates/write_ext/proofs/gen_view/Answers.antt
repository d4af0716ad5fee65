-- `write_ext::gen_view` meets its contract: the content lies outside, or the writer of the content
-- says what came of it. Assumes nothing.
use mathlib.Core.Bool.{not}
use mathlib.Core.Path.{ap, sym}
use Rattle.write_ext.proofs.OneText.{view_out, view_in}
use Rattle.write_ext.proofs.gen_view.Goals as goal

pub returns-then-not-lies_in : goal.returns-then-not-lies_in
returns-then-not-lies_in c =
    let o = view_out c.args.i.now c.args.v c.args.ext_type _ c.lies_in.ensures (ap not c.if-not-lies_in.true)
    c.unplaced.ensures in
    record {
      result_value = sym o.says;
      out_after = sym o.leaves;
    }

pub returns : goal.returns
returns c =
    let e = view_in c.args.i.now c.args.v c.args.ext_type c.args.out.now c.lies_in.ensures _ c.part_of.ensures
    (ap not c.if-not-lies_in.false) in
    record {
      result_value = rw e c.gen_at.ensures.result_value;
      out_after = rw e c.gen_at.ensures.out_after;
    }
