-- `write_others::gen_view` meets its contract: the part lies outside, or the writer of the part
-- says what came of it. Assumes nothing.
use mathlib.Core.Bool.{not}
use mathlib.Core.Path.{ap}
use Rattle.write_others.specs.Exchange.{part_text}
use Rattle.write_others.proofs.Parts.{outside_refused, by_part}
use Rattle.write_others.proofs.gen_view.Goals as goal

pub returns-then-not-lies_in : goal.returns-then-not-lies_in
returns-then-not-lies_in c =
    let o = outside_refused _ _ (part_text c.args.form) _ _ c.lies_in.ensures (ap not c.if-not-lies_in.true)
    c.unplaced.ensures in
    record {
      result_value = o.0;
      out_after = o.1;
    }

pub returns : goal.returns
returns c =
    let o = by_part _ _ (part_text c.args.form) _ _ c.lies_in.ensures _ c.part_of.ensures (ap not c.if-not-lies_in.false)
    (c.gen_form.ensures.answer_value, (c.gen_form.ensures.len_value, c.gen_form.ensures.out_after)) in
    record {
      result_value = o.0;
      out_after = o.1;
    }
