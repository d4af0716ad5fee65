-- `write_ext::gen_tls_extension` meets its contract: the kind of the value decides. Assumes
-- nothing.
use mathlib.Core.Path.{sym, ap, ◌∙◌}
use Rattle.refusal.specs.Answers.{refused}
use Rattle.wire.proofs.Puts.{text_refused}
use Rattle.write_ext.proofs.OneText.{value_names, value_fragment, value_groups, value_raw}
use Rattle.write_ext.proofs.gen_tls_extension.Goals as goal

pub returns-in-SNI : goal.returns-in-SNI
returns-in-SNI c =
    record {
      result_value = rw (value_names c.args.i.now c.in-SNI.is) c.gen_view.ensures.result_value;
      out_after = rw (value_names c.args.i.now c.in-SNI.is) c.gen_view.ensures.out_after;
    }

pub returns-in-MaxFragmentLength : goal.returns-in-MaxFragmentLength
returns-in-MaxFragmentLength c =
    record {
      result_value = rw (value_fragment c.args.i.now c.in-MaxFragmentLength.is) c.gen_fragment.ensures.result_value;
      out_after = rw (value_fragment c.args.i.now c.in-MaxFragmentLength.is) c.gen_fragment.ensures.out_after;
    }

pub returns-in-EllipticCurves : goal.returns-in-EllipticCurves
returns-in-EllipticCurves c =
    record {
      result_value = rw (value_groups c.args.i.now c.in-EllipticCurves.is) c.gen_view-in-EllipticCurves.ensures.result_value;
      out_after = rw (value_groups c.args.i.now c.in-EllipticCurves.is) c.gen_view-in-EllipticCurves.ensures.out_after;
    }

pub returns-in-Unknown : goal.returns-in-Unknown
returns-in-Unknown c =
    let o = text_refused 0 c.args.out.now (value_raw c.args.i.now c.in-Unknown.is
    ∙ ap refused (sym c.unplaced.ensures)) in
    record {
      result_value = sym o.says;
      out_after = sym o.leaves;
    }
