-- `write_others::gen_tls_clientkeyexchange` meets its contract, by that of `gen_view`: the kind
-- tells the form. Assumes nothing.
use mathlib.Core.Path.{◌≡◌}
use Rattle.refusal.specs.Answers.{then}
use Rattle.write_rules.specs.MessageTexts.{view_text, sized_text}
use Rattle.write_others.specs.Exchange.{exchange_text, part_text}
use Rattle.write_others.proofs.Parts.{raw_view}
use Rattle.write_others.proofs.gen_tls_clientkeyexchange.Goals as goal
use Rattle.write_others.proofs.gen_tls_clientkeyexchange.Goals.{in-Unknown, in-Dh, in-Ecdh}

pub returns : goal.returns
unfolding sized_text
returns c =
    let t : exchange_text c.args.i.now c.args.m ≡ then (view_text c.args.i.now c.match-m.form.1) (part_text c.match-m.form.0) =
    elim c.match-m.branch [
      | in-Unknown w ↦ rw (w.in-Unknown.is, w.form-is, raw_view)
      | in-Dh w ↦ rw (w.in-Dh.is, w.form-is)
      | in-Ecdh w ↦ rw (w.in-Ecdh.is, w.form-is)
    ] in
    record {
      result_value = rw t c.gen_view.ensures.result_value;
      out_after = rw t c.gen_view.ensures.out_after;
    }
