-- `wire::output::gen_bytes` meets its contract: there is no room, or the bytes are put in. Assumes
-- nothing.
use mathlib.Core.Path.{refl, sym, ◌∙◌}
use Rattle.refusal.proofs.Told.{hands_on}
use Rattle.wire.proofs.Parts.{room_fits}
use Rattle.wire.proofs.Puts.{text_in, text_out}
use Rattle.wire.proofs.output.gen_bytes.Goals as goal

pub put_bytes-requires : goal.put_bytes-requires
put_bytes-requires c =
    (room_fits _ _ _ (sym c.in_ok-p.ensures)).inside

pub returns-in_err-p : goal.returns-in_err-p
returns-in_err-p c =
    let o = text_out _ _ _ refl (sym c.in_err-p.ensures) in
    record {
      result_value = hands_on _ c.from_residual.ensures (sym o.says);
      out_after = sym o.leaves;
    }

pub returns : goal.returns
returns c =
    let o = text_in _ _ _ refl (sym c.in_ok-p.ensures) in
    record {
      result_value = sym o.says;
      out_after = c.put_bytes.ensures ∙ sym o.leaves;
    }
