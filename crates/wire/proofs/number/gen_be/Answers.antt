-- `wire::number::gen_be` meets its contract: the number is too large, or has no room, or is put in.
-- Assumes nothing.
use mathlib.Core.Path.{ap, sym, ◌∙◌}
use Rattle.refusal.specs.Answers.{refused}
use Rattle.refusal.proofs.Told.{hands_on}
use Rattle.wire.proofs.Parts.{room_fits}
use Rattle.wire.proofs.Puts.{number_over, number_out, number_put}
use Rattle.wire.proofs.number.gen_be.Goals as goal

pub returns-then-limit-n : goal.returns-then-limit-n
returns-then-limit-n c =
    let o = number_over _ _ _ _ (rw c.limit.ensures at c.if-limit-n.true) in
    record {
      result_value = ap refused c.unplaced.ensures ∙ sym o.says;
      out_after = sym o.leaves;
    }

pub put_number-requires : goal.put_number-requires
put_number-requires c =
    (room_fits _ _ _ (sym c.in_ok-p.ensures)).inside

pub returns-in_err-p : goal.returns-in_err-p
returns-in_err-p c =
    let e = sym c.in_err-p.ensures in
    let o = number_out _ _ _ _ (rw c.limit.ensures at c.if-limit-n.false)
    (rw c.width_bytes-count.ensures at e) in
    record {
      result_value = hands_on _ c.from_residual.ensures (sym o.says);
      out_after = sym o.leaves;
    }

pub returns : goal.returns
returns c =
    let e = sym c.in_ok-p.ensures in
    let o = number_put _ _ _ _ (rw c.limit.ensures at c.if-limit-n.false)
    (rw c.width_bytes-count.ensures at e) in
    record {
      result_value = sym o.says;
      out_after = rw c.width_bytes-count.ensures at c.put_number.ensures ∙ sym o.leaves;
    }
