-- `field::gen_length_data` meets its contract: the length is not allowed, or there is no room, or
-- length and part are put in. Assumes nothing.
use Prim.Native.Nat.{◌+◌}
use mathlib.Core.Path.{◌≡◌, ap, sym, ◌∙◌}
use native.Mathlib.Omega.{arith}
use Rattle.refusal.specs.Answers.{refused}
use Rattle.refusal.proofs.Told.{hands_on}
use Rattle.refusal.proofs.Then.{not_both}
use Rattle.wire.specs.Numbers.{bytes_in}
use Rattle.wire.proofs.Numbers.{width_bounds}
use Rattle.field.specs.Fields.{rule_of}
use Rattle.field.proofs.Texts.{below, vector_not, vector_out, vector_width, vector_in}
use Rattle.field.proofs.gen_length_data.Goals as goal

pub overflow_add-count : goal.overflow_add-count
overflow_add-count c =
    let a = c.args in
    omega (
      arith,
      width_bounds a.w,
      below _ (rule_of a.rule) _ (width_bounds a.w).1
          (sym c.if-not-may_follow.ensures),
    )

pub returns-then-not-may_follow : goal.returns-then-not-may_follow
returns-then-not-may_follow c =
    let a = c.args in
    let o = vector_not _ (rule_of a.rule) _ _ _ (sym c.if-not-may_follow.ensures) in
    record {
      result_value = ap refused (c.unplaced.ensures ∙ rw c.unfit.ensures) ∙ sym o.says;
      out_after = sym o.leaves;
    }

pub returns-in_err-room_for : goal.returns-in_err-room_for
returns-in_err-room_for c =
    let e = sym c.in_err-room_for.ensures in
    let o = vector_out _ (rule_of c.args.rule) _ _ _
    (sym c.if-not-may_follow.ensures)
    (rw c.width_bytes-count.ensures at e) in
    record {
      result_value = hands_on _ c.from_residual.ensures (sym o.says);
      out_after = sym o.leaves;
    }

pub returns-in_err-next : goal.returns-in_err-next
returns-in_err-next c =
    let e = sym c.in_ok-room_for.ensures in
    let o = vector_width _ (rule_of c.args.rule) _ _ _
    (sym c.if-not-may_follow.ensures)
    (rw c.width_bytes-count.ensures at e) in
    absurd (not_both o.says (sym c.in_err-next.ensures.result_value))

pub returns : goal.returns
returns c =
    let m = sym c.if-not-may_follow.ensures in
    let e = rw c.width_bytes-count.ensures at (sym c.in_ok-room_for.ensures) in
    let l = vector_width _ (rule_of c.args.rule) _ _ _ m e in
    let q = sym l.says ∙ sym c.in_ok-next.ensures.result_value in
    let n : c.args.at + bytes_in c.args.w ≡ c.in_ok-next.next = cc q in
    let o = vector_in _ (rule_of c.args.rule) _ _ _ _ m e (c.gen_be.ensures.out_after ∙ l.leaves) in
    record {
      result_value = c.gen_bytes.ensures.result_value ∙ rw (← n) (sym o.says);
      out_after = c.gen_bytes.ensures.out_after ∙ rw (← n) (sym o.leaves);
    }
