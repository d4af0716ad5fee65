-- `write_rules::gen_head` meets its contract: the length is too large, or there is no room, or type
-- and length are put in. Assumes nothing.
use mathlib.Core.Path.{sym, ◌∙◌}
use native.Mathlib.Omega.{arith}
use Rattle.refusal.specs.Answers.{as_answer}
use Rattle.refusal.proofs.Told.{case, hands_on}
use Rattle.write_rules.proofs.Messages.{head_not, head-out, head_in}
use Rattle.write_rules.proofs.gen_head.Goals as goal

pub returns-in_err-p : goal.returns-in_err-p
returns-in_err-p c =
    let o = head-out _ _ _ (sym c.width_holds.ensures ∙ c.if-width_holds.true)
    (case as_answer c.room_for.ensures c.in_err-p.was) in
    record {
      result_value = hands_on _ c.from_residual.ensures (sym o.says);
      out_after = sym o.leaves;
    }

pub returns-in_ok-p : goal.returns-in_ok-p
returns-in_ok-p c =
    let o = head_in _ _ _ (sym c.width_holds.ensures ∙ c.if-width_holds.true) _ _ (omega arith)
    (case as_answer c.room_for.ensures c.in_ok-p.was) c.gen_be.ensures.out_after c.gen_be-then-width_holds.ensures.out_after in
    record {
      result_value = sym o.says;
      out_after = sym o.leaves;
    }

pub returns-else-width_holds : goal.returns-else-width_holds
returns-else-width_holds c =
    let o = head_not _ _ _ (sym c.width_holds.ensures ∙ c.if-width_holds.false)
    c.unplaced.ensures in
    record {
      result_value = sym o.says;
      out_after = sym o.leaves;
    }
