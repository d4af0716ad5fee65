-- `field::length_data` meets its contract: the length is not there, or not allowed, or decides the
-- part. Assumes nothing.
use mathlib.Core.Path.{sym, ◌∙◌}
use Rattle.refusal.proofs.Told.{hands_on}
use Rattle.field.specs.Fields.{rule_of, step}
use Rattle.field.proofs.Rules.{allows_none, ruled_in}
use Rattle.field.proofs.length_data.Goals as goal

pub returns-in_err-n : goal.returns-in_err-n
unfolding step
returns-in_err-n c =
    hands_on _ c.from_residual.ensures
    (rw (← c.in_err-n.ensures.result_value))

pub returns : goal.returns
unfolding step
returns c =
    let a = allows_none (rule_of c.args.rule) c.in_ok-n.n.value
    (sym c.if-not-allows.ensures) in
    rw (← c.in_ok-n.ensures.result_value)
    (rw c.past.ensures at c.take_or.ensures ∙ sym (ruled_in _ _ _ _ _ a))

pub returns-then-not-allows : goal.returns-then-not-allows
unfolding step
returns-then-not-allows c =
    rw (← c.in_ok-n.ensures.result_value)
    (sym (c.broken.ensures _ _ (sym c.if-not-allows.ensures)))
