-- `field::closing_data` meets its contract: the length is missing, or unlike the bytes after it, or
-- not allowed, or decides the part. Assumes nothing.
use mathlib.Core.Path.{sym}
use Rattle.wire.proofs.Numbers.{number_is as length_at, number_short}
use Rattle.field.specs.Fields.{rule_of}
use Rattle.field.proofs.Rules.{allows_none}
use Rattle.field.proofs.Closing.{missing, unlike, fails_rule, like}
use Rattle.field.proofs.closing_data.Goals.{then-body-n-via-then-body-n, then-body-n-via-else-body-n+then-not-allows}
use Rattle.field.proofs.closing_data.Goals as goal

pub returns-in_default : goal.returns-in_default
returns-in_default c =
    sym (missing _ _ _ _ _
    (number_short _ _ _ (sym c.in_default.ensures.result_value)).outside)

pub overflow_sub-body : goal.overflow_sub-body
overflow_sub-body c =
    let n = length_at _ _ _ (sym c.in-Ok.ensures.result_value) in
    rw n.is n.inside

pub returns-then-body-n : goal.returns-then-body-n
returns-then-body-n c =
    let n = length_at _ _ _ (sym c.in-Ok.ensures.result_value) in
    elim c.then-body-n.branch [
      | then-body-n-via-then-body-n w ↦ sym (unlike _ _ _ _ _ n.inside (λ e. rw n.is at w.if-body-n.true (sym e)))
      | then-body-n-via-else-body-n+then-not-allows w ↦
          sym (fails_rule _ _ _ _ _ n.inside (rw n.is at (sym w.if-not-allows.ensures)))
    ]

pub returns : goal.returns
returns c =
    let n = length_at _ _ _ (sym c.in-Ok.ensures.result_value) in
    let e = rw n.is at c.if-body-n.false in
    let a = allows_none (rule_of c.args.rule) c.in-Ok.n.value (sym c.if-not-allows.ensures) in
    rw (n.is, ← e) (sym (like _ _ _ _ _ n.inside (sym e) (rw n.is at a)))
