-- A reader's answers, number by number: what `wire::number::parse_be` ensures is the next field of
-- a reading, or the refusal that ends it. Assumes nothing.
use Prim.Native.Nat.{ℕ}
use mathlib.Core.Path.{◌≡◌, sym}
use mathlib.Core.List.{List, ◌∷◌}
use Rattle.std.specs.Prelude.{Result, Ok, Err, IsErr, IsErrAnd}
use Rattle.refusal.specs.Answers.{Answer, as_answer}
use Rattle.refusal.specs.declared.Refusal.{Refusal}
use Rattle.refusal.proofs.Told.{case, hands_on}
use Rattle.wire.specs.Numbers.{number_at}
use Rattle.wire.specs.declared.number.Number.{Number}
use Rattle.field.specs.Fields.{fixed}
use Rattle.field.proofs.Rules.{number_field, number_field_no}
use Rattle.grammar.specs.Grammars.{Row, How}
use Rattle.grammar.proofs.Chain.{So, and, stop}

-- a number of w bytes
abbrev pub heard : {X : Type 0} {whole : Answer X} {s : List ℕ} {w : ℕ} {how : How} {rs : List Row}
    (o : So whole s ((fixed w, how) ∷ rs)) {a : Result Number Refusal} {n : Number} → as_answer a ≡ number_at w s o.n
    → a ≡ Ok n → So whole s rs
heard {w = w} o e g = and o (number_field w _ _ (case as_answer e g))

-- and one that could not be had, whose refusal is handed on
pub unheard : {A : Type 0} {whole : Answer A} {s : List ℕ} {w : ℕ} {how : How} {rs : List Row}
    (o : So whole s ((fixed w, how) ∷ rs)) {a : Result Number Refusal} {r : Refusal} → as_answer a ≡ number_at w s o.n
    → a ≡ Err r → (x : Result A Refusal) → IsErr x × IsErrAnd x (λ d. d ≡ r) → as_answer x ≡ whole
unheard {w = w} o e g x h = hands_on x h (sym (stop o (number_field_no w _ _ (case as_answer e g))))
