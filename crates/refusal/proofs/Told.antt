-- Numbers and values lose nothing: two answers with the same number of the table and the same
-- values are the same answer. RULES 9.1. Assumes nothing.
use Prim.Native.Nat.{ℕ}
use mathlib.Core.Path.{◌≡◌, refl, sym, ap, ◌∙◌}
use mathlib.Core.List.{List, [], ◌∷◌}
use native.Mathlib.Omega.{arith}
use lib.ListN.{get_or}
use Rattle.refusal.specs.Refusals.{number_of, refusal, unplaced, inside, NumbersApart}
use Rattle.std.specs.Prelude.{Result, Ok, Err, IsErr, IsErrAnd, IfOk}
use Rattle.refusal.specs.Answers.{Answer, accepted, refused, as_answer, TellSame, OneResult}
use Rattle.refusal.specs.declared.Reason.{Reason}
use Rattle.refusal.specs.declared.Reason.TheVariants.{Incomplete, Complete, Verify, LengthValue, Tag, Switch}
use Rattle.refusal.specs.declared.Reason.TheVariants.{TooLarge, BadLength, NoRoom, NoSuch}
use Rattle.refusal.specs.declared.Reason.TheVariants.{NotYetImplemented}
use Rattle.refusal.specs.declared.Refusal.{Refusal}

-- the table's rows, from 1 on
rows : List Reason
rows = Incomplete ∷ Incomplete ∷ Complete ∷ Verify ∷ LengthValue ∷ Tag ∷ Switch ∷ TooLarge ∷ BadLength ∷ NoRoom
    ∷ Incomplete ∷ NoSuch ∷ NotYetImplemented ∷ []

row_of : (r : Reason) → get_or rows (number_of r) Incomplete ≡ r
unfolding rows
row_of Incomplete = refl
row_of Complete = refl
row_of Verify = refl
row_of LengthValue = refl
row_of Tag = refl
row_of Switch = refl
row_of TooLarge = refl
row_of BadLength = refl
row_of NoRoom = refl
row_of NoSuch = refl
row_of NotYetImplemented = refl

-- a number of the table is that of one reason
one_reason : (r r' : Reason) → number_of r ≡ number_of r' → r ≡ r'
one_reason r r' e = sym (row_of r) ∙ ap (λ (n : ℕ). get_or rows n Incomplete) e ∙ row_of r'

-- and what its reason is, which a refusal tells whatever else it is made from
pub its_reason : (why : Reason) (at lack : ℕ) → (refusal why at lack).reason ≡ why
unfolding refusal
its_reason why at lack = refl

pub unplaced_reason : (why : Reason) → (unplaced why).reason ≡ why
unfolding unplaced
unplaced_reason why = refl

-- no place is told: one without a place, inside a part, is that of any place
pub unplaced_inside : (why : Reason) (at lack start : ℕ) → inside start (unplaced why) ≡ refusal why at lack
unfolding refusal unplaced inside
unplaced_inside why at lack start = refl

-- inside a part it stays
pub inside_reason : (at : ℕ) (r : Refusal) → (inside at r).reason ≡ r.reason
unfolding inside
inside_reason at r = refl

one_refusal : (r r' : Refusal) → r.reason ≡ r'.reason → r ≡ r'
one_refusal r r' e = ap (λ (why : Reason). record { reason = why }) e

-- no refusal has the number 0
pub not_zero_lem : (r : Reason) → 0 ≡ number_of r → ⊥
not_zero_lem Incomplete e = omega (arith, e)
not_zero_lem Complete e = omega (arith, e)
not_zero_lem Verify e = omega (arith, e)
not_zero_lem LengthValue e = omega (arith, e)
not_zero_lem Tag e = omega (arith, e)
not_zero_lem Switch e = omega (arith, e)
not_zero_lem TooLarge e = omega (arith, e)
not_zero_lem BadLength e = omega (arith, e)
not_zero_lem NoRoom e = omega (arith, e)
not_zero_lem NoSuch e = omega (arith, e)
not_zero_lem NotYetImplemented e = omega (arith, e)

pub numbers_apart : NumbersApart
numbers_apart = record { apart = one_reason; not_zero = not_zero_lem }

pub told : {A : Type 0} (x y : Answer A) → TellSame x y → x ≡ y
told (accepted a) (accepted b) (n, v) = cc
told (accepted a) (refused r) (n, v) = absurd (not_zero_lem r.reason n)
told (refused r) (accepted b) (n, v) = absurd (not_zero_lem r.reason (sym n))
told (refused r) (refused r') (n, v) = ap refused (one_refusal r r' (one_reason r.reason r'.reason n))

-- what a function ensures of its answer, where the answer was found to be one case
pub case : {A B : Type 0} (says : B → Answer A) {o x : B} {a : Answer A} → says o ≡ a → o ≡ x → a ≡ says x
case says e g = sym e ∙ ap says g

-- an enum with a way back from what it says loses nothing either
pub tells_all : {A B : Type 0} (says : B → Answer A) (back : Answer A → B) → ((b : B) → back (says b) ≡ b)
    → OneResult says
tells_all says back home x y e = sym (home x) ∙ ap back (told (says x) (says y) e) ∙ home y

-- such an enum is `Result`
abbrev result_back : {A : Type 0} → Answer A → Result A Refusal
result_back (accepted a) = Ok a
result_back (refused r) = Err r

result_home : {A : Type 0} (x : Result A Refusal) → result_back (as_answer x) ≡ x
result_home (Ok a) = refl
result_home (Err r) = refl

pub one_result : {A : Type 0} → OneResult (as_answer {A = A})
one_result = tells_all as_answer result_back result_home

-- what `?` hands on says that refusal
pub hands_on : {A : Type 0} (x : Result A Refusal) {e : Refusal} {a : Answer A} → IsErr x × IsErrAnd x (λ d. d ≡ e)
    → refused e ≡ a → as_answer x ≡ a
hands_on (Ok y) (i, j) p = absurd j
hands_on (Err d) (i, j) p = ap refused j ∙ p

-- and has no value of which anything would have to be shown
pub no_value : {A : Type 0} (x : Result A Refusal) (e : Refusal) (P : A → Type 0) → IsErr x × IsErrAnd x (λ d. d ≡ e)
    → IfOk x P
no_value (Ok y) e P (i, j) = absurd j
no_value (Err d) e P (i, j) = tt
