-- What an answer that was gone on with says of its two halves. Assumes nothing.
use Prim.Native.Nat.{ℕ}
use mathlib.Core.Path.{◌≡◌, refl}
use mathlib.Core.Logic.{◌⊎◌, inl, inr}
use Rattle.refusal.specs.Answers.{Answer, accepted, refused, then, within}
use Rattle.refusal.specs.declared.Refusal.{Refusal}

-- no answer is both
pub not_both : {A : Type 0} {a : A} {r : Refusal} {x : Answer A} → x ≡ accepted a → x ≡ refused r → ⊥
not_both p q = cc

pub then_accepted : {A B : Type 0} (x : Answer A) (k : A → Answer B) {b : B} → then x k ≡ accepted b → (a : A)
    × (x ≡ accepted a) × (k a ≡ accepted b)
then_accepted (accepted a) k e = (a, refl, e)
then_accepted (refused r) k e = absurd (not_both e refl)

pub then_refused : {A B : Type 0} (x : Answer A) (k : A → Answer B) {r : Refusal} → then x k ≡ refused r
    → (x ≡ refused r) ⊎ ((a : A) × (x ≡ accepted a) × (k a ≡ refused r))
then_refused (accepted a) k e = inr (a, refl, e)
then_refused (refused r) k e = inl (let d : refused r ≡ refused _ = e in cc)

-- an answer is one or the other
pub either : {A : Type 0} (x : Answer A) → ((a : A) × (x ≡ accepted a)) ⊎ ((r : Refusal) × (x ≡ refused r))
either (accepted a) = inl (a, refl)
either (refused r) = inr (r, refl)

pub within_accepted : {A : Type 0} (at : ℕ) (x : Answer A) {a : A} → within at x ≡ accepted a → x ≡ accepted a
within_accepted at (accepted b) e = e
within_accepted at (refused r) e = absurd (not_both e refl)
