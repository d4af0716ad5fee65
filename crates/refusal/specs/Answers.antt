-- An answer, which is a value or one refusal: RULES 0.1, 9.1, 10.16. `as_answer` takes each
-- `Result` of the code, by cases, into this: the table's number and the values.
use Rattle.std.specs.Prelude.{◌≡◌}
use Rattle.refusal.specs.Words.{ℕ, Option, none, some, Result, Ok, Err}
use Rattle.refusal.specs.Refusals.{number_of, inside}
use Rattle.refusal.specs.declared.Refusal.{Refusal}

pub data Answer (A : Type 0) : Type 0 where
  accepted : A → Answer A
  refused : Refusal → Answer A

-- what a `Result` of the code says
abbrev pub as_answer : {A : Type 0} → Result A Refusal → Answer A
as_answer (Ok a) = accepted a
as_answer (Err r) = refused r

-- the table's number: 0 accepted, 1 to 12 a refusal's
abbrev pub number_in : {A : Type 0} → Answer A → ℕ
number_in (accepted a) = 0
number_in (refused r) = number_of r.reason

-- the values: there are some where it is accepted
abbrev pub values_in : {A : Type 0} → Answer A → Option A
values_in (accepted a) = some a
values_in (refused r) = none

-- two answers tell the same: equal numbers and equal values
abbrev pub TellSame : {A : Type 0} → Answer A → Answer A → Type 0
TellSame x y = (number_in x ≡ number_in y) × (values_in x ≡ values_in y)

-- an answer of the code loses nothing in what it says: equal numbers and equal values are one
-- result
abbrev pub OneResult : {A B : Type 0} → (B → Answer A) → Type 0
OneResult {A} {B} says = (x y : B) → TellSame (says x) (says y) → x ≡ y

-- RULES 10.2: go on with the value, or hand on the refusal, as tls-parser's `?` does
abbrev pub then : {A B : Type 0} → Answer A → (A → Answer B) → Answer B
then (accepted a) k = k a
then (refused r) k = refused r

-- the same answer with its value made into another; a refusal stays
abbrev pub giving : {A B : Type 0} → (A → B) → Answer A → Answer B
giving make a = then a (λ x. accepted (make x))

-- the first where it is accepted, else the second
abbrev pub or_else : {A : Type 0} → Answer A → Answer A → Answer A
or_else (accepted a) y = accepted a
or_else (refused r) y = y

-- the answer of what lies inside a part that begins at a place
abbrev pub within : {A : Type 0} → ℕ → Answer A → Answer A
within at (accepted a) = accepted a
within at (refused r) = refused (inside at r)
