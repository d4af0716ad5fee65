-- The items of a list, and the one at a place: RULES 2.7, 2.8; RFC 5246 4.3. A list goes up to the
-- first item that does not fit; from its count on there is NoSuch.
use Rattle.std.specs.Prelude.{◌≤◌, ◌≡◌, ◌∷◌}
use Rattle.refusal.specs.{ℕ, zero, suc, List, [], length, refusal, Answer, accepted, refused, or_else, NoSuch, giving}
use Rattle.wire.specs.{be, Number, Part}
use Rattle.field.specs.{Field, step, least}

-- what is found and what follows it, or nothing
abbrev pub go_on_of : {A : Type 0} → Answer A → (A → List A) → List A
go_on_of (accepted x) k = x ∷ k x
go_on_of (refused r) k = []

-- the items from the byte `at` on, one behind the other until none is found: `find` looks at a
-- byte, `past x` is the byte past x. At most n of them: a bound for the recursion. Where each takes
-- a byte at least, the length of the bytes never ends a list (`NoneMore`)
unfoldable pub items_from : {A : Type 0} → ℕ → (ℕ → Answer A) → (A → ℕ) → ℕ → List A
items_from zero find past at = []
items_from (suc n) find past at = go_on_of (find at) (λ x. items_from n find past (past x))

-- the item at place n of a list, counted from 0; NoSuch at or past the count
unfoldable pub place : {A : Type 0} → ℕ → List A → Answer A
place n [] = refused (refusal NoSuch 0 0)
place zero (x ∷ xs) = accepted x
place (suc n) (x ∷ xs) = place n xs

-- where one is found, else NoSuch
abbrev pub or_no_such : {A : Type 0} → Answer A → Answer A
or_no_such a = or_else a (refused (refusal NoSuch 0 0))

-- the item that begins at a byte, where one fits
unfoldable pub item_from : Field → List ℕ → ℕ → Answer Part
item_from f s at = or_no_such (step f s at)

-- and where it ends
abbrev pub past_item : Field → List ℕ → ℕ → Answer ℕ
past_item f s at = giving (λ p. p.next) (item_from f s at)

-- all of them, for a field that takes a byte at least
abbrev pub items : Field → List ℕ → List Part
items f s = items_from (length s) (step f s) (λ p. p.next) 0

-- so the bound never ends a list: by a larger one no more are found
abbrev pub NoneMore : Type 0
NoneMore = (f : Field) → 1 ≤ least f → (s : List ℕ) (n : ℕ) → length s ≤ n → items_from n (step f s) (λ p. p.next) 0 ≡ items f s

-- the number at place n of a list of numbers of w bytes, and the byte past it
abbrev pub number_place : ℕ → ℕ → List ℕ → Answer Number
number_place n w s = giving (λ p. record { value = be w s p.view.start; next = p.next }) (place n (items (Field.fixed w) s))
