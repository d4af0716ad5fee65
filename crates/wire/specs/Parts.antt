-- Parts of the bytes lent: what a view names, and the bytes from a place on. RULES 2.6: a view that
-- does not lie within the bytes gives the empty part.
use Rattle.std.specs.Prelude.{◌+◌, ◌-◌, ◌∷◌}
use Rattle.refusal.specs.{ℕ, List, [], Bool, true, false, Option, none, some, MayBe, None, Some, length, take, drop, leb, eqb, refusal, Answer, accepted, refused, Reason, Refusal}
use Rattle.wire.specs.declared.{view.Part.Part, view.View.View}

-- the first where the test holds, else the second
abbrev pub pick : {A : Type 0} → Bool → A → A → A
pick true a b = a
pick false a b = b

-- what is made of a value that is there, else the other
abbrev pub if_some : {A B : Type 0} → Option A → (A → B) → B → B
if_some (some a) k b = k a
if_some none k b = b

-- what stands beside a number in a table, if it is listed
abbrev pub lookup : {A : Type 0} → ℕ → List (ℕ × A) → Option A
lookup k [] = none
lookup k ((n, a) ∷ rows) = pick (eqb k n) (some a) (lookup k rows)

-- the view lies within the bytes
abbrev pub lies_in : List ℕ → View → Bool
lies_in s v = leb (v.start + v.len) (length s)

-- the bytes of a view, or none where it lies outside
abbrev pub part_of : List ℕ → View → List ℕ
part_of s v = pick (lies_in s v) (take v.len (drop v.start s)) []

-- a part that may be missing, as the code has it
abbrev pub OptView : Type 0
OptView = MayBe View

-- the bytes of a part that may be missing: a missing one has none
abbrev pub opt_part_of : List ℕ → OptView → List ℕ
opt_part_of s None = []
opt_part_of s (Some v) = part_of s v

-- the n bytes from a place on, or this refusal
abbrev pub part_or : Refusal → List ℕ → ℕ → ℕ → Answer Part
part_or r s at n = pick (leb (at + n) (length s)) (accepted (record { view = record { start = at; len = n }; next = at + n })) (refused r)

-- in reading: of the n bytes, those past the end are lacking
unfoldable pub part_at : Reason → List ℕ → ℕ → ℕ → Answer Part
part_at past s at n = part_or (refusal past at (n - (length s - at))) s at n
