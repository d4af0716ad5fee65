-- A field in the bytes, with no reader in it: what its bytes are, which parts it may have, where
-- the part lies, and what it is for the bytes to lack it. RULES 2.2, 9.4; RFC 5246 4.3.
use Rattle.std.specs.Prelude.{◌+◌, ◌-◌, ◌^◌, ◌<◌, ◌≡◌, ◌⊎◌, ◌++◌}
use Rattle.refusal.specs.{ℕ, List, none, some, length, refusal, Reason, Incomplete, Refusal}
use Rattle.wire.specs.{bytes_of, View}
use Rattle.field.specs.Fields.{Field, fixed, vector, Rule}

-- a field's bytes: the part, behind its length where it is a vector
abbrev pub field_bytes : Field → List ℕ → List ℕ
field_bytes (fixed n) p = p
field_bytes (vector w r) p = bytes_of w (length p) ++ p

-- the part is one of the field: of the fixed length, or of one that w bytes can hold and that gets
-- no refusal
abbrev pub Obeys : Field → List ℕ → Type 0
Obeys (fixed n) p = length p ≡ n
Obeys (vector w r) p = (length p < 256 ^ w) × (r.broken (length p) ≡ none)

-- the bytes that a field takes at least
abbrev pub least : Field → ℕ
least (fixed n) = n
least (vector w r) = w

-- where the part of a field begins, and the part's view, for a field that begins at a place
abbrev pub place_of : Field → ℕ → ℕ
place_of (fixed n) at = at
place_of (vector w r) at = at + w

abbrev pub view_of : Field → ℕ → List ℕ → View
view_of f at p = record { start = place_of f at; len = length p }

-- no part of the field stands at the front of the bytes
abbrev pub NoneAt : Field → List ℕ → Type 0
NoneAt f b = (p rest : List ℕ) → Obeys f p → b ≡ field_bytes f p ++ rest → ⊥

-- of the n bytes wanted at a place too few are left, and this is the refusal
abbrev pub TooFew : Reason → ℕ → ℕ → List ℕ → Refusal → Type 0
TooFew why n at b r = (length b < n) × (r ≡ refusal why at (n - length b))

-- the length n gets a refusal, or it gets none and too few bytes follow it
abbrev pub BadPart : Rule → ℕ → ℕ → ℕ → List ℕ → Refusal → Type 0
BadPart k n at behind b r =
    ((no : ℕ → ℕ → Refusal) × (k.broken n ≡ some no) × (r ≡ no at behind))
    ⊎ ((k.broken n ≡ none) × TooFew k.past n behind b r)

-- the bytes left at a place lack the field, and this is the refusal set for it: they are too few
-- for the part, or for its length, or the length that stands there is refused, or too few bytes
-- follow it
abbrev pub Lacks : Field → ℕ → List ℕ → Refusal → Type 0
Lacks (fixed n) at b r = TooFew Incomplete n at b r
Lacks (vector w k) at b r =
    TooFew Incomplete w at b r
    ⊎ ((n : ℕ) × (rest : List ℕ) × (n < 256 ^ w) × (b ≡ bytes_of w n ++ rest) × BadPart k n at (at + w) rest r)
