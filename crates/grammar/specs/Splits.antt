-- What it is for a body to split by a grammar, or to lack a field of it, with no reader in it.
-- RULES 9.4: fields, joined in their order with their lengths and the tail, are the body. Of one
-- field the bytes, the parts it may have and its lack are in `field/specs/Standing.antt`.
use Rattle.std.specs.Prelude.{◌+◌, ◌≡◌, ◌⊎◌, ◌∷◌, ◌++◌}
use Rattle.refusal.specs.{ℕ, List, [], Option, none, some, length, Refusal}
use Rattle.wire.specs.{part_of, OptView, None, Some}
use Rattle.field.specs.{Field, field_bytes, Obeys, view_of, NoneAt, Lacks}
use Rattle.grammar.specs.Grammars.{Row, Grammar, gather, Views, Parts, Handed}

-- each part is one of its field
abbrev pub AllObey : (rs : List Row) → Parts rs → Type 0
AllObey [] ps = Unit
AllObey ((f, m) ∷ rs) (p, ps) = Obeys f p × AllObey rs ps

-- the fields' bytes in order
unfoldable pub join : (rs : List Row) → Parts rs → List ℕ
join rs ps = gather (λ (f, m) p after. field_bytes f p ++ after) [] rs ps

-- the pieces of a body: a part for each row, the block or none, and the tail
pub record Pieces (g : Grammar) : Type 0 where
  pub parts : Parts g.rows
  pub block : Option (List ℕ)
  pub tail : List ℕ

abbrev pub block_bytes : Option Field → Option (List ℕ) → List ℕ
block_bytes none e = []
block_bytes (some f) none = []
block_bytes (some f) (some p) = field_bytes f p

-- there is a block whenever one fits, and none where the grammar has none
abbrev pub BlockObeys : Option Field → Option (List ℕ) → List ℕ → Type 0
BlockObeys none none tail = Unit
BlockObeys none (some p) tail = ⊥
BlockObeys (some f) none tail = NoneAt f tail
BlockObeys (some f) (some p) tail = Obeys f p

-- the body splits into the pieces
pub record Split (g : Grammar) (body : List ℕ) (x : Pieces g) : Type 0 where
  pub obey : AllObey g.rows x.parts
  pub whole : body ≡ join g.rows x.parts ++ (block_bytes g.block x.block ++ x.tail)
  pub last : BlockObeys g.block x.block x.tail

-- the views of the parts of fields that begin at a place
unfoldable pub views_of : (rs : List Row) → ℕ → Parts rs → Views rs
views_of [] at ps = tt
views_of ((f, m) ∷ rs) at (p, ps) = (view_of f at p, views_of rs (at + length (field_bytes f p)) ps)

abbrev pub block_view : Option Field → ℕ → Option (List ℕ) → OptView
block_view none at e = None
block_view (some f) at none = None
block_view (some f) at (some p) = Some (view_of f at p)

-- the pieces as they are handed out: each where it stands in the body
abbrev pub handed_of : (g : Grammar) → Pieces g → Handed g
handed_of g x = record {
  views = views_of g.rows 0 x.parts;
  block = block_view g.block (length (join g.rows x.parts)) x.block;
  tail = length (join g.rows x.parts) + length (block_bytes g.block x.block);
}

-- the bytes of a block that was handed out
abbrev pub block_of : List ℕ → OptView → Option (List ℕ)
block_of s None = none
block_of s (Some v) = some (part_of s v)

-- the first field that cannot be had: those before it stand in the bytes, and what follows them
-- lacks it
abbrev pub FirstLacks : List Row → ℕ → List ℕ → Refusal → Type 0
FirstLacks [] at b r = ⊥
FirstLacks ((f, m) ∷ rs) at b r =
    Lacks f at b r
    ⊎ ((p : List ℕ) × (rest : List ℕ) × Obeys f p × (b ≡ field_bytes f p ++ rest) × FirstLacks rs (at + length (field_bytes f p)) rest r)
