-- Strict reading, by any form: after all refusals of the plain reading, the split is held to a
-- condition. RULES 3.14, 3.15. A split is exact where the rows that are to be filled have bytes and
-- the tail has none; any other is LengthValue, at the first place that fails. Which rows these are
-- is said beside the grammar, so that grammar, split and plain reading stay as they are.
use Rattle.std.specs.Prelude.{◌+◌, ◌≡◌, ◌⊎◌, ◌∷◌, ◌&&◌}
use Rattle.refusal.specs.{ℕ, List, [], Bool, true, Option, none, some, length, eqb, refusal, Answer, accepted, refused, then, LengthValue, Refusal}
use Rattle.wire.specs.{pick, if_some, Bytes}
use Rattle.field.specs.{field_bytes}
use Rattle.grammar.specs.Grammars.{Row, Grammar, Each, Parts}
use Rattle.grammar.specs.Splits.{Pieces, Split, handed_of, FirstLacks}
use Rattle.grammar.specs.Forms.{Form, value_of, reading, pieces}
use Rattle.grammar.specs.Demand3.{Lawful}

-- which rows are to be filled: their parts may not be empty
abbrev pub ToFill : List Row → Type 0
ToFill rs = Each (λ r. Bool) rs

-- a row is to be filled, and its part is empty
abbrev pub Unfilled : Bool → List ℕ → Type 0
Unfilled t p = (t ≡ true) × (p ≡ [])

-- no row is unfilled
abbrev pub AllFilled : (rs : List Row) → ToFill rs → Parts rs → Type 0
AllFilled [] ts ps = Unit
AllFilled (r ∷ rs) (t, ts) (p, ps) = (Unfilled t p → ⊥) × AllFilled rs ts ps

-- the first row that is not filled begins at n; the rows begin at a place
abbrev pub FirstUnfilled : (rs : List Row) → ToFill rs → ℕ → Parts rs → ℕ → Type 0
FirstUnfilled [] ts at ps n = ⊥
FirstUnfilled ((f, m) ∷ rs) (t, ts) at (p, ps) n =
    (Unfilled t p × (n ≡ at))
    ⊎ ((Unfilled t p → ⊥) × FirstUnfilled rs ts (at + length (field_bytes f p)) ps n)

-- a split is exact, or it is not, at n: at the first row that is not filled or else at its tail
abbrev pub Exact : (g : Grammar) → ToFill g.rows → Pieces g → Type 0
Exact g ts x = AllFilled g.rows ts x.parts × (x.tail ≡ [])

abbrev pub InexactAt : (g : Grammar) → ToFill g.rows → Pieces g → ℕ → Type 0
InexactAt g ts x n =
    FirstUnfilled g.rows ts 0 x.parts n
    ⊎ (AllFilled g.rows ts x.parts × (x.tail ≡ [] → ⊥) × (n ≡ (handed_of g x).tail))

-- the same as tests: the place, if it is not exact
abbrev pub first_unfilled : (rs : List Row) → ToFill rs → ℕ → Parts rs → Option ℕ
first_unfilled [] ts at ps = none
first_unfilled ((f, m) ∷ rs) (t, ts) at (p, ps) =
    pick (t && eqb (length p) 0) (some at) (first_unfilled rs ts (at + length (field_bytes f p)) ps)

abbrev pub inexact : (g : Grammar) → ToFill g.rows → Pieces g → Option ℕ
inexact g ts x =
    if_some (first_unfilled g.rows ts 0 x.parts) (λ n. some n)
    (pick (eqb (length x.tail) 0) none (some (handed_of g x).tail))

-- the value, where its split is exact
abbrev pub if_exact : {C : Type 0} (k : Form C) → ToFill k.grammar.rows → List ℕ → C → Answer C
if_exact k ts s c = if_some (inexact k.grammar ts (pieces k s c)) (λ n. refused (refusal LengthValue n 0)) (accepted c)

-- RULES 3.14: what the plain reading accepts is accepted where its split is exact
unfoldable pub strictly : {C : Type 0} (k : Form C) → ToFill k.grammar.rows → List ℕ → Answer C
strictly k ts s = then (reading k s) (λ c. if_exact k ts s c)

-- demand 3, its reading half, of the strict reading of a body by a form
pub record ByExactSplit {C : Type 0} (k : Form C) (ts : ToFill k.grammar.rows) (body : List ℕ) : Type 0 where
  -- every body splits exactly, or splits but not exactly, or lacks a field
  pub whichever :
      ((x : Pieces k.grammar) × Split k.grammar body x × Exact k.grammar ts x)
      ⊎ (((x : Pieces k.grammar) × (n : ℕ) × Split k.grammar body x × InexactAt k.grammar ts x n)
      ⊎ ((r : Refusal) × FirstLacks k.grammar.rows 0 body r))
  -- a body that splits exactly is accepted, and each piece is handed out where it stands
  pub accepts : (x : Pieces k.grammar) → Split k.grammar body x → Exact k.grammar ts x → strictly k ts body ≡ accepted (value_of k body (handed_of k.grammar x))
  -- a body that is accepted splits exactly, into the pieces that the value names
  pub splits : (c : C) → strictly k ts body ≡ accepted c → Split k.grammar body (pieces k body c) × Exact k.grammar ts (pieces k body c)
  -- the split is the only one
  pub only : (x y : Pieces k.grammar) → Split k.grammar body x → Split k.grammar body y → x ≡ y
  -- a body that lacks a field is refused with the refusal set for the first
  pub refuses : (r : Refusal) → FirstLacks k.grammar.rows 0 body r → strictly k ts body ≡ refused r
  -- one that splits but not exactly, with LengthValue where it is not
  pub refuses_inexact : (x : Pieces k.grammar) (n : ℕ) → Split k.grammar body x → InexactAt k.grammar ts x n → strictly k ts body ≡ refused (refusal LengthValue n 0)
  -- the place that is handed over with that LengthValue, which a refusal does not carry (RULES
  -- 1.3), is where the split is not exact, and there is none where it is
  pub place : (x : Pieces k.grammar) (n : ℕ) → InexactAt k.grammar ts x n → inexact k.grammar ts x ≡ some n
  pub no_place_of : (x : Pieces k.grammar) → Exact k.grammar ts x → inexact k.grammar ts x ≡ none
  -- and a body is refused only for one of these
  pub lacks : (r : Refusal) → strictly k ts body ≡ refused r
      → FirstLacks k.grammar.rows 0 body r
      ⊎ ((x : Pieces k.grammar) × (n : ℕ) × Split k.grammar body x × InexactAt k.grammar ts x n × (r ≡ refusal LengthValue n 0))
  -- beside the plain reading: what is accepted is accepted there, with the same value
  pub plain_too : (c : C) → strictly k ts body ≡ accepted c → reading k body ≡ accepted c
  -- what is accepted there, and splits exactly, is accepted
  pub from_plain : (c : C) → reading k body ≡ accepted c → Exact k.grammar ts (pieces k body c) → strictly k ts body ≡ accepted c
  -- and every refusal there comes first
  pub plain_first : (r : Refusal) → reading k body ≡ refused r → strictly k ts body ≡ refused r

-- the theorem: every lawful form of any contents, whatever rows are to be filled, every body of
-- bytes; shown by `proofs/Strict.antt` from the one over every form
abbrev pub EveryStrict : Type 0 → Type 0
EveryStrict C = (k : Form C) → Lawful k → (ts : ToFill k.grammar.rows) (body : List ℕ) → Bytes body → ByExactSplit k ts body
