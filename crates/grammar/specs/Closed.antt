-- A closed form: fields, and then one that has to end with the body. RULES 2.9, 4.2; RFC 5246 4.3.
-- Nothing is left over, so there is no tail; where the last field does not end with the body it is
-- LengthValue, at the place where the field begins.
use Rattle.std.specs.Prelude.{◌≡◌, ◌⊎◌, ◌++◌}
use Rattle.refusal.specs.{ℕ, List, length, refusal, Answer, accepted, refused, then, giving, LengthValue, Refusal}
use Rattle.wire.specs.{part_of, Bytes, View}
use Rattle.field.specs.{Field, field_bytes, Obeys, view_of, NoneCloses, close_at}
use Rattle.grammar.specs.Grammars.{Row, Each, Parts}
use Rattle.grammar.specs.Reading.{fields_at}
use Rattle.grammar.specs.Splits.{AllObey, join, views_of, FirstLacks}
use Rattle.grammar.specs.Forms.{Outs, outs, all_named_of}
use Rattle.grammar.specs.Demand3.{Suits}

-- how such a body becomes a value: its rows and the last field; the value made of what the rows
-- hand out, of the last part and of where the body ends; and these three back from a value
pub record ClosedForm (C : Type 0) : Type 0 where
  pub rows : List Row
  pub last : Field
  pub value : Outs rows → View → ℕ → C
  pub handed : C → Outs rows
  pub last_view : C → View
  pub end : C → ℕ

-- RULES 2.9: the fields in order, then the last one, which has to end with the body
unfoldable pub closed : {C : Type 0} → ClosedForm C → List ℕ → Answer C
closed k s = then (fields_at k.rows s 0) (λ q. giving (λ p. k.value (outs k.rows s q.0) p.view p.next) (close_at k.last (refusal LengthValue q.1 0) s q.1))

-- the pieces of a body: a part for each row, and the last one; there is no other
pub record ClosedPieces (rs : List Row) : Type 0 where
  pub parts : Parts rs
  pub last : List ℕ

-- the body splits into the pieces
pub record ClosedSplit {C : Type 0} (k : ClosedForm C) (body : List ℕ) (x : ClosedPieces k.rows) : Type 0 where
  pub obey : AllObey k.rows x.parts
  pub obey_last : Obeys k.last x.last
  pub whole : body ≡ join k.rows x.parts ++ field_bytes k.last x.last

-- the fields stand in the body, and what follows them at n is not closed by the last one
pub record OpenAt {C : Type 0} (k : ClosedForm C) (body : List ℕ) (n : ℕ) : Type 0 where
  pub parts : Parts k.rows
  pub rest : List ℕ
  pub obey : AllObey k.rows parts
  pub whole : body ≡ join k.rows parts ++ rest
  pub place : n ≡ length (join k.rows parts)
  pub none : NoneCloses k.last rest

-- the value of pieces: each where it stands in the body
abbrev pub closed_value : {C : Type 0} (k : ClosedForm C) → List ℕ → ClosedPieces k.rows → C
closed_value k s x = k.value (outs k.rows s (views_of k.rows 0 x.parts)) (view_of k.last (length (join k.rows x.parts)) x.last) (length s)

-- the pieces that a value names
abbrev pub closed_pieces : {C : Type 0} (k : ClosedForm C) → List ℕ → C → ClosedPieces k.rows
closed_pieces k s c = record { parts = all_named_of k.rows s (k.handed c); last = part_of s (k.last_view c) }

-- what is asked of a closed form: its value gives back what it was made of, and its numbers are
-- fixed fields of their width
pub record ClosedLawful {C : Type 0} (k : ClosedForm C) : Type 0 where
  pub suits : Each Suits k.rows
  pub handed : (o : Outs k.rows) (v : View) (n : ℕ) → k.handed (k.value o v n) ≡ o
  pub last_view : (o : Outs k.rows) (v : View) (n : ℕ) → k.last_view (k.value o v n) ≡ v
  pub end : (o : Outs k.rows) (v : View) (n : ℕ) → k.end (k.value o v n) ≡ n

-- what is shown of a closed form and a body, as of a form (`Demand3.antt`)
pub record ByClosedSplit {C : Type 0} (k : ClosedForm C) (body : List ℕ) : Type 0 where
  -- every body splits, or lacks a field, or is not closed
  pub whichever : ((x : ClosedPieces k.rows) × ClosedSplit k body x) ⊎ (((r : Refusal) × FirstLacks k.rows 0 body r) ⊎ ((n : ℕ) × OpenAt k body n))
  -- a body that splits is accepted, and each piece is handed out where it stands
  pub accepts : (x : ClosedPieces k.rows) → ClosedSplit k body x → closed k body ≡ accepted (closed_value k body x)
  -- a body that is accepted splits, into the pieces that the value names, and ends where it says
  pub splits : (c : C) → closed k body ≡ accepted c → ClosedSplit k body (closed_pieces k body c) × (k.end c ≡ length body)
  -- the split is the only one
  pub only : (x y : ClosedPieces k.rows) → ClosedSplit k body x → ClosedSplit k body y → x ≡ y
  -- a body that lacks a field is refused with the refusal set for the first
  pub refuses : (r : Refusal) → FirstLacks k.rows 0 body r → closed k body ≡ refused r
  -- one that is not closed, with LengthValue at the last field
  pub refuses_open : (n : ℕ) → OpenAt k body n → closed k body ≡ refused (refusal LengthValue n 0)
  -- and a body is refused only for one of these
  pub lacks : (r : Refusal) → closed k body ≡ refused r → FirstLacks k.rows 0 body r ⊎ ((n : ℕ) × OpenAt k body n × (r ≡ refusal LengthValue n 0))

-- the theorem: every lawful closed form of any contents, every body of bytes; shown by
-- `proofs/Closed.antt`
abbrev pub EveryClosed : Type 0 → Type 0
EveryClosed C = (k : ClosedForm C) → ClosedLawful k → (body : List ℕ) → Bytes body → ByClosedSplit k body
