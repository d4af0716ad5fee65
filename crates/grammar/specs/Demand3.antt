-- Demand 3, its reading half, for every form: what is shown of the reading. RULES 0.3, 3.1, 3.10 to
-- 3.12. Splits and lacks are those of `Splits.antt`, with no reader in them.
use Rattle.std.specs.Prelude.{◌+◌, ◌≤◌, ◌≡◌, ◌⊎◌, ◌∷◌}
use Rattle.refusal.specs.{ℕ, Option, none, some, List, [], length, refusal, accepted, refused, Incomplete, Tag, Refusal}
use Rattle.wire.specs.{lookup, Bytes, be, OptView, None, View}
use Rattle.field.specs.{Field, fixed, TooFew}
use Rattle.grammar.specs.Grammars.{as_view, as_opt, as_number, Row, Each}
use Rattle.grammar.specs.Forms.{Outs, Form, value_of, reading, pieces, views, Listing, by_version, Announces}
use Rattle.grammar.specs.Splits.{Pieces, Split, handed_of, FirstLacks}

-- only a fixed field of w bytes is handed out as a number of w bytes
abbrev pub Suits : Row → Type 0
Suits (f, as_view) = Unit
Suits (f, as_opt empty) = Unit
Suits (f, as_number w) = f ≡ fixed w

-- the block that a grammar may hand out: one without a block hands out none
abbrev pub if_any : Option Field → OptView → OptView
if_any none e = None
if_any (some f) e = e

-- what is asked of a form: its value gives back what it was made of, and its numbers are fixed
-- fields of their width
pub record Lawful {C : Type 0} (k : Form C) : Type 0 where
  pub suits : Each Suits k.grammar.rows
  pub handed : (o : Outs k.grammar.rows) (e : OptView) (t : ℕ) → k.handed (k.value o e t) ≡ o
  pub block : (o : Outs k.grammar.rows) (e : OptView) (t : ℕ) → k.block (k.value o (if_any k.grammar.block e) t) ≡ if_any k.grammar.block e
  pub tail : (o : Outs k.grammar.rows) (e : OptView) (t : ℕ) → k.tail (k.value o e t) ≡ t

-- views in a row: in order, without overlap, from a place on and before the tail
abbrev pub InRow : ℕ → List View → ℕ → Type 0
InRow from [] tail = from ≤ tail
InRow from (v ∷ vs) tail = (from ≤ v.start) × InRow (v.start + v.len) vs tail

-- what is shown of a form and a body
pub record BySplit {C : Type 0} (k : Form C) (body : List ℕ) : Type 0 where
  -- every body splits, or lacks a field
  pub whichever : ((x : Pieces k.grammar) × Split k.grammar body x) ⊎ ((r : Refusal) × FirstLacks k.grammar.rows 0 body r)
  -- a body that splits is accepted, and each piece is handed out where it stands
  pub accepts : (x : Pieces k.grammar) → Split k.grammar body x → reading k body ≡ accepted (value_of k body (handed_of k.grammar x))
  -- a body that is accepted splits, into the pieces that the value names
  pub splits : (c : C) → reading k body ≡ accepted c → Split k.grammar body (pieces k body c)
  -- the split is the only one
  pub only : (x y : Pieces k.grammar) → Split k.grammar body x → Split k.grammar body y → x ≡ y
  -- RULES 3.11: the views handed out lie in the order of the fields, none over another, before the
  -- tail, which begins in the body or at its end
  pub order : (c : C) → reading k body ≡ accepted c → InRow 0 (views k c) (k.tail c) × (k.tail c ≤ length body)
  -- a body that lacks a field is refused with the refusal set for the first
  pub refuses : (r : Refusal) → FirstLacks k.grammar.rows 0 body r → reading k body ≡ refused r
  -- and a body is refused only for that
  pub lacks : (r : Refusal) → reading k body ≡ refused r → FirstLacks k.grammar.rows 0 body r

-- the theorem: every lawful form of any contents, every body of bytes; shown by `proofs/Forms.antt`
abbrev pub EveryForm : Type 0 → Type 0
EveryForm C = (k : Form C) → Lawful k → (body : List ℕ) → Bytes body → BySplit k body

-- the same where the version announces the form: a body has a listed version, one that is not
-- listed, or none
pub record ByVersion {C : Type 0} (forms : Listing C) (body : List ℕ) : Type 0 where
  -- a body whose version is listed is read by the form announced, of which the theorem holds
  pub listed : (k : Form C) → Announces forms body k → (by_version forms body ≡ reading k body) × BySplit k body
  -- one whose version is not listed is refused with Tag, whatever follows
  pub unlisted : 2 ≤ length body → lookup (be 2 body 0) forms ≡ none → by_version forms body ≡ refused (refusal Tag 0 0)
  -- one without a version is refused for it
  pub short : (r : Refusal) → TooFew Incomplete 2 0 body r → by_version forms body ≡ refused r

-- the theorem: every listing of lawful forms of any contents, every body of bytes; shown by
-- `proofs/Versions.antt`
abbrev pub EveryListing : Type 0 → Type 0
EveryListing C = (forms : Listing C) → ((v : ℕ) (k : Form C) → lookup v forms ≡ some k → Lawful k) → (body : List ℕ) → Bytes body → ByVersion forms body
