-- A field that has to end with the bytes: RULES 2.9. What stands from a place on is the field, to
-- the last byte. All else gets one refusal, whatever is wrong: a length that is missing, that is
-- not allowed, or that is unlike the bytes after it.
use Rattle.std.specs.Prelude.{◌+◌, ◌-◌, ◌<◌, ◌≤◌, ◌≡◌, ◌⊎◌}
use Rattle.refusal.specs.{ℕ, List, none, some, length, drop, eqb, Answer, accepted, refused, Refusal}
use Rattle.wire.specs.{pick, part_of, Bytes, be, Part}
use Rattle.field.specs.Fields.{Field, vector, Rule, step}
use Rattle.field.specs.Standing.{field_bytes, Obeys, view_of}

-- the bytes are those of the field with this part, and no more
abbrev pub Closes : Field → List ℕ → List ℕ → Type 0
Closes f b p = Obeys f p × (b ≡ field_bytes f p)

abbrev pub NoneCloses : Field → List ℕ → Type 0
NoneCloses f b = (p : List ℕ) → Closes f b p → ⊥

-- the part that was found, where n is the place past it
abbrev pub if_last : Answer Part → Refusal → ℕ → Answer Part
if_last (accepted p) amiss n = pick (eqb p.next n) (accepted p) (refused amiss)
if_last (refused r) amiss n = refused amiss

-- RULES 2.9: the field that begins at a place and ends with the bytes, or the refusal
unfoldable pub close_at : Field → Refusal → List ℕ → ℕ → Answer Part
close_at f amiss s at = if_last (step f s at) amiss (length s)

-- what is shown of a closing field and the bytes from a place on
pub record ByClosing (f : Field) (amiss : Refusal) (s : List ℕ) (at : ℕ) : Type 0 where
  -- a part closes them, or none does
  pub whichever : ((p : List ℕ) × Closes f (drop at s) p) ⊎ NoneCloses f (drop at s)
  -- a part that closes them is found, where it stands
  pub accepts : (p : List ℕ) → Closes f (drop at s) p → close_at f amiss s at ≡ accepted (record { view = view_of f at p; next = length s })
  -- a part that is found closes them
  pub splits : (q : Part) → close_at f amiss s at ≡ accepted q → Closes f (drop at s) (part_of s q.view) × (q.next ≡ length s)
  -- it is the only one
  pub only : (p q : List ℕ) → Closes f (drop at s) p → Closes f (drop at s) q → p ≡ q
  -- where none closes them, the refusal is the one that was set
  pub refuses : NoneCloses f (drop at s) → close_at f amiss s at ≡ refused amiss
  -- and they are refused only for that
  pub lacks : (r : Refusal) → close_at f amiss s at ≡ refused r → (r ≡ amiss) × NoneCloses f (drop at s)

-- the theorem: every field, every refusal, all bytes; shown by `proofs/Closing.antt`
abbrev pub EveryClosing : Type 0
EveryClosing = (f : Field) (amiss : Refusal) (s : List ℕ) (at : ℕ) → Bytes s → at ≤ length s → ByClosing f amiss s at

-- the same of a vector, by numbers: its length is missing, or unlike the bytes after it, or not
-- allowed, or like them and allowed
pub record ByLength (w : ℕ) (k : Rule) (amiss : Refusal) (s : List ℕ) (at : ℕ) : Type 0 where
  pub missing : length s < at + w → close_at (vector w k) amiss s at ≡ refused amiss
  pub unlike : at + w ≤ length s → (be w s at ≡ length s - (at + w) → ⊥) → close_at (vector w k) amiss s at ≡ refused amiss
  pub not_allowed : at + w ≤ length s → (no : ℕ → ℕ → Refusal) → k.broken (be w s at) ≡ some no → close_at (vector w k) amiss s at ≡ refused amiss
  pub like : at + w ≤ length s → be w s at ≡ length s - (at + w) → k.broken (be w s at) ≡ none
      → close_at (vector w k) amiss s at ≡ accepted (record { view = record { start = at + w; len = length s - (at + w) }; next = length s })

abbrev pub EveryLength : Type 0
EveryLength = (w : ℕ) (k : Rule) (amiss : Refusal) (s : List ℕ) (at : ℕ) → ByLength w k amiss s at
