-- A hello whose parts are handed over apart: each is one of its field, the text is the fields
-- joined, and the message is put in where there is room for it. Assumes nothing.
use Prim.Native.Nat.{ℕ, ◌+◌, ◌-◌, ◌<◌, ◌≤◌}
use mathlib.Core.Path.{◌≡◌, refl, ap, ◌∙◌}
use mathlib.Core.List.{List, [], ◌∷◌, ◌++◌, append_assoc}
use mathlib.Core.Bool.{Bool, true, false, ◌&&◌}
use native.Mathlib.Omega.{arith}
use borrow.Rule.Slice.PartMut.{put_mid, mid_of}
use lib.ListN.{length}
use Rattle.refusal.specs.Answers.{Answer, accepted, refused}
use Rattle.refusal.specs.Refusals.{unplaced}
use Rattle.refusal.specs.declared.Reason.TheVariants.{BadLength}
use Rattle.wire.specs.Puts.{put, room_at, written}
use Rattle.wire.specs.declared.view.Part.{Part}
use Rattle.wire.proofs.Parts.{room_fits}
use Rattle.field.specs.Standing.{field_bytes, Obeys}
use Rattle.field.specs.Texts.{allowed}
use Rattle.field.proofs.Texts.{both_true, obeys}
use Rattle.grammar.specs.Grammars.{Row, Parts, gather}
use Rattle.grammar.specs.Splits.{AllObey, join}
use Rattle.grammar.specs.Hellos.{extensions}
use Rattle.write_rules.specs.JoinTexts.{may_join, join_bytes, join_text}
use Rattle.write_rules.specs.MessageTexts.{head_text, message_text}
use Rattle.write_rules.proofs.Messages.{Wrote, Message, told_refused, message_not, short_head, body_fits, message_in, wrote}

-- the fields one behind the other, and the extensions behind the last
abbrev pub in_row : (rs : List Row) → Parts rs → List ℕ → List ℕ
in_row rs ps e = gather (λ (f, m) p rest. field_bytes f p ++ rest) (field_bytes extensions e) rs ps

pub row_join : (rs : List Row) (ps : Parts rs) (e : List ℕ) → join_bytes rs ps e ≡ in_row rs ps e
unfolding join join_bytes
row_join [] ps e = refl
row_join ((f, m) ∷ rs) (p, ps) e =
    append_assoc (field_bytes f p) (join rs ps) (field_bytes extensions e)
    ∙ ap (λ (r : List ℕ). field_bytes f p ++ r) (row_join rs ps e)

-- each part is one of its field
pub record Joined (rs : List Row) (ps : Parts rs) (e : List ℕ) : Type 0 where
  pub fields : AllObey rs ps
  pub last : Obeys extensions e

abbrev pub all_may : (rs : List Row) → Parts rs → Bool → Bool
all_may rs ps z = gather (λ (f, m) p rest. allowed f (length p) && rest) z rs ps

all_obey : (rs : List Row) (ps : Parts rs) (z : Bool) → all_may rs ps z ≡ true → AllObey rs ps × (z ≡ true)
all_obey [] ps z e = (tt, e)
all_obey ((f, m) ∷ rs) (p, ps) z e =
    let b = both_true (allowed f (length p)) (all_may rs ps z) e in
    let r = all_obey rs ps z b.1 in
    ((obeys f p b.0, r.0), r.1)

module _ (rs : List Row) (ps : Parts rs) (e : List ℕ) where
  pub joined : may_join rs ps e ≡ true → Joined rs ps e
  unfolding may_join
  joined m =
      let b = all_obey rs ps (allowed extensions (length e)) m in
      record { fields = b.0; last = obeys extensions e b.1 }

  pub join_may : may_join rs ps e ≡ true → join_text rs ps e ≡ accepted (join_bytes rs ps e)
  unfolding join_text
  join_may m = rw m

  pub join_not : may_join rs ps e ≡ false → join_text rs ps e ≡ refused (unplaced BadLength)
  unfolding join_text
  join_not m = rw m

  -- the message of parts that may not be written
  pub join_refused : (msgType : ℕ) (d : List ℕ) {a : Answer ℕ} {n : ℕ} → may_join rs ps e ≡ false
      → a ≡ refused (unplaced BadLength) → n ≡ 0
      → Wrote (message_text (head_text msgType) (join_text rs ps e)) d a n d
  join_refused msgType d m p q = told_refused d (message_not (head_text msgType) (join_not m)) p q

  -- and of those that may, its body of n bytes
  pub join_message : (msgType n : ℕ) → may_join rs ps e ≡ true → n ≡ length (join_bytes rs ps e) → n < 16777216
      → Message (head_text msgType) 4 (join_text rs ps e) (join_bytes rs ps e) n
  join_message msgType n m l h = short_head msgType (join_may m) l h

-- there is room for it
pub record Ready (msgType : ℕ) (rs : List Row) (ps : Parts rs) (e d : List ℕ) (n : ℕ) (p : Part) : Type 0 where
  pub may : may_join rs ps e ≡ true
  pub message : Message (head_text msgType) 4 (join_text rs ps e) (join_bytes rs ps e) n
  pub place : room_at d 0 (4 + n) ≡ accepted p

-- the fields fit behind the head's place, and both are put in
module _ {msgType : ℕ} {rs : List Row} {ps : Parts rs} {e d : List ℕ} {n : ℕ} {p : Part}
    (r : Ready msgType rs ps e d n p) where
  pub behind_head : 4 ≤ length d
  behind_head = omega (arith, (room_fits d 0 (4 + n) r.place).inside)

  pub fields_fit : (may_join rs ps e ≡ true) × (length (join_bytes rs ps e) ≤ length (mid_of 4 (length d - 4) d))
  fields_fit = (r.may, body_fits d r.message r.place)

  pub join_in : {ys out : List ℕ} → ys ≡ put (mid_of 4 (length d - 4) d) 0 (join_bytes rs ps e)
      → out ≡ written (head_text msgType n) 0 (put_mid 4 (length d - 4) d ys)
      → Wrote (message_text (head_text msgType) (join_text rs ps e)) d (accepted p.next) (4 + n) out
  join_in {ys} {out} y o = wrote d r.message refl (message_in d r.message ys out r.place y o)
