-- A field written: what may stand in it, and what writing it comes to. Assumes nothing.
use Prim.Native.Nat.{ℕ, ◌+◌, ◌^◌, ◌<◌, ◌≤◌}
use mathlib.Core.Path.{◌≡◌, refl, sym, ap, ◌∙◌}
use mathlib.Core.List.{List, ◌++◌}
use mathlib.Core.Bool.{Bool, true, false, ◌&&◌}
use native.Mathlib.Omega.{arith}
use native.Mathlib.Nat.{pow-le-pow_right}
use borrow.Author.Tests.{eqb-true, ltb-true, eq-eqb, lt-ltb}
use lib.ListN.{length}
use Rattle.std.proofs.lemmas.Bool.{and_parts}
use Rattle.refusal.specs.Answers.{accepted, refused}
use Rattle.refusal.specs.Refusals.{unplaced}
use Rattle.refusal.specs.declared.Refusal.{Refusal}
use Rattle.wire.specs.Numbers.{bytes_of, number_text}
use Rattle.wire.specs.Puts.{put, room, room_at, written}
use Rattle.wire.specs.declared.view.Part.{Part}
use Rattle.wire.proofs.Parts.{found, room_in, room_fits}
use Rattle.wire.proofs.Numbers.{length_bytes}
use Rattle.wire.proofs.Puts.{Came, text_refused, text_in, text_out, number_put, length_put, put_put}
use Rattle.field.specs.Fields.{Field, fixed, vector, Rule}
use Rattle.field.specs.Standing.{field_bytes, Obeys}
use Rattle.field.proofs.Rules.{allows_none, none_allows}
use Rattle.field.proofs.Steps.{length_vector}
use Rattle.field.specs.Texts.{allowed, unfit, field_text}

pub both_true : (a b : Bool) → (a && b) ≡ true → (a ≡ true) × (b ≡ true)
both_true a b e = and_parts a b e

-- a part may stand in a field exactly where it is one of it
pub obeys : (f : Field) (p : List ℕ) → allowed f (length p) ≡ true → Obeys f p
obeys (fixed n) p e = eqb-true _ _ e
obeys (vector w r) p e = let b = both_true _ _ e in (ltb-true _ _ b.0, allows_none r (length p) b.1)

pub obeyed : (f : Field) (p : List ℕ) → Obeys f p → allowed f (length p) ≡ true
obeyed (fixed n) p o = eq-eqb _ _ o
obeyed (vector w r) p o = rw (lt-ltb _ _ o.0) (none_allows r (length p) o.1)

pub text_may : (f : Field) (p : List ℕ) → allowed f (length p) ≡ true → field_text f p ≡ accepted (field_bytes f p)
unfolding field_text
text_may f p e = rw e

pub text_not : (f : Field) (p : List ℕ) → allowed f (length p) ≡ false → field_text f p ≡ refused (unplaced (unfit f))
unfolding field_text
text_not f p e = rw e

pub text_obeys : (f : Field) (p : List ℕ) → Obeys f p → field_text f p ≡ accepted (field_bytes f p)
text_obeys f p o = text_may f p (obeyed f p o)

-- with its length, a part that may be written is below 2^32 bytes
pub below : (w : ℕ) (r : Rule) (n : ℕ) → w ≤ 4 → allowed (vector w r) n ≡ true → n < 4294967296
below w r n h e = omega (arith, ltb-true n (256 ^ w) (both_true _ _ e).0, pow-le-pow_right {n = 256} (omega arith) h)

-- writing a vector: of a length that is not allowed, without room, and put in, its length
-- first
module _ (w : ℕ) (r : Rule) (p : List ℕ) (at : ℕ) (d : List ℕ) where
  pub vector_not : allowed (vector w r) (length p) ≡ false
      → Came (field_text (vector w r) p) at d (refused (unplaced r.unfit)) d
  vector_not e = text_refused at d (text_not (vector w r) p e)

  pub vector_out : {x : Refusal} → allowed (vector w r) (length p) ≡ true → room_at d at (w + length p) ≡ refused x
      → Came (field_text (vector w r) p) at d (refused x) d
  vector_out {x} e q =
      text_out (field_bytes (vector w r) p) at d {r = x} (text_may (vector w r) p e) (rw (length_vector w r p) q)

  -- its length, with room for all of it
  pub vector_width : {x : Part} → allowed (vector w r) (length p) ≡ true → room_at d at (w + length p) ≡ accepted x
      → Came (number_text w (length p)) at d (accepted (at + w)) (put d at (bytes_of w (length p)))
  vector_width {x} e q =
      let h = (room_fits d at (w + length p) q).inside in
      number_put w (length p) at d {p = found at w} (obeys (vector w r) p e).0 (room_in d at w (omega arith))

  pub vector_in : {x : Part} (o : List ℕ) → allowed (vector w r) (length p) ≡ true
      → room_at d at (w + length p) ≡ accepted x → o ≡ put d at (bytes_of w (length p))
      → Came (field_text (vector w r) p) at d (room (accepted p) (at + w) o) (written (accepted p) (at + w) o)
  vector_in {x} o e q n =
      let f = room_fits d at (w + length p) q in
      let h = f.inside in
      let l = length_bytes w (length p) in
      let m : length o ≡ length d = rw n (length_put d at (bytes_of w (length p)) (rw l (omega arith))) in
      let c = text_in (field_bytes (vector w r) p) at d {p = x} (text_may (vector w r) p e)
      (rw (length_vector w r p) q) in
      let i = text_in p (at + w) o {p = found (at + w) (length p)} refl (room_in o (at + w) (length p) (rw m (omega arith))) in
      let b : put o (at + w) p ≡ put d at (bytes_of w (length p) ++ p) =
      rw n (rw l at (put_put d at (bytes_of w (length p)) p (rw l (omega arith)))) in
      let z : x.next ≡ at + w + length p = rw f.is (omega arith) in
      record { says = c.says ∙ ap accepted z ∙ sym i.says; leaves = c.leaves ∙ sym b ∙ sym i.leaves }
