-- Fields written one behind the other: a writer's proof begins with the whole text, takes one field
-- off it for each call, and ends with none. Assumes nothing.
use Prim.Native.Nat.{ℕ, ◌+◌, ◌^◌, ◌<◌, ◌≤◌}
use mathlib.Core.Path.{◌≡◌, refl, ◌∙◌}
use mathlib.Core.List.{List, ◌++◌}
use native.Mathlib.Omega.{arith}
use lib.ListN.{length, length-append}
use Rattle.refusal.specs.Answers.{Answer, accepted}
use Rattle.wire.specs.Puts.{put, written}
use Rattle.wire.specs.Numbers.{bytes_of, number_text}
use Rattle.wire.proofs.Numbers.{length_bytes}
use Rattle.wire.proofs.Puts.{put_put, length_put, written_in, number_accepted}
use Rattle.field.specs.Fields.{Field, fixed, vector, Rule}
use Rattle.field.specs.Standing.{field_bytes, Obeys}
use Rattle.field.specs.Texts.{field_text}
use Rattle.field.proofs.Steps.{length_vector}
use Rattle.field.proofs.Texts.{text_obeys}

-- what is left to put into the buffer so far, from a place on; put in, the whole text is in the
-- buffer lent
pub record Left (d whole out : List ℕ) (at : ℕ) (rest : List ℕ) : Type 0 where
  pub is : put out at rest ≡ put d 0 whole
  pub fits : at + length rest ≤ length out

pub begin : (d whole : List ℕ) → length whole ≤ length d → Left d whole d 0 whole
begin d whole h = record { is = refl; fits = omega arith }

-- one text more
pub next : {d whole out : List ℕ} {at : ℕ} (x rest : List ℕ) → Left d whole out at (x ++ rest) → {t : Answer (List ℕ)}
    → t ≡ accepted x → (out' : List ℕ) (at' : ℕ)
    → out' ≡ written t at out → at' ≡ at + length x → Left d whole out' at' rest
next {d} {whole} {out} {at} x rest l {t} e out' at' q n =
    let a : length (x ++ rest) ≡ length x + length rest = length-append x rest in
    let h : at + length x + length rest ≤ length out = omega (arith, a, l.fits) in
    let p : out' ≡ put out at x = q ∙ written_in x at out e (omega arith) in
    let m : length out' ≡ length out = rw p (length_put out at x (omega arith)) in
    record { is = rw (p, n, put_put out at x rest h) l.is; fits = omega (arith, m, n) }

-- the last text
pub end : {d whole out : List ℕ} {at : ℕ} {x : List ℕ} → Left d whole out at x → {t : Answer (List ℕ)}
    → t ≡ accepted x → (out' : List ℕ) → out' ≡ written t at out → out' ≡ put d 0 whole
end {out = out} {at = at} {x = x} l e out' q = q ∙ written_in x at out e l.fits ∙ l.is

-- a field, a number, a part behind its length, and the field behind the last
module _ {d whole out : List ℕ} {at : ℕ} {out' : List ℕ} where
  pub and : (at' : ℕ) (rest : List ℕ) (f : Field) (p : List ℕ) → Left d whole out at (field_bytes f p ++ rest)
      → {t : Answer (List ℕ)} → t ≡ accepted (field_bytes f p)
      → out' ≡ written t at out → at' ≡ at + length (field_bytes f p) → Left d whole out' at' rest
  and at' rest f p l e q n = next (field_bytes f p) rest l e out' at' q n

  pub number : (at' : ℕ) (rest : List ℕ) (w n : ℕ) → Left d whole out at (bytes_of w n ++ rest) → n < 256 ^ w
      → out' ≡ written (number_text w n) at out → at' ≡ at + w → Left d whole out' at' rest
  number at' rest w n l h q e =
      and at' rest (fixed w) (bytes_of w n) l (number_accepted w n h) q (rw (length_bytes w n) e)

  pub part : (at' : ℕ) (rest : List ℕ) (w : ℕ) (r : Rule) (p : List ℕ)
      → Left d whole out at (field_bytes (vector w r) p ++ rest) → Obeys (vector w r) p
      → out' ≡ written (field_text (vector w r) p) at out → at' ≡ at + (w + length p) → Left d whole out' at' rest
  part at' rest w r p l o q e =
      and at' rest (vector w r) p l (text_obeys (vector w r) p o) q (rw (length_vector w r p) e)

  pub close : (f : Field) (p : List ℕ) → Left d whole out at (field_bytes f p) → Obeys f p
      → out' ≡ written (field_text f p) at out → out' ≡ put d 0 whole
  close f p l o q = end l (text_obeys f p o) out' q
