-- The data of an item, as the code tests it, and what an item that was found has. Assumes nothing.
use Prim.Native.Nat.{ℕ, ◌+◌, ◌-◌, ◌<◌, ◌≤◌}
use mathlib.Core.Path.{◌≡◌, refl, ap, ◌∙◌}
use mathlib.Core.Bool.{Bool, true, false}
use mathlib.Core.List.{List, [], ◌∷◌}
use native.Mathlib.Omega.{arith}
use native.Mathlib.Nat.{zero-add, add-zero}
use borrow.Author.Tests.{eqb-true, eqb-false, ne_eqb, le-leb}
use lib.Dec.{eqb}
use lib.ListN.{length}
use lib.Seq.{drop-cons}
use Rattle.refusal.specs.Answers.{Answer, accepted, refused}
use Rattle.refusal.specs.Refusals.{refusal}
use Rattle.refusal.specs.declared.Reason.TheVariants.{Incomplete, LengthValue}
use Rattle.wire.specs.Numbers.{Bytes, be, number_at}
use Rattle.wire.specs.Parts.{part_of}
use Rattle.wire.specs.declared.view.Part.{Part}
use Rattle.wire.specs.declared.view.View.{View}
use Rattle.wire.proofs.Parts.{part_in, found, fits as fits_in}
use Rattle.wire.proofs.Numbers.{number_got}
use Rattle.field.specs.Fields.{Field, fixed, vector, step}
use Rattle.field.specs.Standing.{least, place_of}
use Rattle.field.specs.Closing.{close_at}
use Rattle.field.proofs.Rules.{step_in}
use Rattle.field.proofs.Closing.{at_end, off_end, not_there}
use Rattle.list.specs.Tagged.{fit_at, tagged_bytes}
use Rattle.list.specs.declared.tagged.Tagged.{Tagged}
use Rattle.list.proofs.Tags.{fit_back, length_tagged}
use Rattle.read_ext.specs.Kinds.{Kind, kind_of, fragment_length, is_of, held_in, fits}
use Rattle.read_ext.specs.Extensions.{content_view, number_there, extension_of}
use Rattle.read_ext.specs.Splits.{value_says}
use Rattle.read_ext.proofs.OfKind.{kind_raw, place_shift}

-- a field of n bytes closes data of n bytes, and no other
fixed_closes : (n : ℕ) (d : List ℕ) → length d ≡ n
    → close_at (fixed n) (refusal LengthValue 0 0) d 0 ≡ accepted (found 0 n)
unfolding step
fixed_closes n d e =
    at_end (fixed n) (refusal LengthValue 0 0) d 0 (part_in Incomplete d 0 n (omega arith)) (omega arith)

fixed_not : (n : ℕ) (d : List ℕ) → (length d ≡ n → ⊥)
    → close_at (fixed n) (refusal LengthValue 0 0) d 0 ≡ refused (refusal LengthValue 0 0)
unfolding step
fixed_not n d h = go (step (fixed n) d 0) refl
  where
    go : (a : Answer Part) → step (fixed n) d 0 ≡ a
        → close_at (fixed n) (refusal LengthValue 0 0) d 0 ≡ refused (refusal LengthValue 0 0)
    go (accepted p) e =
        let f = fits_in Incomplete d 0 n e in
        let m : p.next ≡ 0 + n = ap (λ (q : Part). q.next) f.is in
        off_end (fixed n) (refusal LengthValue 0 0) d 0 e (λ z. h (omega (arith, z, m)))
    go (refused r) e = not_there (fixed n) (refusal LengthValue 0 0) d 0 e

pub fragment_test : (d : List ℕ) → eqb (length d) 1 ≡ is_of fragment_length d
unfolding is_of
fragment_test d = go (eqb (length d) 1) refl
  where
    go : (b : Bool) → eqb (length d) 1 ≡ b
        → eqb (length d) 1 ≡ held_in fragment_length d (close_at (fixed 1) (refusal LengthValue 0 0) d 0)
    go true e = e ∙ rw (fixed_closes 1 d (eqb-true (length d) 1 e))
    go false e = e ∙ rw (fixed_not 1 d (eqb-false (length d) 1 e))

pub raw_test : (t : ℕ) (d : List ℕ) → (t ≡ 0 → ⊥) → (t ≡ 1 → ⊥) → (t ≡ 10 → ⊥) → true ≡ fits t d
unfolding is_of
raw_test t d a b c = rw (kind_raw t (length d) a b c, fixed_closes (length d) d refl)

-- data of a kind has the inner length that the kind has
pub has_inner : (k : Kind) (d : List ℕ) → is_of k d ≡ true → place_of k.field 0 ≤ length d
unfolding is_of
has_inner k d h = go (step k.field d 0) refl
  where
    within : (f : Field) → place_of f 0 ≤ least f
    within (fixed n) = omega arith
    within (vector w r) = omega arith

    go : (a : Answer Part) → step k.field d 0 ≡ a → place_of k.field 0 ≤ length d
    go (accepted p) e = omega (arith, step_in k.field d 0 e, within k.field)
    go (refused r) e =
        let z : ◌≡◌ {A = Bool} false true = rw (not_there k.field (refusal LengthValue 0 0) d 0 e) at h in
        let w : ◌≡◌ {A = ℕ} 0 1 = cc in
        absurd (omega arith)

-- an item that was found can be opened
pub openable : (s : List ℕ) (at : ℕ) {x : Tagged} → Bytes s → fit_at 2 fits s at ≡ accepted x
    → (x.tag < 65536) × (place_of (kind_of x.tag x.view.len).field 0 ≤ x.view.len)
    × (x.view.start + x.view.len ≤ length s)
openable s at {x} b e =
    let f = fit_back 2 fits s at b e in
    let d = part_of s x.view in
    let l : x.view.len ≡ length d = ap (λ (y : Tagged). y.view.len) f.place in
    let n : x.next ≡ at + length (tagged_bytes 2 (x.tag, d)) = ap (λ (y : Tagged). y.next) f.place in
    let v : x.view.start ≡ at + 2 + 2 = ap (λ (y : Tagged). y.view.start) f.place in (
      omega (arith, f.obeys.0),
      rw l (has_inner (kind_of x.tag (length d)) d f.obeys.2),
      omega (arith, l, v, n, length_tagged 2 x.tag d, f.inside),
    )

-- a byte that stands at a place is the part of one byte there
one_byte : (s : List ℕ) (at : ℕ) → at + 1 ≤ length s
    → number_there 1 s at ∷ [] ≡ part_of s (record { start = at; len = 1 })
unfolding number_there be
one_byte s at h =
    let n : number_at 1 s at ≡ accepted (record { value = be 1 s at; next = at + 1 }) =
    number_got 1 s at (part_in Incomplete s at 1 h) in
    rw (n, le-leb _ _ h, drop-cons s at 0 (omega arith)) (simp (zero-add, add-zero))

-- the value of an item says its type and its content
abbrev pub Says : List ℕ → ℕ → View → Type 0
Says s t v = value_says s (extension_of s t (content_view t v)) ≡ (t, part_of s (content_view t v))

-- it does where the data fits the type
value_says_lem : (s : List ℕ) (t : ℕ) (v : View) → fits t (part_of s v) ≡ true → v.len ≡ length (part_of s v)
    → v.start + v.len ≤ length s → Says s t v
unfolding extension_of
value_says_lem s t v f l i = first (eqb t 0) refl
  where
    third : (t ≡ 0 → ⊥) → (t ≡ 1 → ⊥) → (x : Bool) → eqb t 10 ≡ x → Says s t v
    third a b true e = rw (eqb-true t 10 e)
    third a b false e = rw (ne_eqb t 0 a, ne_eqb t 1 b, e)

    second : (t ≡ 0 → ⊥) → (x : Bool) → eqb t 1 ≡ x → Says s t v
    second a true e =
        let q : t ≡ 1 = eqb-true t 1 e in
        let o : is_of fragment_length (part_of s v) ≡ true = rw q at f in
        let n : length (part_of s v) ≡ 1 = eqb-true _ 1 (fragment_test (part_of s v) ∙ o) in
        let m : v.len - 0 ≡ 1 = omega (arith, l, n) in
        rw q (rw m (ap (λ (c : List ℕ). (1, c)) (one_byte s v.start (omega (arith, i, l, n)))))
    second a false e = third a (eqb-false t 1 e) (eqb t 10) refl

    first : (x : Bool) → eqb t 0 ≡ x → Says s t v
    first true e = rw (eqb-true t 0 e)
    first false e = second (eqb-false t 0 e) (eqb t 1) refl

-- what is handed out of an item that was found: its value says its type and its content, and it
-- ends where its content ends, within the bytes
pub says_content : (s : List ℕ) (at : ℕ) {x : Tagged} → Bytes s → fit_at 2 fits s at ≡ accepted x
    → Says s x.tag x.view
    × (x.next ≡ (content_view x.tag x.view).start + (content_view x.tag x.view).len)
    × (x.next ≤ length s)
says_content s at {x} b e =
    let f = fit_back 2 fits s at b e in
    let o = openable s at b e in
    let d = part_of s x.view in
    let l : x.view.len ≡ length d = ap (λ (y : Tagged). y.view.len) f.place in
    let n : x.next ≡ at + length (tagged_bytes 2 (x.tag, d)) = ap (λ (y : Tagged). y.next) f.place in
    let v : x.view.start ≡ at + 2 + 2 = ap (λ (y : Tagged). y.view.start) f.place in
    let p = place_shift (kind_of x.tag x.view.len).field x.view.start in (
      value_says_lem s x.tag x.view f.obeys.2 l o.2,
      omega (arith, l, n, v, p, o.1, length_tagged 2 x.tag d),
      f.inside,
    )
