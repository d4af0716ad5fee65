-- The number of w bytes and the w bytes of a number: each undoes the other, over the width. Assumes
-- nothing.
use Prim.Native.Nat.{ℕ, zero, suc, ◌+◌, ◌*◌, ◌/◌, ◌%◌, ◌^◌, ◌<◌, ◌≤◌}
use mathlib.Core.Path.{◌≡◌, refl, ap, ap₂, sym, ◌∙◌}
use mathlib.Core.Logic.{◌⊎◌, inl, inr}
use mathlib.Core.List.{List, [], ◌∷◌, ◌++◌, append_assoc}
use native.Mathlib.Omega.{arith}
use native.Mathlib.Nat.{pow-suc, zero-add, div-add-mod'}
use lib.ListN.{length, get_or, take, drop, length-append}
use lib.Seq.{get_or-drop, get_or-take, get_or_at, take-suc}
use Rattle.std.specs.Prelude.{Ok, Result}
use Rattle.refusal.specs.Answers.{Answer, accepted, refused}
use Rattle.refusal.proofs.Then.{not_both, then_accepted, then_refused}
use Rattle.refusal.specs.declared.Reason.TheVariants.{Incomplete}
use Rattle.refusal.specs.declared.Refusal.{Refusal}
use Rattle.wire.specs.Parts.{part_at}
use Rattle.wire.specs.Numbers.{Bytes, Below, be, bytes_in, bytes_of, number_at, EachUndoes}
use Rattle.wire.specs.declared.view.Part.{Part}
use Rattle.wire.specs.declared.number.Width.{Width}
use Rattle.wire.specs.declared.number.Width.TheVariants.{One, Two, Three, Four}
use Rattle.wire.specs.declared.number.Number.{Number}
use Rattle.wire.proofs.Parts.{fits, short, Short}

pub length_bytes : (w n : ℕ) → length (bytes_of w n) ≡ w
unfolding bytes_of
length_bytes zero n = refl
length_bytes (suc w) n = simp (length-append, length_bytes w) (omega arith)

-- the number at a place is the number at the front of what is left
pub be_drop : (w : ℕ) (s : List ℕ) (at : ℕ) → be w s at ≡ be w (drop at s) 0
unfolding be
be_drop zero s at = refl
be_drop (suc w) s at = ap₂ (λ (x y : ℕ). x * 256 + y) (be_drop w s at) (simp (zero-add, get_or-drop))

-- the number at a place is that of the first bytes, where it stands in these
pub be_take : (w n : ℕ) (s : List ℕ) (at : ℕ) → at + w ≤ n → be w (take n s) at ≡ be w s at
unfolding be
be_take zero n s at h = refl
be_take (suc w) n s at h =
    ap₂ (λ (x y : ℕ). x * 256 + y) (be_take w n s at (omega arith)) (get_or-take n s (at + w) 0 (omega arith))

-- the first of some bytes are bytes
pub bytes_take : (n : ℕ) (s : List ℕ) → Bytes s → Bytes (take n s)
bytes_take zero s b i = omega arith
bytes_take (suc n) [] b i = omega arith
bytes_take (suc n) (x ∷ s) b zero = b 0
bytes_take (suc n) (x ∷ s) b (suc i) = bytes_take n s (λ j. b (suc j)) i

-- the number of the w bytes of n is n
pub be_of : (w n : ℕ) (rest : List ℕ) → n < 256 ^ w → be w (bytes_of w n ++ rest) 0 ≡ n
unfolding be bytes_of
be_of zero n rest h = omega arith
be_of (suc w) n rest h =
    let q : n / 256 < 256 ^ w = omega (arith, rw pow-suc at h) in
    rw (
      append_assoc,
      be_of w (n / 256) (n % 256 ∷ rest) q,
      zero-add,
      get_or_at (bytes_of w (n / 256)) (n % 256) rest 0 w (length_bytes w (n / 256)),
    )
    (div-add-mod' n 256)

-- the number of w bytes is below 256 to the w
pub be_lt : (w : ℕ) (s : List ℕ) (at : ℕ) → Bytes s → be w s at < 256 ^ w
unfolding be
be_lt zero s at b = omega arith
be_lt (suc w) s at b = rw pow-suc (omega (arith, be_lt w s at b, b (at + w)))

-- the w bytes of the number of w bytes are those
pub of_be : (w : ℕ) (s : List ℕ) → Bytes s → w ≤ length s → bytes_of w (be w s 0) ≡ take w s
unfolding be bytes_of
of_be zero s b h = refl
of_be (suc w) s b h =
    let l : get_or s w 0 < 256 = b w in
    let d : (be w s 0 * 256 + get_or s w 0) / 256 ≡ be w s 0 = omega arith in
    let m : (be w s 0 * 256 + get_or s w 0) % 256 ≡ get_or s w 0 = omega arith in
    rw (zero-add, d, m, of_be w s b (omega arith), take-suc s w 0 h)

pub every_width : (w : ℕ) → EachUndoes w
every_width w = record { long = length_bytes w; back = be_of w; forth = of_be w; holds = be_lt w }

-- the four widths
pub width_bounds : (w : Width) → (1 ≤ bytes_in w) × (bytes_in w ≤ 4)
width_bounds One = (omega arith, omega arith)
width_bounds Two = (omega arith, omega arith)
width_bounds Three = (omega arith, omega arith)
width_bounds Four = (omega arith, omega arith)

-- the number at a place, by the answer for its bytes
pub number_got : (w : ℕ) (s : List ℕ) (at : ℕ) {p : Part} → part_at Incomplete s at w ≡ accepted p
    → number_at w s at ≡ accepted (record { value = be w s at; next = p.next })
unfolding number_at
number_got w s at e = rw e

pub number_no : (w : ℕ) (s : List ℕ) (at : ℕ) {r : Refusal} → part_at Incomplete s at w ≡ refused r
    → number_at w s at ≡ refused r
unfolding number_at
number_no w s at e = rw e

-- what the answer for a number says of the bytes
pub record Reads (w : ℕ) (s : List ℕ) (at : ℕ) (l : Number) : Type 0 where
  pub is : l ≡ record { value = be w s at; next = at + w }
  pub inside : at + w ≤ length s

pub number_is : (w : ℕ) (s : List ℕ) (at : ℕ) {l : Number} → number_at w s at ≡ accepted l → Reads w s at l
unfolding number_at
number_is w s at {l} e =
    let t = then_accepted (part_at Incomplete s at w) (λ p. accepted (record { value = be w s at; next = p.next })) e in
    let f = fits Incomplete s at w t.1 in
    let d : record { value = be w s at; next = t.0.next } ≡ l = cc t.2 in
    record { is = sym d ∙ rw f.is; inside = f.inside }

pub number_value : (w : ℕ) (s : List ℕ) (at : ℕ) {l : Number} → number_at w s at ≡ accepted l → be w s at ≡ l.value
number_value w s at e = sym (ap (λ (l : Number). l.value) (number_is w s at e).is)

pub number_short : (w : ℕ) (s : List ℕ) (at : ℕ) {r : Refusal} → number_at w s at ≡ refused r → Short Incomplete s at w r
unfolding number_at
number_short w s at {r} e =
    go (then_refused (part_at Incomplete s at w) (λ p. accepted (record { value = be w s at; next = p.next })) e)
  where
    go : (part_at Incomplete s at w ≡ refused r) ⊎
        ((p : Part) × (part_at Incomplete s at w ≡ accepted p)
        × (◌≡◌ {A = Answer Number} (accepted (record { value = be w s at; next = p.next })) (refused r)))
        → Short Incomplete s at w r
    go (inl q) = short Incomplete s at w q
    go (inr (p, q, z)) = absurd (not_both refl z)

-- a number that was found is below the limit of its width
pub below_limit : (w : ℕ) {a : (Result Number Refusal)} {n : Number} → Below w a → a ≡ Ok n → n.value < 256 ^ w
below_limit w b g = rw g at b
