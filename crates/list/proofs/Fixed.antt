-- A list of numbers of w bytes: how many there are, and which one stands at a place, without
-- walking. Assumes nothing.
use Prim.Native.Nat.{ℕ, zero, suc, ◌+◌, ◌-◌, ◌*◌, ◌/◌, ◌<◌, ◌≤◌}
use mathlib.Core.Path.{◌≡◌, refl, sym}
use mathlib.Core.List.{List}
use native.Mathlib.Omega.{arith}
use native.Mathlib.Nat.{sub-zero, zero-add, add-zero, zero-mul, suc-mul, div-eq_of_lt, add-div_right, div-mul-le_self}
use native.Mathlib.Nat.{mul-le-mul_right}
use lib.ListN.{length}
use Rattle.refusal.specs.Answers.{Answer, accepted, refused}
use Rattle.refusal.specs.Refusals.{refusal}
use Rattle.refusal.specs.declared.Reason.TheVariants.{Incomplete, NoSuch}
use Rattle.wire.specs.Numbers.{number_at}
use Rattle.wire.specs.Parts.{part_at}
use Rattle.wire.specs.declared.view.Part.{Part}
use Rattle.wire.proofs.Parts.{found, part_in, fits, short}
use Rattle.wire.proofs.Numbers.{number_got}
use Rattle.field.specs.Fields.{fixed, step}
use Rattle.list.specs.Items.{items_from, items, place, number_place}
use Rattle.list.proofs.Walk.{place_past}

module _ (w : ℕ) (one : 1 ≤ w) (s : List ℕ) where
  count_from : (n at : ℕ) → length s - at ≤ n
      → length (items_from n (step (fixed w) s) (λ (p : Part). p.next) at) ≡ (length s - at) / w
  unfolding items_from step
  count_from zero at h =
      let z : length s - at ≡ 0 = omega arith in
      rw z (sym (div-eq_of_lt (omega arith)))
  count_from (suc n) at h = go (λ p l. count_from n p l) (part_at Incomplete s at w) refl
    where
      go : ((p : ℕ) → length s - p ≤ n
          → length (items_from n (step (fixed w) s) (λ (p : Part). p.next) p) ≡ (length s - p) / w)
          → (a : Answer Part) → part_at Incomplete s at w ≡ a
          → length (items_from (suc n) (step (fixed w) s) (λ (p : Part). p.next) at) ≡ (length s - at) / w
      go ih (accepted p) e =
          let f = fits Incomplete s at w e in
          let i : at + w ≤ length s = f.inside in
          let d : length s - at ≡ length s - (at + w) + w = omega arith in
          rw (e, f.is, ih (at + w) (omega arith), d, add-div_right (length s - (at + w)) one) (omega arith)
      go ih (refused r) e =
          let f = short Incomplete s at w e in
          rw e (sym (div-eq_of_lt (omega arith)))

  pub count_of : length (items (fixed w) s) ≡ length s / w
  count_of = rw sub-zero at (count_from (length s) 0 (omega arith))

  place_from : (j n at : ℕ) → length s - at ≤ n → at + (j * w + w) ≤ length s
      → place j (items_from n (step (fixed w) s) (λ (p : Part). p.next) at) ≡ accepted (found (at + j * w) w)
  unfolding items_from step place
  place_from j zero at h l = absurd (omega arith)
  place_from zero (suc n) at h l = rw (part_in Incomplete s at w (omega arith), zero-mul, add-zero)
  place_from (suc j) (suc n) at h l =
      let m = suc-mul j w in
      let z : at + suc j * w ≡ at + w + j * w = omega arith in
      rw (part_in Incomplete s at w (omega arith), z) (place_from j n (at + w) (omega arith) (omega arith))

  -- the number at a place below the count stands at that many widths
  pub number_below : (n : ℕ) → n < length (items (fixed w) s) → (n * w + w ≤ length s)
      × (number_place n w s ≡ number_at w s (n * w))
  number_below n h =
      let l : n * w + w ≤ length s =
      omega (arith, mul-le-mul_right w (rw count_of at h), suc-mul n w, div-mul-le_self (length s) w) in (
        l,
        rw (
          place_from n (length s) 0 (omega arith) (omega arith),
          zero-add,
          number_got w s (n * w) (part_in Incomplete s (n * w) w l),
        ),
      )

  -- at or past it there is none
  pub number_past : (n : ℕ) → length (items (fixed w) s) ≤ n → number_place n w s ≡ refused (refusal NoSuch 0 0)
  number_past n h = rw (place_past n (items (fixed w) s) h)
