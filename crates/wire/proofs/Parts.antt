-- Laws of the bytes from a place on: where they fit, where they run past the end, and what either
-- answer says. Assumes nothing.
use Prim.Native.Nat.{ℕ, ◌+◌, ◌-◌, ◌<◌, ◌≤◌}
use mathlib.Core.Path.{◌≡◌, refl, sym, ◌∙◌}
use mathlib.Core.List.{List}
use mathlib.Core.Bool.{Bool, true, false}
use borrow.Author.Tests.{leb-true, leb-false, le-leb, lt-leb}
use lib.ListN.{length}
use lib.Dec.{leb}
use Rattle.refusal.specs.Answers.{Answer, accepted, refused}
use Rattle.refusal.proofs.Then.{not_both}
use Rattle.refusal.specs.Refusals.{refusal, unplaced}
use Rattle.refusal.specs.declared.Reason.{Reason}
use Rattle.refusal.specs.declared.Reason.TheVariants.{NoRoom}
use Rattle.refusal.specs.declared.Refusal.{Refusal}
use Rattle.wire.specs.Parts.{part_or, part_at}
use Rattle.wire.specs.Puts.{room_at}
use Rattle.wire.specs.declared.view.Part.{Part}

-- the part of n bytes from a place on
abbrev pub found : ℕ → ℕ → Part
found at n = record { view = record { start = at; len = n }; next = at + n }

-- what an answer says of the bytes
pub record Fits (s : List ℕ) (at n : ℕ) (p : Part) : Type 0 where
  pub is : p ≡ found at n
  pub inside : at + n ≤ length s

-- the bytes, or whatever refusal
module _ (x : Refusal) (s : List ℕ) (at n : ℕ) where
  or_in : at + n ≤ length s → part_or x s at n ≡ accepted (found at n)
  or_in h = rw (le-leb _ _ h)

  or_out : length s < at + n → part_or x s at n ≡ refused x
  or_out h = rw (lt-leb _ _ h)

  or_fits : {p : Part} → part_or x s at n ≡ accepted p → Fits s at n p
  or_fits {p} e = go (leb (at + n) (length s)) refl
    where
      go : (t : Bool) → leb (at + n) (length s) ≡ t → Fits s at n p
      go true q =
          let h : at + n ≤ length s = leb-true _ _ q in
          let d : accepted (found at n) ≡ accepted p = sym (or_in h) ∙ e in
          record { is = cc; inside = h }
      go false q = absurd (not_both e (or_out (leb-false _ _ q)))

  or_short : {r : Refusal} → part_or x s at n ≡ refused r → (r ≡ x) × (length s < at + n)
  or_short {r} e = go (leb (at + n) (length s)) refl
    where
      go : (t : Bool) → leb (at + n) (length s) ≡ t → (r ≡ x) × (length s < at + n)
      go true q = absurd (not_both (or_in (leb-true _ _ q)) e)
      go false q =
          let h : length s < at + n = leb-false _ _ q in
          let d : ◌≡◌ {A = Answer Part} (refused x) (refused r) = sym (or_out h) ∙ e in
          (cc, h)

-- in reading
pub part_in : (r : Reason) (s : List ℕ) (at n : ℕ) → at + n ≤ length s → part_at r s at n ≡ accepted (found at n)
unfolding part_at
part_in r s at n h = or_in _ s at n h

pub part_out : (r : Reason) (s : List ℕ) (at n : ℕ) → length s < at + n
    → part_at r s at n ≡ refused (refusal r at (n - (length s - at)))
unfolding part_at
part_out r s at n h = or_out _ s at n h

pub fits : (r : Reason) (s : List ℕ) (at n : ℕ) {p : Part} → part_at r s at n ≡ accepted p → Fits s at n p
unfolding part_at
fits r s at n e = or_fits _ s at n e

pub record Short (why : Reason) (s : List ℕ) (at n : ℕ) (r : Refusal) : Type 0 where
  pub is : r ≡ refusal why at (n - (length s - at))
  pub outside : length s < at + n

pub short : (why : Reason) (s : List ℕ) (at n : ℕ) {r : Refusal} → part_at why s at n ≡ refused r → Short why s at n r
unfolding part_at
short why s at n e = let q = or_short _ s at n e in record { is = q.0; outside = q.1 }

-- in writing
pub room_in : (d : List ℕ) (at n : ℕ) → at + n ≤ length d → room_at d at n ≡ accepted (found at n)
unfolding room_at
room_in d at n h = or_in _ d at n h

pub room_out : (d : List ℕ) (at n : ℕ) → length d < at + n → room_at d at n ≡ refused (unplaced NoRoom)
unfolding room_at
room_out d at n h = or_out _ d at n h

pub room_fits : (d : List ℕ) (at n : ℕ) {p : Part} → room_at d at n ≡ accepted p → Fits d at n p
unfolding room_at
room_fits d at n e = or_fits _ d at n e

pub room_short : (d : List ℕ) (at n : ℕ) {r : Refusal} → room_at d at n ≡ refused r → (r ≡ unplaced NoRoom)
    × (length d < at + n)
unfolding room_at
room_short d at n e = or_short _ d at n e
