-- Items with a tag by the numbers that stand at a place: which one is found there, and where none
-- is. Assumes nothing.
use Prim.Native.Nat.{ℕ, ◌+◌, ◌-◌, ◌<◌, ◌≤◌}
use mathlib.Core.Path.{◌≡◌, refl, sym, ◌∙◌}
use mathlib.Core.Bool.{Bool, true, false}
use mathlib.Core.List.{List}
use native.Mathlib.Omega.{arith}
use native.Mathlib.Nat.{zero-add, add-zero}
use borrow.Author.Tests.{leb-true, leb-false, le-leb}
use lib.Dec.{leb}
use lib.ListN.{length, drop}
use lib.Seq.{drop-drop}
use Rattle.refusal.specs.Answers.{accepted, refused}
use Rattle.refusal.specs.Refusals.{refusal}
use Rattle.refusal.specs.declared.Reason.TheVariants.{Incomplete, LengthValue}
use Rattle.refusal.specs.declared.Refusal.{Refusal}
use Rattle.wire.specs.Numbers.{be}
use Rattle.wire.specs.Parts.{part_of}
use Rattle.wire.specs.declared.view.View.{View}
use Rattle.wire.proofs.Parts.{part_in, part_out}
use Rattle.wire.proofs.Numbers.{be_drop, be_take, number_got, number_no}
use Rattle.field.specs.Fields.{rule_of, sized, step}
use Rattle.field.specs.declared.RuleName.TheVariants.{Plain}
use Rattle.field.proofs.Closing.{as_said}
use Rattle.list.specs.Tagged.{tagged_at, Fit, fit_at}
use Rattle.list.specs.declared.tagged.Tagged.{Tagged}
use Rattle.list.proofs.Tags.{no_tag, no_data, both}
use Rattle.claim_ext.specs.ExtCases.{two}

-- the n bytes from a place on
abbrev pub view : ℕ → ℕ → View
view at n = record { start = at; len = n }

-- the number of two bytes, by these
pub be_two : (s : List ℕ) (at : ℕ) → be 2 s at ≡ two s at
unfolding be
be_two s at = simp (zero-add, add-zero)

-- a number that stands in a part stands in the bytes
pub be_part : (s : List ℕ) (a m j : ℕ) → a + m ≤ length s → j + 2 ≤ m → be 2 (part_of s (view a m)) j ≡ be 2 s (a + j)
be_part s a m j h i =
    rw (le-leb (a + m) (length s) h)
    (be_take 2 m (drop a s) j i ∙ be_drop 2 (drop a s) j ∙ rw drop-drop (sym (be_drop 2 s (a + j))))

-- the item of the numbers that stand at a place
abbrev pub item_there : ℕ → List ℕ → ℕ → Tagged
item_there w s at = record {
  tag = be w s at;
  view = view (at + w + 2) (be 2 s (at + w));
  next = at + w + 2 + be 2 s (at + w);
}

-- none is found there that fits
abbrev pub NoneFit : ℕ → Fit → List ℕ → ℕ → Type 0
NoneFit w fit s at = (r : Refusal) × (fit_at w fit s at ≡ refused r)

module _ (w : ℕ) (s : List ℕ) (at : ℕ) where
  -- where its bytes are there, the item is found
  there : at + w + 2 + be 2 s (at + w) ≤ length s → tagged_at w s at ≡ accepted (item_there w s at)
  there h =
      both w s at (number_got w s at (part_in Incomplete s at w (omega arith)))
      (as_said 2 (rule_of Plain) s (at + w) (omega arith) refl
      ∙ part_in Incomplete s (at + w + 2) (be 2 s (at + w)) h)

  -- where its tag and its length are not there, none is
  cut : length s < at + w + 2 → (r : Refusal) × (tagged_at w s at ≡ refused r)
  unfolding step
  cut h = go (leb (at + w) (length s)) refl
    where
      go : (t : Bool) → leb (at + w) (length s) ≡ t → (r : Refusal) × (tagged_at w s at ≡ refused r)
      go true e =
          let n = number_no 2 s (at + w) (part_out Incomplete s (at + w) 2 h) in
          let r = refusal Incomplete (at + w) (2 - (length s - (at + w))) in
          let d : step (sized 2) s (at + w) ≡ refused r = rw n in
          (r, no_data w s at (number_got w s at (part_in Incomplete s at w (leb-true _ _ e))) d)
      go false e = (_, no_tag w s at (number_no w s at (part_out Incomplete s at w (leb-false _ _ e))))

  -- where its data is not there, none is
  short : at + w + 2 ≤ length s → length s < at + w + 2 + be 2 s (at + w)
      → (r : Refusal) × (tagged_at w s at ≡ refused r)
  short i h = (
    _,
    no_data w s at (number_got w s at (part_in Incomplete s at w (omega arith)))
        (as_said 2 (rule_of Plain) s (at + w) i refl ∙ part_out Incomplete s (at + w + 2) (be 2 s (at + w)) h),
  )

module _ (w : ℕ) (fit : Fit) (s : List ℕ) (at : ℕ) where
  -- an item whose bytes are there is found where its data fits
  pub fit_there : at + w + 2 + be 2 s (at + w) ≤ length s
      → fit (be w s at) (part_of s (view (at + w + 2) (be 2 s (at + w)))) ≡ true
      → fit_at w fit s at ≡ accepted (item_there w s at)
  unfolding fit_at
  fit_there h f = rw (there w s at h, f)

  -- and none where it does not
  pub fit_unlike : at + w + 2 + be 2 s (at + w) ≤ length s
      → fit (be w s at) (part_of s (view (at + w + 2) (be 2 s (at + w)))) ≡ false → NoneFit w fit s at
  unfolding fit_at
  fit_unlike h f = (refusal LengthValue at 0, rw (there w s at h, f))

  -- none where tag and length are not there
  pub fit_cut : length s < at + w + 2 → NoneFit w fit s at
  unfolding fit_at
  fit_cut h = let c = cut w s at h in (c.0, rw c.1)

  -- none where the data is not there
  pub fit_short : at + w + 2 ≤ length s → length s < at + w + 2 + be 2 s (at + w) → NoneFit w fit s at
  unfolding fit_at
  fit_short i h = let c = short w s at i h in (c.0, rw c.1)
