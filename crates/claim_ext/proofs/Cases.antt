-- The theorems of `specs/ExtCases.antt`: blocks by places and lengths, and texts by lengths.
-- Assumes nothing.
use Prim.Native.Nat.{ℕ, zero, suc, ◌+◌, ◌-◌, ◌≤◌}
use mathlib.Core.Path.{◌≡◌, refl, ap, ◌∙◌}
use mathlib.Core.Bool.{Bool, true, false}
use mathlib.Core.List.{List}
use native.Mathlib.Omega.{arith}
use native.Mathlib.Nat.{zero-add, add-zero}
use borrow.Author.Tests.{leb-true, leb-false, le-leb, eqb-true, eqb-false, eq-eqb, ne_eqb}
use lib.Dec.{leb, eqb}
use lib.ListN.{length}
use Rattle.refusal.specs.Refusals.{refusal, number_of}
use Rattle.refusal.specs.declared.Reason.TheVariants.{LengthValue}
use Rattle.wire.specs.Numbers.{be}
use Rattle.wire.specs.Parts.{pick, part_of}
use Rattle.list.specs.Items.{items_from}
use Rattle.list.specs.Stopping.{end_of}
use Rattle.list.specs.Tagged.{fit_at}
use Rattle.list.specs.declared.tagged.Tagged.{Tagged}
use Rattle.list.proofs.Stopping.{moves_by}
use Rattle.list.proofs.Tags.{moves}
use Rattle.list.proofs.Walk.{Moves, rest_all, rest_on, rest_end}
use Rattle.read_ext.specs.Kinds.{fits}
use Rattle.read_ext.specs.Extensions.{extensions, if_sound, items_of}
use Rattle.read_ext.proofs.Turns.{past, left}
use Rattle.claim_ext.specs.ExtCases.{two, data_case, block_case, block_says, BlockCases, WriteCases}
use Rattle.claim_ext.proofs.Places.{view, be_two, NoneFit, fit_there, fit_unlike, fit_cut, fit_short}
use Rattle.claim_ext.proofs.DataFits.{data_case_lem}
use Rattle.claim_ext.proofs.Texts.{ext_text_lem, list_text_lem, name_text_lem}

module _ (s : List ℕ) where
  -- each item found ends behind where it begins
  walks : Moves (fit_at 2 fits s) past (length s)
  walks = moves_by (moves 2 fits s)

  -- what is said of items that begin at a place, k before them
  abbrev told : List Tagged → ℕ → ℕ → ℕ × ℕ
  told xs at k = pick (eqb (end_of past xs at) (length s)) (0, k + length xs) (number_of LengthValue, k + length xs)

  -- what is said of those from a place on
  abbrev told_from : ℕ → ℕ → ℕ × ℕ
  told_from at k = told (left 2 fits s at) at k

  -- from the end on there are none
  at_end : (at k : ℕ) → at ≡ length s → told_from at k ≡ (0, k)
  unfolding items_from end_of
  at_end at k e =
      let z : length s - at ≡ 0 = omega arith in
      rw (z, eq-eqb at (length s) e, add-zero k)

  -- before it, where none is found, the block is damaged there
  none_there : (at k : ℕ) → (at ≡ length s → ⊥) → NoneFit 2 fits s at → told_from at k ≡ (number_of LengthValue, k)
  unfolding end_of
  none_there at k h (r, e) = rw (rest_end walks at e, ne_eqb at (length s) h, add-zero k)

  -- where one is found, those behind it tell
  one_there : (at k : ℕ) → at + 2 + 2 + be 2 s (at + 2) ≤ length s
      → fits (be 2 s at) (part_of s (view (at + 2 + 2) (be 2 s (at + 2)))) ≡ true
      → told_from at k ≡ told_from (at + 2 + 2 + be 2 s (at + 2)) (suc k)
  unfolding end_of
  one_there at k h f =
      let n = at + 2 + 2 + be 2 s (at + 2) in
      let z : k + suc (length (left 2 fits s n)) ≡ suc k + length (left 2 fits s n) = omega arith in
      rw (rest_on walks at (fit_there 2 fits s at h f), z)

  -- the data there, by places and lengths
  data_there : (at : ℕ) → at + 2 + 2 + be 2 s (at + 2) ≤ length s
      → fits (be 2 s at) (part_of s (view (at + 2 + 2) (be 2 s (at + 2))))
      ≡ data_case s (two s at) (at + 4) (two s (at + 2))
  data_there at h =
      let z : at + 2 + 2 ≡ at + 4 = omega arith in
      data_case_lem s (at + 2 + 2) (be 2 s (at + 2)) h (be 2 s at) ∙ rw (be_two s at, be_two s (at + 2), z)

  -- the block from a place on is told as at most n items are by places and lengths
  abbrev Shown : ℕ → Type 0
  Shown n = (at k : ℕ) → at ≤ length s → length s - at ≤ n → told_from at k ≡ block_case n s at k

  -- that is so of every n
  from : (n : ℕ) → Shown n
  unfolding block_case
  from zero at k h l =
      let e : at ≡ length s = omega arith in
      at_end at k e ∙ rw (eq-eqb at (length s) e)
  from (suc n) at k h l = first (λ i j x y. from n i j x y) (eqb at (length s)) refl
    where
      fourth : Shown n → (at ≡ length s → ⊥) → at + 4 ≤ length s → at + 4 + two s (at + 2) ≤ length s → (t : Bool)
          → data_case s (two s at) (at + 4) (two s (at + 2)) ≡ t
          → told_from at k ≡ block_case (suc n) s at k
      fourth ih d m o true e =
          let q = be_two s (at + 2) in
          let i : at + 2 + 2 + be 2 s (at + 2) ≤ length s = omega arith in
          let z : at + 2 + 2 + be 2 s (at + 2) ≡ at + 4 + two s (at + 2) = omega arith in
          one_there at k i (data_there at i ∙ e)
          ∙ ih (at + 2 + 2 + be 2 s (at + 2)) (suc k) i (omega arith)
          ∙ ap (λ (y : ℕ). block_case n s y (suc k)) z
          ∙ rw (
            ne_eqb at (length s) d,
            le-leb (at + 4) (length s) m,
            le-leb (at + 4 + two s (at + 2)) (length s) o,
            e,
          )
      fourth ih d m o false e =
          let q = be_two s (at + 2) in
          let i : at + 2 + 2 + be 2 s (at + 2) ≤ length s = omega arith in
          none_there at k d (fit_unlike 2 fits s at i (data_there at i ∙ e))
          ∙ rw (
            ne_eqb at (length s) d,
            le-leb (at + 4) (length s) m,
            le-leb (at + 4 + two s (at + 2)) (length s) o,
            e,
          )

      third : Shown n → (at ≡ length s → ⊥) → at + 4 ≤ length s → (t : Bool)
          → leb (at + 4 + two s (at + 2)) (length s) ≡ t
          → told_from at k ≡ block_case (suc n) s at k
      third ih d m true e =
          fourth ih d m (leb-true _ _ e) (data_case s (two s at) (at + 4) (two s (at + 2))) refl
      third ih d m false e =
          let q = be_two s (at + 2) in
          let o = leb-false (at + 4 + two s (at + 2)) (length s) e in
          none_there at k d (fit_short 2 fits s at (omega arith) (omega arith))
          ∙ rw (ne_eqb at (length s) d, le-leb (at + 4) (length s) m, e)

      second : Shown n → (at ≡ length s → ⊥) → (t : Bool) → leb (at + 4) (length s) ≡ t
          → told_from at k ≡ block_case (suc n) s at k
      second ih d true e = third ih d (leb-true _ _ e) (leb (at + 4 + two s (at + 2)) (length s)) refl
      second ih d false e =
          let m = leb-false (at + 4) (length s) e in
          none_there at k d (fit_cut 2 fits s at (omega arith)) ∙ rw (ne_eqb at (length s) d, e)

      first : Shown n → (t : Bool) → eqb at (length s) ≡ t → told_from at k ≡ block_case (suc n) s at k
      first ih true e = at_end at k (eqb-true at (length s) e) ∙ rw e
      first ih false e = second ih (eqb-false at (length s) e) (leb (at + 4) (length s)) refl

  -- a block is told by its items
  says : block_says (extensions s) ≡ told (items_of s) 0 0
  unfolding extensions if_sound refusal
  says = rw (zero-add (length (items_of s))) (go (eqb (end_of past (items_of s) 0) (length s)) refl)
    where
      go : (t : Bool) → eqb (end_of past (items_of s) 0) (length s) ≡ t
          → block_says (extensions s)
          ≡ pick (eqb (end_of past (items_of s) 0) (length s)) (0, length (items_of s))
          (number_of LengthValue, length (items_of s))
      go true e = rw e
      go false e = rw e

-- every block, by places and lengths
pub block_cases_lem : BlockCases
block_cases_lem s =
    says s
    ∙ ap (λ xs. told s xs 0 0) (rest_all (fit_at 2 fits s) past (length s))
    ∙ from s (length s) 0 0 (omega arith) (omega arith)

-- every text, by lengths
pub write_cases_lem : WriteCases
write_cases_lem = record { one = ext_text_lem; list = list_text_lem; name = name_text_lem }
