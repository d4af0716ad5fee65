-- A walk over whatever is found at one place after the other: what is left at a place, by what is
-- found there. What is found at a place ends behind it and within the bytes. Assumes nothing.
use Prim.Native.Nat.{ℕ, zero, suc, ◌+◌, ◌-◌, ◌<◌, ◌≤◌}
use mathlib.Core.Path.{◌≡◌, refl, sym, ◌∙◌}
use mathlib.Core.List.{List, [], ◌∷◌}
use native.Mathlib.Omega.{arith}
use native.Mathlib.Nat.{sub-zero}
use lib.ListN.{length}
use Rattle.refusal.specs.Answers.{Answer, accepted, refused}
use Rattle.refusal.specs.Refusals.{refusal}
use Rattle.refusal.specs.declared.Reason.TheVariants.{NoSuch}
use Rattle.refusal.specs.declared.Refusal.{Refusal}
use Rattle.refusal.proofs.Then.{not_both}
use Rattle.list.specs.Items.{items_from, place, or_no_such}

-- NoSuch is the answer just where the place is at or past the count
pub place_past : {A : Type 0} (n : ℕ) (xs : List A) → length xs ≤ n → place n xs ≡ refused (refusal NoSuch 0 0)
unfolding place
place_past n [] h = refl
place_past zero (x ∷ xs) h = absurd (omega arith)
place_past (suc n) (x ∷ xs) h = place_past n xs (omega arith)

pub place_below : {A : Type 0} (n : ℕ) (xs : List A) → n < length xs → (x : A) × (place n xs ≡ accepted x)
unfolding place
place_below n [] h = absurd (omega arith)
place_below zero (x ∷ xs) h = (x, refl)
place_below (suc n) (x ∷ xs) h = place_below n xs (omega arith)

-- behind nothing there is nothing
pub none_after : {A : Type 0} (k : ℕ) (xs : List A) {r : Refusal} → place k xs ≡ refused r
    → place (suc k) xs ≡ refused (refusal NoSuch 0 0)
unfolding place
none_after k [] e = refl
none_after zero (x ∷ xs) e = absurd (not_both refl e)
none_after (suc k) (x ∷ xs) e = none_after k xs e

pub none_at_all : {A : Type 0} (xs : List A) → length xs ≡ 0 → xs ≡ []
none_at_all [] e = refl
none_at_all (x ∷ xs) e = absurd (omega arith)

-- what an answer that is NoSuch where nothing is found says of what is found
pub got : {A : Type 0} (a : Answer A) {x : A} → or_no_such a ≡ accepted x → a ≡ accepted x
got (accepted y) e = e
got (refused r) e = absurd (not_both e refl)

pub none : {A : Type 0} (a : Answer A) {r : Refusal} → or_no_such a ≡ refused r → (y : Refusal) × (a ≡ refused y)
    × (r ≡ refusal NoSuch 0 0)
none (accepted y) e = absurd (not_both refl e)
none {A} (refused y) {r} e = let d : ◌≡◌ {A = Answer A} (refused (refusal NoSuch 0 0)) (refused r) = e in (y, refl, cc)

-- what is found at a place ends behind it, and by the end
pub record Moves {A : Type 0} (find : ℕ → Answer A) (past : A → ℕ) (n : ℕ) : Type 0 where
  pub on : (at : ℕ) (x : A) → find at ≡ accepted x → (at + 1 ≤ past x) × (past x ≤ n)

-- what is left at a place, of n bytes
abbrev pub rest : {A : Type 0} → (ℕ → Answer A) → (A → ℕ) → ℕ → ℕ → List A
rest find past n at = items_from (n - at) find past at

module _ {A : Type 0} {find : ℕ → Answer A} {past : A → ℕ} {n : ℕ} (moves : Moves find past n) where
  -- from a place at or past the end there is nothing
  none_past : (k at : ℕ) → n ≤ at → items_from k find past at ≡ []
  unfolding items_from
  none_past zero at h = refl
  none_past (suc k) at h = go (find at) refl
    where
      go : (a : Answer A) → find at ≡ a → items_from (suc k) find past at ≡ []
      go (accepted x) e = let i = moves.on at _ e in absurd (omega arith)
      go (refused r) e = rw e

  -- any number of turns will do that is not below the bytes left
  pub fuel : (k m at : ℕ) → n - at ≤ k → n - at ≤ m → items_from k find past at ≡ items_from m find past at
  unfolding items_from
  fuel zero m at h l = sym (none_past m at (omega arith))
  fuel (suc k) zero at h l = none_past (suc k) at (omega arith)
  fuel (suc k) (suc m) at h l = go (λ p i j. fuel k m p i j) (find at) refl
    where
      go : ((p : ℕ) → n - p ≤ k → n - p ≤ m → items_from k find past p ≡ items_from m find past p) → (a : Answer A)
          → find at ≡ a → items_from (suc k) find past at ≡ items_from (suc m) find past at
      go ih (accepted x) e = let i = moves.on at _ e in rw (e, ih (past x) (omega arith) (omega arith))
      go ih (refused r) e = rw e

module _ {A : Type 0} {find : ℕ → Answer A} {past : A → ℕ} {n : ℕ} (moves : Moves find past n) (at : ℕ) where
  pub rest_on : {x : A} → find at ≡ accepted x → rest find past n at ≡ x ∷ rest find past n (past x)
  unfolding items_from
  rest_on {x} e =
      let i = moves.on at _ e in
      let k : n - at ≡ suc (n - at - 1) = omega arith in
      rw (k, e, fuel moves (n - at - 1) (n - past x) (past x) (omega arith) (omega arith))

  pub rest_end : {r : Refusal} → find at ≡ refused r → rest find past n at ≡ []
  unfolding items_from
  rest_end e = fuel moves (n - at) (suc (n - at)) at (omega arith) (omega arith) ∙ rw e

pub rest_all : {A : Type 0} (find : ℕ → Answer A) (past : A → ℕ) (n : ℕ) → items_from n find past 0 ≡ rest find past n 0
rest_all find past n = rw sub-zero

module _ {A : Type 0} {find : ℕ → Answer A} {past : A → ℕ} {n : ℕ} (moves : Moves find past n) where
  -- the first of what is left is what is found there
  pub first : (at : ℕ) → place 0 (rest find past n at) ≡ or_no_such (find at)
  unfolding place
  first at = go (find at) refl
    where
      go : (a : Answer A) → find at ≡ a → place 0 (rest find past n at) ≡ or_no_such (find at)
      go (accepted x) e = rw (rest_on moves at e, e)
      go (refused r) e = rw (rest_end moves at e, e)

  -- past the last
  pub past_last : (at k : ℕ) {r : Refusal} → find at ≡ refused r
      → place k (rest find past n at) ≡ refused (refusal NoSuch 0 0)
  unfolding place
  past_last at k e = rw (rest_end moves at e)

  -- behind one stands what is found at its next place
  pub go_on : (k at : ℕ) {x : A} → place k (rest find past n at) ≡ accepted x
      → place (suc k) (rest find past n at) ≡ or_no_such (find (past x))
  unfolding place
  go_on zero at e =
      let q = got (find at) (sym (first at) ∙ e) in
      rw (rest_on moves at q) (first _)
  go_on (suc k) at {x} e = go (λ m y. go_on k m y) (find at) refl
    where
      go : ((m : ℕ) → place k (rest find past n m) ≡ accepted x
          → place (suc k) (rest find past n m) ≡ or_no_such (find (past x))) → (a : Answer A) → find at ≡ a
          → place (suc (suc k)) (rest find past n at) ≡ or_no_such (find (past x))
      go ih (accepted q) y = rw (rest_on moves at y) (ih (past q) (rw (rest_on moves at y) at e))
      go ih (refused r) y = absurd (not_both e (past_last at (suc k) y))
