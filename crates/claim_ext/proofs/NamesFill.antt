-- Names that fill bytes, by places and lengths. Assumes nothing.
use Prim.Native.Nat.{ℕ, zero, suc, ◌+◌, ◌-◌, ◌≤◌}
use mathlib.Core.Path.{◌≡◌, refl, sym, ap, ◌∙◌}
use mathlib.Core.Bool.{Bool, true, false}
use mathlib.Core.List.{List}
use native.Mathlib.Omega.{arith}
use native.Mathlib.Nat.{add-zero}
use borrow.Author.Tests.{leb-true, leb-false, le-leb, lt-leb, eqb-true, eqb-false, eq-eqb, ne_eqb}
use lib.Dec.{leb, eqb}
use lib.ListN.{length}
use Rattle.wire.specs.Numbers.{be}
use Rattle.list.specs.Items.{items_from}
use Rattle.list.specs.Stopping.{end_of}
use Rattle.list.specs.Tagged.{any_data, fit_at}
use Rattle.list.proofs.Stopping.{moves_by}
use Rattle.list.proofs.Tags.{moves}
use Rattle.list.proofs.Walk.{Moves, rest_all, rest_on, rest_end}
use Rattle.read_ext.specs.Kinds.{names_fill}
use Rattle.read_ext.proofs.Turns.{past, left}
use Rattle.claim_ext.specs.ExtCases.{two, names_case}
use Rattle.claim_ext.proofs.Places.{NoneFit, fit_there, fit_cut, fit_short}

-- bytes stand in others from a place on: the numbers of two bytes are the same
abbrev pub Copied : List ℕ → List ℕ → ℕ → Type 0
Copied c s a = (j : ℕ) → j + 2 ≤ length c → be 2 c j ≡ two s (a + j)

module _ (c s : List ℕ) (a : ℕ) (same : Copied c s a) where
  -- each name found ends behind where it begins
  walks : Moves (fit_at 1 any_data c) past (length c)
  walks = moves_by (moves 1 any_data c)

  -- the names from a place on fill the bytes
  abbrev filled_from : ℕ → Bool
  filled_from i = eqb (end_of past (left 1 any_data c i) i) (length c)

  -- they do from the end on
  at_end : (i : ℕ) → i ≡ length c → filled_from i ≡ true
  unfolding items_from end_of
  at_end i e =
      let z : length c - i ≡ 0 = omega arith in
      rw z (eq-eqb i (length c) e)

  -- they do not where none is found before it
  none_there : (i : ℕ) → (i ≡ length c → ⊥) → NoneFit 1 any_data c i → filled_from i ≡ false
  unfolding end_of
  none_there i h (r, e) = rw (rest_end walks i e) (ne_eqb i (length c) h)

  -- where one is found, those behind it do or not
  one_there : (i : ℕ) → i + 1 + 2 + be 2 c (i + 1) ≤ length c
      → filled_from i ≡ filled_from (i + 1 + 2 + be 2 c (i + 1))
  unfolding end_of
  one_there i h = rw (rest_on walks i (fit_there 1 any_data c i h refl))

  -- the length of a name is the number that stands there
  number : (i : ℕ) → i + 1 + 2 ≤ length c → be 2 c (i + 1) ≡ two s (a + i + 1)
  number i l =
      let z : a + (i + 1) ≡ a + i + 1 = omega arith in
      same (i + 1) l ∙ ap (two s) z

  -- the place past a name
  further : (i : ℕ) → a + (i + 1 + 2 + be 2 c (i + 1)) ≡ a + i + 3 + be 2 c (i + 1)
  further i = omega arith

  -- names from a place on fill the bytes just where at most n do by places and lengths
  abbrev Shown : ℕ → Type 0
  Shown n = (i : ℕ) → i ≤ length c → length c - i ≤ n → filled_from i ≡ names_case n s (a + i) (a + length c)

  -- that is so of every n
  from : (n : ℕ) → Shown n
  unfolding names_case
  from zero i h k =
      at_end i (omega arith) ∙ sym (eq-eqb (a + i) (a + length c) (omega arith))
  from (suc n) i h k = first (λ j l m. from n j l m) (eqb i (length c)) refl
    where
      third : Shown n → (i ≡ length c → ⊥) → i + 1 + 2 ≤ length c → (t : Bool)
          → leb (i + 1 + 2 + be 2 c (i + 1)) (length c) ≡ t
          → filled_from i ≡ names_case (suc n) s (a + i) (a + length c)
      third ih d l true e =
          let q : be 2 c (i + 1) ≡ two s (a + i + 1) = number i l in
          let m = leb-true _ _ e in
          one_there i m
          ∙ ih (i + 1 + 2 + be 2 c (i + 1)) m (omega arith)
          ∙ ap (λ (z : ℕ). names_case n s z (a + length c)) (further i)
          ∙ rw (
            ne_eqb (a + i) (a + length c) (λ z. d (omega arith)),
            le-leb (a + i + 3) (a + length c) (omega arith),
            ← q,
            le-leb (a + i + 3 + be 2 c (i + 1)) (a + length c) (omega arith),
          )
      third ih d l false e =
          let q : be 2 c (i + 1) ≡ two s (a + i + 1) = number i l in
          let m = leb-false _ _ e in
          none_there i d (fit_short 1 any_data c i l m)
          ∙ rw (
            ne_eqb (a + i) (a + length c) (λ z. d (omega arith)),
            le-leb (a + i + 3) (a + length c) (omega arith),
            ← q,
            lt-leb (a + i + 3 + be 2 c (i + 1)) (a + length c) (omega arith),
          )

      second : Shown n → (i ≡ length c → ⊥) → (t : Bool) → leb (i + 1 + 2) (length c) ≡ t
          → filled_from i ≡ names_case (suc n) s (a + i) (a + length c)
      second ih d true e = third ih d (leb-true _ _ e) (leb (i + 1 + 2 + be 2 c (i + 1)) (length c)) refl
      second ih d false e =
          let m = leb-false (i + 1 + 2) (length c) e in
          none_there i d (fit_cut 1 any_data c i m)
          ∙ rw (ne_eqb (a + i) (a + length c) (λ z. d (omega arith)), lt-leb (a + i + 3) (a + length c) (omega arith))

      first : Shown n → (t : Bool) → eqb i (length c) ≡ t
          → filled_from i ≡ names_case (suc n) s (a + i) (a + length c)
      first ih true e =
          at_end i (eqb-true i (length c) e)
          ∙ rw (eq-eqb (a + i) (a + length c) (omega (arith, eqb-true i (length c) e)))
      first ih false e = second ih (eqb-false i (length c) e) (leb (i + 1 + 2) (length c)) refl

  -- names fill the bytes just where they do by places and lengths
  pub names_case_lem : (n : ℕ) → length c ≤ n → names_fill c ≡ names_case n s a (a + length c)
  names_case_lem n h =
      ap (λ xs. eqb (end_of past xs 0) (length c)) (rest_all (fit_at 1 any_data c) past (length c))
      ∙ from n 0 (omega arith) (omega arith)
      ∙ ap (λ (z : ℕ). names_case n s z (a + length c)) (add-zero a)
