-- The stopping rule: what is shown of whatever is found at one byte after the other, until one is
-- refused. Assumes nothing.
use Prim.Native.Nat.{ℕ, zero, suc, ◌+◌, ◌*◌, ◌≤◌}
use mathlib.Core.Path.{◌≡◌, refl}
use native.Mathlib.Omega.{arith}
use lib.ListN.{length}
use Rattle.refusal.specs.Answers.{Answer, accepted, refused}
use Rattle.refusal.specs.declared.Refusal.{Refusal}
use Rattle.list.specs.Items.{items_from}
use Rattle.list.specs.Stopping.{end_of, Takes, Stops}
use Rattle.list.proofs.Walk.{Moves, fuel, rest_all, first, go_on}

-- what takes a byte at least moves
pub moves_by : {A : Type 0} {find : ℕ → Answer A} {past : A → ℕ} {least n : ℕ} → Takes find past least n
    → Moves find past n
moves_by {least = least} t = record {
  on = λ at x e. let i = t.on at x e in let o : 1 ≤ least = t.one in (omega arith, i.1);
}

module _ {A : Type 0} {find : ℕ → Answer A} {past : A → ℕ} {least n : ℕ} (t : Takes find past least n) where
  -- where all from a byte on end, and how many they are
  pub ends_in : (k at : ℕ) → at ≤ n
      → (end_of past (items_from k find past at) at ≤ n)
      × (at + length (items_from k find past at) * least ≤ end_of past (items_from k find past at) at)
  unfolding items_from end_of
  ends_in zero at h = (h, omega arith)
  ends_in (suc k) at h = go (λ m l. ends_in k m l) (find at) refl
    where
      go : ((m : ℕ) → m ≤ n → (end_of past (items_from k find past m) m ≤ n)
          × (m + length (items_from k find past m) * least ≤ end_of past (items_from k find past m) m)) → (a : Answer A)
          → find at ≡ a
          → (end_of past (items_from (suc k) find past at) at ≤ n)
          × (at + length (items_from (suc k) find past at) * least ≤ end_of past (items_from (suc k) find past at) at)
      go ih (accepted x) e =
          let i = t.on at x e in
          let j = ih (past x) i.1 in
          rw e (j.0, omega (arith, i.0, j.1))
      go ih (refused r) e = rw e (h, omega arith)

  -- with turns enough they end where one is refused
  pub refused_there : (k at : ℕ) → n ≤ k + at
      → (r : Refusal) × (find (end_of past (items_from k find past at) at) ≡ refused r)
  unfolding items_from end_of
  refused_there zero at h = go (find at) refl
    where
      go : (a : Answer A) → find at ≡ a → (r : Refusal) × (find at ≡ refused r)
      go (accepted x) e = let i = t.on at x e in let o : 1 ≤ least = t.one in absurd (omega arith)
      go (refused r) e = (r, e)
  refused_there (suc k) at h = go (λ m l. refused_there k m l) (find at) refl
    where
      go : ((m : ℕ) → n ≤ k + m → (r : Refusal) × (find (end_of past (items_from k find past m) m) ≡ refused r))
          → (a : Answer A) → find at ≡ a
          → (r : Refusal) × (find (end_of past (items_from (suc k) find past at) at) ≡ refused r)
      go ih (accepted x) e =
          let i = t.on at x e in
          let o : 1 ≤ least = t.one in
          rw e (ih (past x) (omega arith))
      go ih (refused r) e = rw e (r, e)

  pub stops_by : Stops find past least n
  stops_by =
      let all = rest_all find past n in
      let m = moves_by t in
      let i = ends_in n 0 (omega arith) in
      record {
        begins = rw all (first m 0);
        goes_on_of = λ k x e. rw all (go_on m k 0 (rw all at e));
        stops = refused_there n 0 (omega arith);
        whole = omega (arith, i.0);
        steps = omega (arith, i.0, i.1);
        none_more_of = λ k h. fuel m k n 0 (omega arith) (omega arith);
      }
