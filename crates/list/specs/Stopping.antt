-- The stopping rule: whatever is found at one byte after the other, until one is refused. How many
-- there are is the length of the list; where they end and what is left over is said here, once for
-- messages of every record type and for records. RULES 6.6, 6.10, 6.20. Shown of every such rule by
-- `proofs/Stopping.antt`.
use Rattle.std.specs.Prelude.{◌+◌, ◌-◌, ◌*◌, ◌≤◌, ◌≡◌, ◌∷◌}
use Rattle.refusal.specs.{ℕ, suc, List, [], length, Answer, accepted, refused, Refusal}
use Rattle.list.specs.Items.{items_from, place, or_no_such}

-- the byte past all of them, the first beginning at a byte
unfoldable pub end_of : {A : Type 0} → (A → ℕ) → List A → ℕ → ℕ
end_of past [] at = at
end_of past (x ∷ xs) at = end_of past xs (past x)

-- how many of n bytes lie behind them
abbrev pub left_over_of : {A : Type 0} → (A → ℕ) → List A → ℕ → ℕ
left_over_of past xs n = n - end_of past xs 0

-- what is found, `find` looking at a byte and `past x` being the byte past x, takes so many bytes
-- at least and ends within n
pub record Takes {A : Type 0} (find : ℕ → Answer A) (past : A → ℕ) (least n : ℕ) : Type 0 where
  pub one : 1 ≤ least
  pub on : (at : ℕ) (x : A) → find at ≡ accepted x → (at + least ≤ past x) × (past x ≤ n)

-- what is shown then of all that is found in n bytes
pub record Stops {A : Type 0} (find : ℕ → Answer A) (past : A → ℕ) (least n : ℕ) : Type 0 where
  -- the first is what is found at the front, and behind each stands what is found where it ends
  pub begins : place 0 (items_from n find past 0) ≡ or_no_such (find 0)
  pub goes_on_of : (k : ℕ) (x : A) → place k (items_from n find past 0) ≡ accepted x → place (suc k) (items_from n find past 0) ≡ or_no_such (find (past x))
  -- they end where one is refused, and by the end of the bytes
  pub stops : (r : Refusal) × (find (end_of past (items_from n find past 0) 0) ≡ refused r)
  pub whole : end_of past (items_from n find past 0) 0 + left_over_of past (items_from n find past 0) n ≡ n
  -- steps in proportion to the bytes
  pub steps : length (items_from n find past 0) * least ≤ n
  -- the bound never ends them: by a larger one no more are found
  pub none_more_of : (m : ℕ) → n ≤ m → items_from m find past 0 ≡ items_from n find past 0
