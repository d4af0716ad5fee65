-- A walk by steps that may answer more than one thing. `step at r` says that the step, asked at a
-- byte, may answer r: the place past what begins there, or why nothing does.
use Rattle.std.specs.Prelude.{◌^◌, ◌<◌, ◌≡◌, Result, Ok, Err}
use Rattle.refusal.specs.{ℕ, zero, suc, Refusal}

-- each step moves on
abbrev pub MovesOn : (ℕ → Result ℕ Refusal → Type 0) → Type 0
MovesOn step = (at next : ℕ) → at < 2 ^ 64 → step at (Ok next) → at < next

-- so many steps lead from a byte to another
unfoldable pub Leads : (ℕ → Result ℕ Refusal → Type 0) → ℕ → ℕ → ℕ → Type 0
Leads step zero from to = from ≡ to
Leads step (suc k) from to = (next : ℕ) × (from < 2 ^ 64) × step from (Ok next) × Leads step k next to

-- and there the next one is refused
pub record Halts (step : ℕ → Result ℕ Refusal → Type 0) (from count end : ℕ) (stop : Refusal) : Type 0 where
  pub below : end < 2 ^ 64
  pub leads : Leads step count from end
  pub halts : step end (Err stop)

-- where n steps from the front lead, or why one before the last was refused
abbrev pub Skips : (ℕ → Result ℕ Refusal → Type 0) → ℕ → Result ℕ Refusal → Type 0
Skips step n (Ok to) = (to < 2 ^ 64) × Leads step n 0 to
Skips step n (Err stop) = (k end : ℕ) × (k < n) × Halts step 0 k end stop
