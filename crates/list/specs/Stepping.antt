-- A walk by steps. A step is asked at a byte, and answers the place past what begins there, or why
-- nothing does; the next one is asked there, until one is refused.
use Rattle.std.specs.Prelude.{◌^◌, ◌<◌, ◌≡◌}
use Rattle.refusal.specs.{ℕ, zero, suc, List, Answer, accepted, then}
use Rattle.list.specs.Items.{items_from}
use Rattle.list.specs.Stopping.{end_of}

-- each step moves on
abbrev pub MovesOn : (ℕ → Answer ℕ) → Type 0
MovesOn step = (at next : ℕ) → at < 2 ^ 64 → step at ≡ accepted next → at < next

-- the places that the steps of a walk lead to, the first step asked at a byte. The bound of the
-- recursion never ends a walk whose steps move on, since places are below it
abbrev pub places_from : (ℕ → Answer ℕ) → ℕ → List ℕ
places_from step from = items_from (2 ^ 64) step (λ next. next) from

-- and where it stops
abbrev pub stop_from : (ℕ → Answer ℕ) → ℕ → ℕ
stop_from step from = end_of (λ next. next) (places_from step from) from

-- where so many steps lead from a byte, or why one of them is refused
unfoldable pub led_by : ℕ → (ℕ → Answer ℕ) → ℕ → Answer ℕ
led_by zero step from = accepted from
led_by (suc n) step from = then (step from) (λ next. led_by n step next)
