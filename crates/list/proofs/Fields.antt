-- The walk over the items of a field: a step finds an item of at least a byte. Assumes nothing.
use Prim.Native.Nat.{ℕ, suc, ◌≤◌}
use mathlib.Core.Path.{◌≡◌, refl}
use mathlib.Core.List.{List}
use native.Mathlib.Omega.{arith}
use lib.ListN.{length}
use Rattle.refusal.specs.Answers.{accepted, refused, giving}
use Rattle.refusal.specs.Refusals.{refusal}
use Rattle.refusal.specs.declared.Reason.TheVariants.{NoSuch}
use Rattle.refusal.specs.declared.Refusal.{Refusal}
use Rattle.wire.specs.declared.view.Part.{Part}
use Rattle.field.specs.Fields.{Field, step}
use Rattle.field.specs.Standing.{least}
use Rattle.field.proofs.Rules.{step_in}
use Rattle.list.specs.Items.{items, item_from, past_item, place, or_no_such, NoneMore}
use Rattle.list.specs.Stepping.{MovesOn}
use Rattle.list.proofs.Stepping.{onward, or_tells}
use Rattle.list.proofs.Walk.{Moves, rest, rest_all, fuel, got, none, first, go_on}

abbrev pub left : Field → List ℕ → ℕ → List Part
left f s at = rest (step f s) (λ (p : Part). p.next) (length s) at

pub by_steps : (f : Field) → 1 ≤ least f → (s : List ℕ) → Moves (step f s) (λ (p : Part). p.next) (length s)
by_steps f one s = record { on = λ at p e. let i = step_in f s at e in (omega arith, i.1) }

-- what an item's answer says of the step
pub item_got : (f : Field) (s : List ℕ) (at : ℕ) {p : Part} → item_from f s at ≡ accepted p → step f s at ≡ accepted p
unfolding item_from
item_got f s at e = got (step f s at) e

pub item_none : (f : Field) (s : List ℕ) (at : ℕ) {r : Refusal} → item_from f s at ≡ refused r → (x : Refusal)
    × (step f s at ≡ refused x) × (r ≡ refusal NoSuch 0 0)
unfolding item_from
item_none f s at e = none (step f s at) e

-- a step over the items answers where the item ends
pub item_says : (f : Field) (s : List ℕ) (at : ℕ)
    → past_item f s at ≡ giving (λ (p : Part). p.next) (or_no_such (step f s at))
unfolding item_from
item_says f s at = refl

-- each item ends behind where it begins
pub item_onward : (f : Field) → 1 ≤ least f → (s : List ℕ) → MovesOn (past_item f s)
item_onward f one s at next b e = onward (by_steps f one s) (or_tells (item_says f s)) e

-- all items are what is left at the front
pub all_left : (f : Field) (s : List ℕ) → items f s ≡ left f s 0
all_left f s = rest_all (step f s) (λ (p : Part). p.next) (length s)

-- any bound that is not below the bytes will do
pub none_more : NoneMore
none_more f one s n h = fuel (by_steps f one s) n (length s) 0 (omega arith) (omega arith)

-- a walk begins with the first item, and goes on from the place handed out
module _ (f : Field) (one : 1 ≤ least f) (s : List ℕ) where
  -- the first is the item at the front
  pub begins : place 0 (items f s) ≡ item_from f s 0
  unfolding item_from
  begins = rw (all_left f s) (first (by_steps f one s) 0)

  pub goes_on : (n : ℕ) (p : Part) → place n (items f s) ≡ accepted p
      → place (suc n) (items f s) ≡ item_from f s p.next
  unfolding item_from
  goes_on n p e = rw (all_left f s) (go_on (by_steps f one s) n 0 (rw (all_left f s) at e))
