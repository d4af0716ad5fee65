-- What walks by steps tell of whatever is found at one place after the other. Assumes nothing.
use Prim.Native.Nat.{ℕ, zero, suc, ◌+◌, ◌-◌, ◌^◌, ◌<◌, ◌≤◌}
use mathlib.Core.Path.{◌≡◌, refl, sym, ap, ◌∙◌}
use mathlib.Core.List.{List, [], ◌∷◌}
use native.Mathlib.Omega.{arith}
use lib.ListN.{length}
use Rattle.refusal.specs.Answers.{Answer, accepted, refused, giving}
use Rattle.refusal.specs.Refusals.{refusal}
use Rattle.refusal.specs.declared.Reason.TheVariants.{NoSuch}
use Rattle.refusal.specs.declared.Refusal.{Refusal}
use Rattle.refusal.proofs.Then.{not_both}
use Rattle.list.specs.Items.{items_from, place, or_no_such}
use Rattle.list.specs.Stopping.{end_of}
use Rattle.list.specs.Stepping.{places_from, stop_from, led_by}
use Rattle.list.proofs.Walk.{Moves, rest, rest_all, rest_on, fuel, first, past_last, got, none}

-- the places that so many steps at most lead to from a byte on, and where the last of them lies
abbrev pub places : (ℕ → Answer ℕ) → ℕ → ℕ → List ℕ
places step n from = items_from n step (λ next. next) from

abbrev pub stop : (ℕ → Answer ℕ) → ℕ → ℕ → ℕ
stop step n from = end_of (λ next. next) (places step n from) from

module _ {A : Type 0} (find : ℕ → Answer A) (past : A → ℕ) (n at : ℕ) where
  from_on : {x : A} → find at ≡ accepted x → items_from (suc n) find past at ≡ x ∷ items_from n find past (past x)
  unfolding items_from
  from_on e = rw e

  from_end : {r : Refusal} → find at ≡ refused r → items_from (suc n) find past at ≡ []
  unfolding items_from
  from_end e = rw e

module _ (step : ℕ → Answer ℕ) where
  -- where a walk stands after so many steps: with those that are left they are all of them
  pub record Stands (from count end : ℕ) : Type 0 where
    pub counts : length (places_from step from) ≡ count + length (places step (2 ^ 64 - count) end)
    pub stops : stop_from step from ≡ stop step (2 ^ 64 - count) end

  pub stands_first : (from : ℕ) → Stands from 0 from
  stands_first from = record { counts = omega arith; stops = refl }

  pub stands_on : (from count end : ℕ) {next : ℕ} → Stands from count end → count < 2 ^ 64 → step end ≡ accepted next
      → Stands from (count + 1) next
  unfolding end_of
  stands_on from count end {next} i l e =
      let k : 2 ^ 64 - count ≡ suc (2 ^ 64 - (count + 1)) = omega arith in
      let o = from_on step (λ m. m) (2 ^ 64 - (count + 1)) end e in
      record {
        counts = i.counts ∙ rw (k, o) (omega arith);
        stops = i.stops ∙ rw (k, o);
      }

  pub stands_last : (from count end : ℕ) {r : Refusal} → Stands from count end → count < 2 ^ 64 → step end ≡ refused r
      → (count ≡ length (places_from step from)) × (end ≡ stop_from step from)
  unfolding end_of
  stands_last from count end i l e =
      let k : 2 ^ 64 - count ≡ suc (2 ^ 64 - (count + 1)) = omega arith in
      let o = from_end step (λ m. m) (2 ^ 64 - (count + 1)) end e in
      (sym (i.counts ∙ rw (k, o) (omega arith)), sym (i.stops ∙ rw (k, o)))

  -- one step of so many
  pub led_on : (n at : ℕ) {next : ℕ} → step at ≡ accepted next → led_by (suc n) step at ≡ led_by n step next
  unfolding led_by
  led_on n at e = rw e

  pub led_not : (n at : ℕ) {r : Refusal} → step at ≡ refused r → led_by (suc n) step at ≡ refused r
  unfolding led_by
  led_not n at e = rw e

  pub led_none : (at : ℕ) → led_by 0 step at ≡ accepted at
  unfolding led_by
  led_none at = refl

-- what a step answers, where that is found: the place past it, or some refusal
pub record Tells {A : Type 0} (step : ℕ → Answer ℕ) (find : ℕ → Answer A) (past : A → ℕ) : Type 0 where
  pub on : (at next : ℕ) → step at ≡ accepted next → (x : A) × (find at ≡ accepted x) × (next ≡ past x)
  pub off : (at : ℕ) (r : Refusal) → step at ≡ refused r → (y : Refusal) × (find at ≡ refused y)

pub accepted_one : {A : Type 0} (past : A → ℕ) (a : Answer A) {next : ℕ} → giving past a ≡ accepted next
    → (x : A) × (a ≡ accepted x) × (next ≡ past x)
accepted_one past (accepted x) {next} e = (x, refl, cc)
accepted_one past (refused r) e = absurd (not_both e refl)

pub refused_one : {A : Type 0} (past : A → ℕ) (a : Answer A) {r : Refusal} → giving past a ≡ refused r → a ≡ refused r
refused_one past (accepted x) e = absurd (not_both refl e)
refused_one past (refused y) {r} e = let d : ◌≡◌ {A = Answer ℕ} (refused y) (refused r) = e in cc

-- a step tells of what is found where it answers the place past it
pub tells : {A : Type 0} {step : ℕ → Answer ℕ} {find : ℕ → Answer A} {past : A → ℕ}
    → ((at : ℕ) → step at ≡ giving past (find at)) → Tells step find past
tells {find = find} {past = past} h = record {
  on = λ at next e. accepted_one past (find at) (sym (h at) ∙ e);
  off = λ at r e. (r, refused_one past (find at) (sym (h at) ∙ e));
}

-- so it does where it answers NoSuch for each refusal
pub or_tells : {A : Type 0} {step : ℕ → Answer ℕ} {find : ℕ → Answer A} {past : A → ℕ}
    → ((at : ℕ) → step at ≡ giving past (or_no_such (find at))) → Tells step find past
or_tells {find = find} {past = past} h = record {
  on = λ at next e.
      let (x, y, p) = accepted_one past (or_no_such (find at)) (sym (h at) ∙ e) in (x, got (find at) y, p);
  off = λ at r e. let y = none (find at) (refused_one past (or_no_such (find at)) (sym (h at) ∙ e)) in (y.0, y.1);
}

module _ {A : Type 0} {step : ℕ → Answer ℕ} {find : ℕ → Answer A} {past : A → ℕ} (t : Tells step find past) where
  -- as many places as are found
  all_told : (n from : ℕ) → (length (places step n from) ≡ length (items_from n find past from))
      × (stop step n from ≡ end_of past (items_from n find past from) from)
  unfolding items_from end_of
  all_told zero from = (refl, refl)
  all_told (suc n) from = go (λ at. all_told n at) (step from) refl
    where
      go : ((at : ℕ) → (length (places step n at) ≡ length (items_from n find past at))
          × (stop step n at ≡ end_of past (items_from n find past at) at)) → (a : Answer ℕ) → step from ≡ a
          → (length (places step (suc n) from) ≡ length (items_from (suc n) find past from))
          × (stop step (suc n) from ≡ end_of past (items_from (suc n) find past from) from)
      go ih (accepted next) e =
          let (x, y, p) = t.on from next e in
          let q : step from ≡ accepted (past x) = rw p at e in
          let i = ih (past x) in
          rw (from_on step (λ m. m) n from q, from_on find past n from y) (ap suc i.0, i.1)
      go ih (refused r) e =
          let (y, z) = t.off from r e in rw (from_end step (λ m. m) n from e, from_end find past n from z) (refl, refl)

module _ {A : Type 0} {find : ℕ → Answer A} {past : A → ℕ} {n : ℕ} (moves : Moves find past n) where
  pub all_from : (from : ℕ) → items_from n find past from ≡ rest find past n from
  all_from from = fuel moves n (n - from) from (omega arith) (omega arith)

module _ {A : Type 0} {step : ℕ → Answer ℕ} {find : ℕ → Answer A} {past : A → ℕ} {n : ℕ} (moves : Moves find past n) (t : Tells step find past) where
  -- each step moves on
  pub onward : {at next : ℕ} → step at ≡ accepted next → at < next
  onward {at} {next} e =
      let (x, y, p) = t.on at next e in
      omega (arith, (moves.on at x y).0, p)

  -- a walk counts all that is found, and stops where the last ends
  pub counted : (from : ℕ) → n ≤ 2 ^ 64 → (length (places_from step from) ≡ length (items_from n find past from))
      × (stop_from step from ≡ end_of past (items_from n find past from) from)
  counted from h = rw (fuel moves n (2 ^ 64) from (omega arith) (omega arith)) (all_told t (2 ^ 64) from)

  -- as many steps as the place asked for lead to what stands there
  led_to : (k from : ℕ) {to : ℕ} → led_by k step from ≡ accepted to
      → place k (rest find past n from) ≡ or_no_such (find to)
  unfolding led_by place
  led_to zero from {to} e = let d : from ≡ to = cc in rw (← d) (first moves from)
  led_to (suc k) from {to} e = go (λ at. led_to k at) (step from) refl
    where
      go : ((at : ℕ) → led_by k step at ≡ accepted to → place k (rest find past n at) ≡ or_no_such (find to))
          → (a : Answer ℕ) → step from ≡ a → place (suc k) (rest find past n from) ≡ or_no_such (find to)
      go ih (accepted next) q =
          let (x, y, p) = t.on from next q in
          rw (rest_on moves from y, ← p) (ih next (rw q at e))
      go ih (refused r) q = absurd (not_both e (led_not step k from q))

  pub skipped : (k : ℕ) {to : ℕ} → led_by k step 0 ≡ accepted to
      → place k (items_from n find past 0) ≡ or_no_such (find to)
  skipped k e = rw (rest_all find past n) (led_to k 0 e)

  -- and where one is refused there is none
  led_off : (k from : ℕ) {r : Refusal} → led_by k step from ≡ refused r
      → place k (rest find past n from) ≡ refused (refusal NoSuch 0 0)
  unfolding led_by place
  led_off zero from e = absurd (not_both (led_none step from) e)
  led_off (suc k) from {r} e = go (λ at. led_off k at) (step from) refl
    where
      go : ((at : ℕ) → led_by k step at ≡ refused r → place k (rest find past n at) ≡ refused (refusal NoSuch 0 0))
          → (a : Answer ℕ) → step from ≡ a → place (suc k) (rest find past n from) ≡ refused (refusal NoSuch 0 0)
      go ih (accepted next) q =
          let (x, y, p) = t.on from next q in
          rw (rest_on moves from y, ← p) (ih next (rw q at e))
      go ih (refused d) q = let (y, z) = t.off from d q in past_last moves from (suc k) z

  pub missed : (k : ℕ) {r : Refusal} → led_by k step 0 ≡ refused r
      → place k (items_from n find past 0) ≡ refused (refusal NoSuch 0 0)
  missed k e = rw (rest_all find past n) (led_off k 0 e)

-- NoSuch, where the step answers it for each refusal
module _ {A : Type 0} (step : ℕ → Answer ℕ) (find : ℕ → Answer A) (past : A → ℕ) where
  led_no_such : ((at : ℕ) → step at ≡ giving past (or_no_such (find at))) → (k from : ℕ) {r : Refusal}
      → led_by k step from ≡ refused r → r ≡ refusal NoSuch 0 0
  unfolding led_by
  led_no_such h zero from e = absurd (not_both refl e)
  led_no_such h (suc k) from {r} e = go (λ at. led_no_such h k at) (step from) refl
    where
      go : ((at : ℕ) → led_by k step at ≡ refused r → r ≡ refusal NoSuch 0 0) → (a : Answer ℕ) → step from ≡ a
          → r ≡ refusal NoSuch 0 0
      go ih (accepted next) q = ih next (rw q at e)
      go ih (refused y) q =
          let d : ◌≡◌ {A = Answer ℕ} (refused y) (refused r) = rw q at e in
          let z : y ≡ r = cc in
          sym z ∙ (none (find from) (refused_one past (or_no_such (find from)) (sym (h from) ∙ q))).2

pub or_missed : {A : Type 0} {step : ℕ → Answer ℕ} {find : ℕ → Answer A} {past : A → ℕ}
    → ((at : ℕ) → step at ≡ giving past (or_no_such (find at))) → {n : ℕ} → Moves find past n → (k : ℕ) {r : Refusal}
    → led_by k step 0 ≡ refused r → refused r ≡ place k (items_from n find past 0)
or_missed {step = step} {find = find} {past = past} h moves k e =
    ap refused (led_no_such step find past h k 0 e) ∙ sym (missed moves (or_tells h) k e)
