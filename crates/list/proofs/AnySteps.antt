-- What walks by steps that may answer more than one thing tell of whatever is found at one place
-- after the other. Assumes nothing.
use Prim.Native.Nat.{ℕ, zero, suc, ◌+◌, ◌-◌, ◌^◌, ◌<◌}
use mathlib.Core.Path.{◌≡◌, refl, sym, ap, ◌∙◌}
use native.Mathlib.Omega.{arith}
use native.Mathlib.Nat.{zero-add}
use lib.ListN.{length}
use Rattle.std.specs.Prelude.{Result, Ok, Err}
use Rattle.refusal.specs.Answers.{Answer, accepted, refused, as_answer, giving}
use Rattle.refusal.specs.Refusals.{refusal}
use Rattle.refusal.specs.declared.Reason.TheVariants.{NoSuch}
use Rattle.refusal.specs.declared.Refusal.{Refusal}
use Rattle.refusal.proofs.Then.{not_both}
use Rattle.list.specs.Items.{items_from, place, or_no_such}
use Rattle.list.specs.Stopping.{end_of}
use Rattle.list.specs.AnySteps.{Leads, Halts, Skips}
use Rattle.list.proofs.Stepping.{accepted_one, refused_one, all_from}
use Rattle.list.proofs.Walk.{Moves, rest, rest_all, rest_on, rest_end, first, past_last, got, none}

-- one step more
pub leads_on : (step : ℕ → Result ℕ Refusal → Type 0) (k from to : ℕ) {next : ℕ} → Leads step k from to → to < 2 ^ 64
    → step to (Ok next) → Leads step (suc k) from next
unfolding Leads
leads_on step zero from to {next} e b s = rw e (next, b, s, refl)
leads_on step (suc k) from to (n, b, s, l) c t = (n, b, s, leads_on step k n to l c t)

-- what a step may answer, where that is found: the place past it, or some refusal
pub record Tells {A : Type 0} (step : ℕ → Result ℕ Refusal → Type 0) (find : ℕ → Answer A) (past : A → ℕ) : Type 0 where
  pub on : (at next : ℕ) → at < 2 ^ 64 → step at (Ok next) → (x : A) × (find at ≡ accepted x) × (next ≡ past x)
  pub off : (at : ℕ) (stop : Refusal) → at < 2 ^ 64 → step at (Err stop) → (r : Refusal) × (find at ≡ refused r)

-- a step tells of what is found where it answers the place past it
pub tells : {A : Type 0} {step : ℕ → Result ℕ Refusal → Type 0} {find : ℕ → Answer A} {past : A → ℕ}
    → ((at : ℕ) (r : Result ℕ Refusal) → at < 2 ^ 64 → step at r → as_answer r ≡ giving past (find at))
    → Tells step find past
tells {find = find} {past = past} h = record {
  on = λ at next b s. accepted_one past (find at) (sym (h at (Ok next) b s));
  off = λ at stop b s. (stop, refused_one past (find at) (sym (h at (Err stop) b s)));
}

-- so it does where it answers NoSuch for each refusal
pub or_tells : {A : Type 0} {step : ℕ → Result ℕ Refusal → Type 0} {find : ℕ → Answer A} {past : A → ℕ}
    → ((at : ℕ) (r : Result ℕ Refusal) → at < 2 ^ 64 → step at r → as_answer r ≡ giving past (or_no_such (find at)))
    → Tells step find past
or_tells {find = find} {past = past} h = record {
  on = λ at next b s.
      let (x, e, p) = accepted_one past (or_no_such (find at)) (sym (h at (Ok next) b s)) in (x, got (find at) e, p);
  off = λ at stop b s.
      let y = none (find at) (refused_one past (or_no_such (find at)) (sym (h at (Err stop) b s))) in (y.0, y.1);
}

module _ {A : Type 0} {find : ℕ → Answer A} {past : A → ℕ} {n : ℕ} (moves : Moves find past n) where
  -- each step moves on
  pub onward : {at next : ℕ} → accepted next ≡ giving past (find at) → at < next
  onward {at} {next} e =
      let (x, y, p) = accepted_one past (find at) (sym e) in
      omega (arith, (moves.on at x y).0, p)

  pub or_onward : {at next : ℕ} → accepted next ≡ giving past (or_no_such (find at)) → at < next
  or_onward {at} {next} e =
      let (x, y, p) = accepted_one past (or_no_such (find at)) (sym e) in
      omega (arith, (moves.on at x (got (find at) y)).0, p)

module _ {A : Type 0} {step : ℕ → Result ℕ Refusal → Type 0} {find : ℕ → Answer A} {past : A → ℕ} {n : ℕ} (moves : Moves find past n) (t : Tells step find past) where
  led : (k from to : ℕ) → Leads step k from to
      → (length (rest find past n from) ≡ k + length (rest find past n to))
      × (end_of past (rest find past n from) from ≡ end_of past (rest find past n to) to)
  unfolding Leads end_of
  led zero from to e = rw e (omega arith, refl)
  led (suc k) from to (next, b, s, l) =
      let (x, e, p) = t.on from next b s in
      let i = led k next to l in
      let o = rest_on moves from e in
      (rw (o, ← p) (omega (arith, i.0)), rw o (rw p at i.1))

  steps_off : (k j from to : ℕ) → Leads step k from to
      → place (k + j) (rest find past n from) ≡ place j (rest find past n to)
  unfolding Leads place
  steps_off zero j from to e = rw (e, zero-add)
  steps_off (suc k) j from to (next, b, s, l) =
      let (x, e, p) = t.on from next b s in
      let d : suc k + j ≡ suc (k + j) = omega arith in
      rw (d, rest_on moves from e, ← p) (steps_off k j next to l)

module _ {A : Type 0} {step : ℕ → Result ℕ Refusal → Type 0} {find : ℕ → Answer A} {past : A → ℕ} {n : ℕ} (moves : Moves find past n) where
  -- a walk counts all that is found, and stops where the last ends
  pub counted : {from count end : ℕ} {stop : Refusal} → Halts step from count end stop → Tells step find past
      → (count ≡ length (items_from n find past from)) × (end ≡ end_of past (items_from n find past from) from)
  unfolding end_of
  counted {from} {count} {end} {stop} h t =
      let i = led moves t count from end h.leads in
      let (r, e) = t.off end stop h.below h.halts in
      let z = rest_end moves end e in
      rw (all_from moves from) (sym (i.0 ∙ rw z (omega arith)), sym (i.1 ∙ rw z))

  -- as many steps as the place asked for lead to what stands there
  pub skipped : (k : ℕ) {to : ℕ} → Skips step k (Ok to) → Tells step find past
      → place k (items_from n find past 0) ≡ or_no_such (find to)
  skipped k {to} (b, l) t =
      let d : k + 0 ≡ k = omega arith in
      rw (rest_all find past n, ← d) (steps_off moves t k 0 0 to l ∙ first moves to)

  -- and where one is refused there is none
  pub missed : (k : ℕ) {stop : Refusal} → Skips step k (Err stop) → Tells step find past
      → place k (items_from n find past 0) ≡ refused (refusal NoSuch 0 0)
  missed k {stop} (j, end, l, h) t =
      let (r, e) = t.off end stop h.below h.halts in
      let d : j + (k - j) ≡ k = omega arith in
      rw (rest_all find past n, ← d) (steps_off moves t j (k - j) 0 end h.leads ∙ past_last moves end (k - j) e)

  -- NoSuch, where the step answers it for each refusal
  pub or_missed : (k : ℕ) {stop : Refusal} → Skips step k (Err stop)
      → ((at : ℕ) (r : Result ℕ Refusal) → at < 2 ^ 64 → step at r → as_answer r ≡ giving past (or_no_such (find at)))
      → refused stop ≡ place k (items_from n find past 0)
  or_missed k {stop} (j, end, l, h) t =
      let y = none (find end) (refused_one past (or_no_such (find end)) (sym (t end (Err stop) h.below h.halts))) in
      ap refused y.2 ∙ sym (missed k (j, end, l, h) (or_tells t))

-- where a step has one answer at each byte, so has a walk: what `count_any_to_stop` and `skip_any`
-- promise of it fixes the result
module _ {step : ℕ → Result ℕ Refusal → Type 0}
    (one : (at : ℕ) (a b : Result ℕ Refusal) → at < 2 ^ 64 → step at a → step at b → a ≡ b) where
  next_one : {at n m : ℕ} → at < 2 ^ 64 → step at (Ok n) → step at (Ok m) → n ≡ m
  next_one {at} {n} {m} b s t = let d : ◌≡◌ {A = Result ℕ Refusal} (Ok n) (Ok m) = one at (Ok n) (Ok m) b s t in cc

  not_two : {at n : ℕ} {stop : Refusal} → at < 2 ^ 64 → step at (Ok n) → step at (Err stop) → ⊥
  not_two {at} {n} {stop} b s t = not_both refl (ap as_answer (one at (Ok n) (Err stop) b s t))

  same_halt : (k j from end to : ℕ) {r t : Refusal} → Leads step k from end → Leads step j from to → end < 2 ^ 64
      → to < 2 ^ 64 → step end (Err r) → step to (Err t) → (k ≡ j) × (end ≡ to) × (r ≡ t)
  unfolding Leads
  same_halt zero zero from end to {r} {t} e f b c s u =
      let g : end ≡ to = sym e ∙ f in
      let d : ◌≡◌ {A = Result ℕ Refusal} (Err r) (Err t) = one to (Err r) (Err t) c (rw g at s) u in
      (refl, g, cc)
  same_halt zero (suc j) from end to e (n, b, s, l) c d u v = absurd (not_two b s (rw (sym e) at u))
  same_halt (suc k) zero from end to (n, b, s, l) f c d u v = absurd (not_two b s (rw (sym f) at v))
  same_halt (suc k) (suc j) from end to (n, b, s, l) (m, c, t, i) d f u v =
      let (x, y, z) = same_halt k j n end to l (rw (sym (next_one b s t)) at i) d f u v in
      (ap suc x, y, z)

  pub one_walk : {from count end count' end' : ℕ} {stop stop' : Refusal} → Halts step from count end stop
      → Halts step from count' end' stop' → (count ≡ count') × (end ≡ end') × (stop ≡ stop')
  one_walk {from} {count} {end} {count'} {end'} h i =
      same_halt count count' from end end' h.leads i.leads h.below i.below h.halts i.halts

  same_lead : (n from to end : ℕ) → Leads step n from to → Leads step n from end → to ≡ end
  unfolding Leads
  same_lead zero from to end e f = sym e ∙ f
  same_lead (suc n) from to end (m, b, s, l) (k, c, t, i) =
      same_lead n m to end l (rw (sym (next_one b s t)) at i)

  not_past : (k n from end to : ℕ) {stop : Refusal} → k < n → Leads step k from end → Leads step n from to
      → step end (Err stop) → ⊥
  unfolding Leads
  not_past zero (suc n) from end to h e (m, b, s, l) u = not_two b s (rw (sym e) at u)
  not_past (suc k) (suc n) from end to h (m, b, s, l) (j, c, t, i) u =
      not_past k n m end to (omega (arith, h)) l (rw (sym (next_one b s t)) at i) u
  not_past zero zero from end to h l i u = absurd (omega (arith, h))
  not_past (suc k) zero from end to h l i u = absurd (omega (arith, h))

  pub one_skip : (n : ℕ) (a b : Result ℕ Refusal) → Skips step n a → Skips step n b → a ≡ b
  one_skip n (Ok to) (Ok end) (b, l) (c, i) = ap Ok (same_lead n 0 to end l i)
  one_skip n (Ok to) (Err stop) (b, l) (k, end, h, i) = absurd (not_past k n 0 end to h i.leads l i.halts)
  one_skip n (Err stop) (Ok to) (k, end, h, i) (b, l) = absurd (not_past k n 0 end to h i.leads l i.halts)
  one_skip n (Err r) (Err t) (k, end, h, i) (j, to, g, l) = let (x, y, z) = one_walk i l in ap Err z
