-- What the answer for a field says: of the rule, and of how far it goes. Assumes nothing.
use Prim.Native.Nat.{ℕ, ◌+◌, ◌≤◌}
use mathlib.Core.Path.{◌≡◌, refl, ap, sym, ◌∙◌}
use mathlib.Core.Logic.{◌⊎◌, inl, inr}
use mathlib.Core.Bool.{Bool, true, false}
use mathlib.Core.Option.{Option, none, some}
use mathlib.Core.List.{List}
use native.Mathlib.Omega.{arith}
use lib.ListN.{length}
use Rattle.std.proofs.lemmas.Bool.{true≢false, false≢true}
use Rattle.refusal.specs.Answers.{Answer, accepted, refused}
use Rattle.refusal.specs.declared.Reason.TheVariants.{Incomplete}
use Rattle.refusal.specs.declared.Refusal.{Refusal}
use Rattle.refusal.proofs.Then.{not_both, then_accepted}
use Rattle.wire.specs.Numbers.{be, number_at}
use Rattle.wire.specs.Parts.{if_some, part_at}
use Rattle.wire.specs.declared.view.Part.{Part}
use Rattle.wire.specs.declared.number.Number.{Number}
use Rattle.wire.proofs.Parts.{found, fits, part_in, part_out}
use Rattle.wire.proofs.Numbers.{number_is, number_short}
use Rattle.field.specs.Fields.{Field, fixed, vector, Rule, unless, ruled, step}
use Rattle.field.specs.Standing.{least}
use Rattle.field.specs.Texts.{allows}

-- a length is allowed just where it gets no refusal
pub allows_none : (r : Rule) (n : ℕ) → allows r n ≡ true → r.broken n ≡ none
allows_none r n e = go (r.broken n) e
  where
    go : (o : Option (ℕ → ℕ → Refusal)) → if_some o (λ x. false) true ≡ true → o ≡ none
    go none e = refl
    go (some x) e = absurd (false≢true e)

-- and not allowed just where it gets one
pub allows_some : (r : Rule) (n : ℕ) → allows r n ≡ false → (x : ℕ → ℕ → Refusal) × (r.broken n ≡ some x)
allows_some r n e = go (r.broken n) e
  where
    go : (o : Option (ℕ → ℕ → Refusal)) → if_some o (λ x. false) true ≡ false → (x : ℕ → ℕ → Refusal) × (o ≡ some x)
    go none e = absurd (true≢false e)
    go (some x) e = (x, refl)

pub none_allows : (r : Rule) (n : ℕ) → r.broken n ≡ none → allows r n ≡ true
none_allows r n e = rw e

-- the test of a rule, by the refusal
pub unless_is : {A : Type 0} (t : Bool) (a : A) → if_some (unless t a) (λ x. false) true ≡ t
unless_is true a = refl
unless_is false a = refl

pub unless_none : {A : Type 0} (t : Bool) (a : A) → unless t a ≡ none → t ≡ true
unless_none true a e = refl
unless_none false a e = let d : some a ≡ none = e in absurd cc

-- a length that fails the test gets its refusal
pub unless_fails : (t : Bool) (x : ℕ → ℕ → Refusal) (at next : ℕ) (p : Answer Part) {y : Refusal} → y ≡ x at next
    → if_some (unless t x) (λ x. false) true ≡ false → if_some (unless t x) (λ x. refused (x at next)) p ≡ refused y
unless_fails true x at next p q e = absurd (true≢false e)
unless_fails false x at next p q e = ap refused (sym q)

pub ruled_in : (r : Rule) (s : List ℕ) (at next n : ℕ) → r.broken n ≡ none
    → ruled r s at next n ≡ part_at r.past s next n
unfolding ruled
ruled_in r s at next n e = rw e

pub ruled_out : (r : Rule) (s : List ℕ) (at next n : ℕ) (x : ℕ → ℕ → Refusal) → r.broken n ≡ some x
    → ruled r s at next n ≡ refused (x at next)
unfolding ruled
ruled_out r s at next n x e = rw e

pub ruled_accepted : (r : Rule) (s : List ℕ) (at next n : ℕ) {q : Part} → ruled r s at next n ≡ accepted q
    → (r.broken n ≡ none) × (part_at r.past s next n ≡ accepted q)
ruled_accepted r s at next n {q} e = go (r.broken n) refl
  where
    go : (o : Option (ℕ → ℕ → Refusal)) → r.broken n ≡ o → (r.broken n ≡ none)
        × (part_at r.past s next n ≡ accepted q)
    go none a = (a, sym (ruled_in r s at next n a) ∙ e)
    go (some x) a = absurd (not_both e (ruled_out r s at next n x a))

pub ruled_refused : (r : Rule) (s : List ℕ) (at next n : ℕ) {y : Refusal} → ruled r s at next n ≡ refused y
    → ((x : ℕ → ℕ → Refusal) × (r.broken n ≡ some x) × (y ≡ x at next)) ⊎
    ((r.broken n ≡ none) × (part_at r.past s next n ≡ refused y))
ruled_refused r s at next n {y} e = go (r.broken n) refl
  where
    go : (o : Option (ℕ → ℕ → Refusal)) → r.broken n ≡ o
        → ((x : ℕ → ℕ → Refusal) × (r.broken n ≡ some x) × (y ≡ x at next)) ⊎
        ((r.broken n ≡ none) × (part_at r.past s next n ≡ refused y))
    go none a = inr (a, sym (ruled_in r s at next n a) ∙ e)
    go (some x) a =
        inl (
          x,
          a,
          let d : ◌≡◌ {A = Answer Part} (refused (x at next)) (refused y) = sym (ruled_out r s at next n x a)
              ∙ e in cc,
        )

-- where the part of a vector lies, and that its length is allowed
pub record Lies (w : ℕ) (r : Rule) (s : List ℕ) (at : ℕ) (p : Part) : Type 0 where
  pub start : p.view.start ≡ at + w
  pub next : p.next ≡ at + w + p.view.len
  pub inside : p.next ≤ length s
  pub allowed : r.broken p.view.len ≡ none

pub vector_lies : (w : ℕ) (r : Rule) (s : List ℕ) (at : ℕ) {p : Part} → step (vector w r) s at ≡ accepted p
    → Lies w r s at p
unfolding step
vector_lies w r s at e =
    let t = then_accepted (number_at w s at) (λ l. ruled r s at l.next l.value) e in
    let n = number_is w s at t.1 in
    let u = ruled_accepted r s at (at + w) (be w s at) (rw n.is at t.2) in
    let g = fits r.past s (at + w) (be w s at) u.1 in
    rw g.is (record { start = refl; next = refl; inside = g.inside; allowed = u.0 })

-- a field that was found takes them, and lies within the bytes
pub step_in : (f : Field) (s : List ℕ) (at : ℕ) {p : Part} → step f s at ≡ accepted p → (at + least f ≤ p.next)
    × (p.next ≤ length s)
unfolding step
step_in (fixed n) s at e =
    let g = fits _ s at n e in
    rw g.is (omega arith, g.inside)
step_in (vector w r) s at e = let l = vector_lies w r s at e in (omega (arith, l.next), l.inside)

pub fixed_in : (n : ℕ) (s : List ℕ) (at : ℕ) → at + n ≤ length s → step (fixed n) s at ≡ accepted (found at n)
unfolding step
fixed_in n s at h = part_in Incomplete s at n h

-- a number is a fixed part of its width
pub number_field : (w : ℕ) (s : List ℕ) (at : ℕ) {l : Number} → number_at w s at ≡ accepted l
    → step (fixed w) s at ≡ accepted (record { view = record { start = at; len = w }; next = l.next })
unfolding step
number_field w s at e =
    let n = number_is w s at e in
    part_in Incomplete s at w n.inside ∙ rw n.is

pub number_field_no : (w : ℕ) (s : List ℕ) (at : ℕ) {r : Refusal} → number_at w s at ≡ refused r
    → step (fixed w) s at ≡ refused r
unfolding step
number_field_no w s at e =
    let n = number_short w s at e in
    part_out Incomplete s at w n.outside ∙ ap refused (sym n.is)
