-- A field that has to end with the bytes: what `close_at` finds, over every field; and by numbers
-- where it is a vector. Assumes nothing.
use Prim.Native.Nat.{ℕ, ◌+◌, ◌-◌, ◌<◌, ◌≤◌}
use mathlib.Core.Path.{◌≡◌, refl, sym, ap, ◌∙◌}
use mathlib.Core.Logic.{◌⊎◌, inl, inr}
use mathlib.Core.Bool.{Bool, true, false}
use mathlib.Core.Option.{Option, none, some}
use mathlib.Core.List.{List, [], append-nil}
use native.Mathlib.Omega.{arith}
use borrow.Author.Tests.{eqb-true, eqb-false, eq-eqb, ne_eqb, leb-true, leb-false}
use lib.Dec.{eqb, leb}
use lib.ListN.{length, drop, length-drop}
use lib.Seq.{drop-length}
use Rattle.refusal.specs.Answers.{Answer, accepted, refused}
use Rattle.refusal.specs.Refusals.{refusal}
use Rattle.refusal.specs.declared.Reason.TheVariants.{Incomplete}
use Rattle.refusal.specs.declared.Refusal.{Refusal}
use Rattle.refusal.proofs.Then.{not_both, either}
use Rattle.wire.specs.Numbers.{Bytes, be}
use Rattle.wire.specs.Parts.{part_at, part_of}
use Rattle.wire.specs.declared.view.Part.{Part}
use Rattle.wire.proofs.Parts.{found, part_in, part_out}
use Rattle.wire.proofs.Numbers.{number_got, number_no}
use Rattle.field.specs.Fields.{Field, vector, Rule, ruled, step}
use Rattle.field.specs.Standing.{field_bytes, view_of}
use Rattle.field.specs.Texts.{allows}
use Rattle.field.specs.Closing.{Closes, NoneCloses, close_at, EveryClosing, EveryLength}
use Rattle.field.proofs.Rules.{allows_some, ruled_in, ruled_out}
use Rattle.field.proofs.Steps.{placed, step_of, view_of_lem, step_back}

-- by what the step finds: a part that ends with the bytes, one that ends before them, or none
module _ (f : Field) (amiss : Refusal) (s : List ℕ) (at : ℕ) where
  pub at_end : {q : Part} → step f s at ≡ accepted q → q.next ≡ length s → close_at f amiss s at ≡ accepted q
  unfolding close_at
  at_end {q} e n = rw (e, eq-eqb q.next (length s) n)

  pub off_end : {q : Part} → step f s at ≡ accepted q → (q.next ≡ length s → ⊥) → close_at f amiss s at ≡ refused amiss
  unfolding close_at
  off_end {q} e n = rw (e, ne_eqb q.next (length s) n)

  pub not_there : {r : Refusal} → step f s at ≡ refused r → close_at f amiss s at ≡ refused amiss
  unfolding close_at
  not_there e = rw e

-- the step finds the part that closes the bytes, and only that ends with them
module _ (f : Field) (s : List ℕ) (at : ℕ) where
  there : (p : List ℕ) → at ≤ length s → Closes f (drop at s) p
      → (step f s at ≡ accepted (placed f at p)) × (at + length (field_bytes f p) ≡ length s)
  there p h (o, e) = (
    step_of f s at p [] h o (e ∙ sym (append-nil (field_bytes f p))),
    omega (arith, length-drop at s, ap length e),
  )

  closes : {q : Part} → Bytes s → step f s at ≡ accepted q → q.next ≡ length s
      → Closes f (drop at s) (part_of s q.view)
  closes {q} b e n =
      let w = step_back f s at b e in
      (w.obeys, w.bytes ∙ rw (n, drop-length s) (append-nil (field_bytes f (part_of s q.view))))

module _ (f : Field) (amiss : Refusal) (s : List ℕ) (at : ℕ) (b : Bytes s) (h : at ≤ length s) where
  finds : (p : List ℕ) → Closes f (drop at s) p
      → close_at f amiss s at ≡ accepted (record { view = view_of f at p; next = length s })
  finds p y =
      let t = there f s at p h y in
      at_end f amiss s at t.0 t.1 ∙ rw t.1

  none_closes : close_at f amiss s at ≡ refused amiss → NoneCloses f (drop at s)
  none_closes e p y = not_both (finds p y) e

  -- the answer is a part that closes them, or the refusal
  abbrev Decided : Type 0
  Decided =
      ((q : Part) × (close_at f amiss s at ≡ accepted q) × Closes f (drop at s) (part_of s q.view)
      × (q.next ≡ length s))
      ⊎ (close_at f amiss s at ≡ refused amiss)

  decided : Decided
  decided = go (either (step f s at))
    where
      on : (q : Part) → step f s at ≡ accepted q → (t : Bool) → eqb q.next (length s) ≡ t → Decided
      on q e true t =
          let n = eqb-true q.next (length s) t in
          inl (q, at_end f amiss s at e n, closes f s at b e n, n)
      on q e false t = inr (off_end f amiss s at e (eqb-false q.next (length s) t))

      go : ((q : Part) × (step f s at ≡ accepted q)) ⊎ ((r : Refusal) × (step f s at ≡ refused r)) → Decided
      go (inl (q, e)) = on q e (eqb q.next (length s)) refl
      go (inr (r, e)) = inr (not_there f amiss s at e)

  whichever : ((p : List ℕ) × Closes f (drop at s) p) ⊎ NoneCloses f (drop at s)
  whichever = go decided
    where
      go : Decided → ((p : List ℕ) × Closes f (drop at s) p) ⊎ NoneCloses f (drop at s)
      go (inl (q, e, y, n)) = inl (part_of s q.view, y)
      go (inr e) = inr (none_closes e)

  splits : (q : Part) → close_at f amiss s at ≡ accepted q
      → Closes f (drop at s) (part_of s q.view) × (q.next ≡ length s)
  splits q e = go decided
    where
      go : Decided → Closes f (drop at s) (part_of s q.view) × (q.next ≡ length s)
      go (inl (p, x, y, n)) =
          let d : accepted p ≡ accepted q = sym x ∙ e in
          let g : p ≡ q = cc in
          rw (← g) (y, n)
      go (inr x) = absurd (not_both e x)

  seen : (p : List ℕ) → Closes f (drop at s) p → part_of s (view_of f at p) ≡ p
  seen p (o, e) = view_of_lem f s at p [] h (e ∙ sym (append-nil (field_bytes f p)))

  only : (p q : List ℕ) → Closes f (drop at s) p → Closes f (drop at s) q → p ≡ q
  only p q x y =
      let d : accepted (placed f at p) ≡ accepted (placed f at q) =
      sym (there f s at p h x).0 ∙ (there f s at q h y).0 in
      let e : placed f at p ≡ placed f at q = cc in
      sym (seen p x) ∙ ap (λ (z : Part). part_of s z.view) e ∙ seen q y

  refuses : NoneCloses f (drop at s) → close_at f amiss s at ≡ refused amiss
  refuses not = go decided
    where
      go : Decided → close_at f amiss s at ≡ refused amiss
      go (inl (q, x, y, n)) = absurd (not (part_of s q.view) y)
      go (inr x) = x

  lacks : (r : Refusal) → close_at f amiss s at ≡ refused r → (r ≡ amiss) × NoneCloses f (drop at s)
  lacks r e = go decided
    where
      go : Decided → (r ≡ amiss) × NoneCloses f (drop at s)
      go (inl (q, x, y, n)) = absurd (not_both x e)
      go (inr x) =
          let d : ◌≡◌ {A = Answer Part} (refused r) (refused amiss) = sym e ∙ x in
          (cc, none_closes x)

pub every_closing : EveryClosing
every_closing f amiss s at b h = record {
  whichever = whichever f amiss s at b h;
  accepts = finds f amiss s at b h;
  splits = splits f amiss s at b h;
  only = only f amiss s at b h;
  refuses = refuses f amiss s at b h;
  lacks = lacks f amiss s at b h;
}

-- a vector, by numbers: the step goes by the length that stands there
module _ (w : ℕ) (k : Rule) (s : List ℕ) (at : ℕ) where
  no_length : length s < at + w → step (vector w k) s at ≡ refused (refusal Incomplete at (w - (length s - at)))
  unfolding step
  no_length h = rw (number_no w s at (part_out Incomplete s at w h))

  by_rule_lem : at + w ≤ length s → step (vector w k) s at ≡ ruled k s at (at + w) (be w s at)
  unfolding step
  by_rule_lem h = rw (number_got w s at (part_in Incomplete s at w h))

  pub as_said : at + w ≤ length s → k.broken (be w s at) ≡ none
      → step (vector w k) s at ≡ part_at k.past s (at + w) (be w s at)
  as_said h q = by_rule_lem h ∙ ruled_in k s at (at + w) (be w s at) q

  barred : at + w ≤ length s → (x : ℕ → ℕ → Refusal) → k.broken (be w s at) ≡ some x
      → step (vector w k) s at ≡ refused (x at (at + w))
  barred h x q = by_rule_lem h ∙ ruled_out k s at (at + w) (be w s at) x q

module _ (w : ℕ) (k : Rule) (amiss : Refusal) (s : List ℕ) (at : ℕ) where
  pub missing : length s < at + w → close_at (vector w k) amiss s at ≡ refused amiss
  missing h = not_there (vector w k) amiss s at (no_length w k s at h)

  not_allowed_lem : at + w ≤ length s → (x : ℕ → ℕ → Refusal) → k.broken (be w s at) ≡ some x
      → close_at (vector w k) amiss s at ≡ refused amiss
  not_allowed_lem h x q = not_there (vector w k) amiss s at (barred w k s at h x q)

  pub fails_rule : at + w ≤ length s → allows k (be w s at) ≡ false → close_at (vector w k) amiss s at ≡ refused amiss
  fails_rule h e = let x = allows_some k (be w s at) e in not_allowed_lem h x.0 x.1

  pub like : at + w ≤ length s → be w s at ≡ length s - (at + w) → k.broken (be w s at) ≡ none
      → close_at (vector w k) amiss s at ≡ accepted (record {
        view = record { start = at + w; len = length s - (at + w) };
        next = length s;
      })
  like h e q =
      let n : at + w + (length s - (at + w)) ≡ length s = omega arith in
      let t : step (vector w k) s at ≡ accepted (found (at + w) (length s - (at + w))) =
      as_said w k s at h q ∙ rw e (part_in k.past s (at + w) (length s - (at + w)) (omega (arith, n))) in
      at_end (vector w k) amiss s at t n ∙ rw n

  pub unlike : at + w ≤ length s → (be w s at ≡ length s - (at + w) → ⊥)
      → close_at (vector w k) amiss s at ≡ refused amiss
  unlike h not = by (k.broken (be w s at)) refl
    where
      go : k.broken (be w s at) ≡ none → (t : Bool) → leb (at + w + be w s at) (length s) ≡ t
          → close_at (vector w k) amiss s at ≡ refused amiss
      go q true t =
          off_end (vector w k) amiss s at
          (as_said w k s at h q ∙ part_in k.past s (at + w) (be w s at) (leb-true _ _ t))
          (λ n. not (omega (arith, n)))
      go q false t =
          not_there (vector w k) amiss s at
          (as_said w k s at h q ∙ part_out k.past s (at + w) (be w s at) (leb-false _ _ t))

      by : (o : Option (ℕ → ℕ → Refusal)) → k.broken (be w s at) ≡ o → close_at (vector w k) amiss s at ≡ refused amiss
      by none q = go q (leb (at + w + be w s at) (length s)) refl
      by (some x) q = not_allowed_lem h x q

pub every_length : EveryLength
every_length w k amiss s at = record {
  missing = missing w k amiss s at;
  unlike = unlike w k amiss s at;
  not_allowed = not_allowed_lem w k amiss s at;
  like = like w k amiss s at;
}
