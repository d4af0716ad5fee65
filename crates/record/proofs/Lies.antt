-- Where a record lies that was read at the front. Assumes nothing.
use Prim.Native.Nat.{ℕ, ◌+◌, ◌≤◌}
use mathlib.Core.Path.{◌≡◌, sym, ap, ◌∙◌}
use mathlib.Core.List.{List, [], ◌∷◌}
use native.Mathlib.Omega.{arith}
use lib.ListN.{length}
use Rattle.refusal.specs.Answers.{Answer, accepted, then}
use Rattle.refusal.proofs.Then.{then_accepted}
use Rattle.wire.specs.declared.view.View.{View}
use Rattle.wire.specs.declared.view.Part.{Part}
use Rattle.field.specs.Fields.{Field, fixed, step, rule_of}
use Rattle.field.specs.declared.RuleName.TheVariants.{Fragment}
use Rattle.field.proofs.Rules.{step_in, vector_lies}
use Rattle.grammar.specs.Grammars.{How, as_view, as_number, Row, Views}
use Rattle.grammar.specs.Reading.{fields_at, last_at, with_last}
use Rattle.grammar.specs.Forms.{value_of, reading}
use Rattle.grammar.proofs.Chain.{begin_on}
use Rattle.record.specs.Records.{raw, fragment}
use Rattle.record.specs.declared.TlsRawRecord.{TlsRawRecord}

-- a record that was read at the front
pub record Lies (s : List ℕ) (r : TlsRawRecord) : Type 0 where
  pub past : 5 ≤ r.next
  pub holds : r.«data».start + r.«data».len ≡ r.next
  pub inside : r.next ≤ length s

-- a row's view, and those of the rows after it
abbrev added : (w : Row) (rs : List Row) → Part → Views rs × ℕ → Answer (Views (w ∷ rs) × ℕ)
added w rs p q = accepted ((p.view, q.0), q.1)

-- the first of some rows, and the others
first_field : (f : Field) (m : How) (rs : List Row) (s : List ℕ) (at : ℕ) {q : Views ((f, m) ∷ rs) × ℕ}
    → fields_at ((f, m) ∷ rs) s at ≡ accepted q
    → (p : Part) × (step f s at ≡ accepted p) × (p.view ≡ q.0.0)
    × (fields_at rs s p.next ≡ accepted (q.0.1, q.1))
unfolding fields_at
first_field f m rs s at {q} e =
    let t = then_accepted (step f s at) (λ p. then (fields_at rs s p.next) (added (f, m) rs p)) e in
    let u = then_accepted (fields_at rs s t.0.next) (added (f, m) rs t.0) t.2 in
    let d : ◌≡◌ {A = Views ((f, m) ∷ rs) × ℕ} ((t.0.view, u.0.0), u.0.1) q = cc u.2 in (
      t.0,
      t.1,
      ap (λ (x : Views ((f, m) ∷ rs) × ℕ). x.0.0) d,
      u.1
          ∙ ap (λ (x : Views ((f, m) ∷ rs) × ℕ). accepted (x.0.1, x.1)) d,
    )

last_field : (s : List ℕ) (at : ℕ) {q : Views [] × ℕ} → fields_at [] s at ≡ accepted q → at ≡ q.1
unfolding fields_at
last_field s at {q} e = let d : ◌≡◌ {A = Unit × ℕ} (tt, at) q = cc in ap (λ (x : Unit × ℕ). x.1) d

pub same_value : {A : Type 0} {x y : A} → accepted x ≡ accepted y → x ≡ y
same_value e = cc

pub raw_lies : (s : List ℕ) {r : TlsRawRecord} → reading raw s ≡ accepted r → Lies s r
raw_lies s {r} e =
    let t = then_accepted (fields_at raw.grammar.rows s 0)
    (λ q. accepted (value_of raw s (with_last raw.grammar q.0 (last_at raw.grammar.block s q.1))))
    (sym (begin_on raw s) ∙ e) in
    let a = first_field (fixed 1) (as_number 1) ((fixed 2, as_number 2) ∷ (fragment, as_view) ∷ []) s 0 t.1 in
    let b = first_field (fixed 2) (as_number 2) ((fragment, as_view) ∷ []) s a.0.next a.3 in
    let d = first_field fragment as_view [] s b.0.next b.3 in
    let l = vector_lies 2 (rule_of Fragment) s b.0.next d.1 in
    let h = step_in (fixed 1) s 0 a.1 in
    let i = step_in (fixed 2) s a.0.next b.1 in
    let m = last_field s d.0.next d.3 in
    let z : value_of raw s (with_last raw.grammar t.0.0 (last_at raw.grammar.block s t.0.1)) ≡ r =
    same_value t.2 in
    rw (← z) (record {
      past = omega (arith, m, l.next);
      holds = omega (
        arith,
        m,
        l.next,
        l.start,
        ap (λ (v : View). v.start) d.2,
        ap (λ (v : View). v.len) d.2,
      );
      inside = omega (arith, m, l.inside);
    })
