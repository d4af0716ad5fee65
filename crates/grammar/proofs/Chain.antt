-- A reading, field by field: what it comes down to once the fields so far were found. A reader's
-- proof adds one `and` for each field, and answers each early return by one `stop`; `and_all_on`
-- and `stop_all` do so for fields in a row. Assumes nothing.
use Prim.Native.Nat.{ℕ}
use mathlib.Core.Path.{◌≡◌, refl, sym, ◌∙◌}
use mathlib.Core.List.{List, [], ◌∷◌, ◌++◌}
use Rattle.refusal.specs.Answers.{Answer, accepted, refused, then, giving}
use Rattle.refusal.specs.Refusals.{refusal}
use Rattle.refusal.specs.declared.Reason.TheVariants.{LengthValue}
use Rattle.refusal.specs.declared.Refusal.{Refusal}
use Rattle.wire.specs.declared.view.View.{View}
use Rattle.wire.specs.declared.view.Part.{Part}
use Rattle.field.specs.Fields.{step}
use Rattle.field.specs.Closing.{close_at}
use Rattle.grammar.specs.Grammars.{Row, Views}
use Rattle.grammar.specs.Reading.{fields_at, last_at, with_last, read}
use Rattle.grammar.specs.Forms.{Form, outs, value_of, reading}
use Rattle.grammar.specs.Closed.{ClosedForm, closed}

-- the whole comes down to the fields that are left, from the place reached on
pub record So {X : Type 0} (whole : Answer X) (s : List ℕ) (rs : List Row) : Type 0 where
  pub n : ℕ
  pub k : Views rs × ℕ → Answer X
  pub on : whole ≡ then (fields_at rs s n) k

then_then : {A B C : Type 0} (x : Answer A) (f : A → B) (k : B → Answer C)
    → then (then x (λ a. accepted (f a))) k ≡ then x (λ a. k (f a))
then_then (accepted a) f k = refl
then_then (refused r) f k = refl

then_same : {A : Type 0} (x : Answer A) → then x (λ a. accepted a) ≡ x
then_same (accepted a) = refl
then_same (refused r) = refl

then_both : {A B C D : Type 0} (x : Answer A) (y : A → Answer B) (f : A → B → C) (g : C → D)
    → then (then x (λ a. then (y a) (λ b. accepted (f a b)))) (λ c. accepted (g c)) ≡ then x
    (λ a. then (y a) (λ b. accepted (g (f a b))))
then_both (accepted a) y f g = then_then (y a) (f a) (λ c. accepted (g c))
then_both (refused r) y f g = refl

pub begin_on : {C : Type 0} (k : Form C) (s : List ℕ)
    → reading k s ≡ then (fields_at k.grammar.rows s 0)
    (λ q. accepted (value_of k s (with_last k.grammar q.0 (last_at k.grammar.block s q.1))))
unfolding reading read
begin_on k s =
    then_then (fields_at k.grammar.rows s 0)
    (λ q. with_last k.grammar q.0 (last_at k.grammar.block s q.1)) (λ h. accepted (value_of k s h))

-- a form's reading before its first field
abbrev pub begin : {C : Type 0} (k : Form C) (s : List ℕ) → So (reading k s) s k.grammar.rows
begin k s =
    record {
      n = 0;
      k = λ q. accepted (value_of k s
          (with_last k.grammar q.0 (last_at k.grammar.block s q.1)));
      on = begin_on k s;
    }

pub begin_closed_on : {C : Type 0} (k : ClosedForm C) (s : List ℕ)
    → closed k s ≡ then (fields_at k.rows s 0)
    (λ q. giving (λ p. k.value (outs k.rows s q.0) p.view p.next)
    (close_at k.last (refusal LengthValue q.1 0) s q.1))
unfolding closed
begin_closed_on k s = refl

-- the same of a closed form; its last field is what is left in the end
abbrev pub begin_closed : {C : Type 0} (k : ClosedForm C) (s : List ℕ) → So (closed k s) s k.rows
begin_closed k s =
    record {
      n = 0;
      k = λ q. giving (λ p. k.value (outs k.rows s q.0) p.view p.next)
          (close_at k.last (refusal LengthValue q.1 0) s q.1);
      on = begin_closed_on k s;
    }

pub and_on : {X : Type 0} {whole : Answer X} {s : List ℕ} {w : Row} {rs : List Row}
    (o : So whole s (w ∷ rs)) {p : Part} → step w.0 s o.n ≡ accepted p
    → whole ≡ then (fields_at rs s p.next) (λ q. o.k ((p.view, q.0), q.1))
unfolding fields_at
and_on {rs = rs} o {p} e = o.on ∙ rw e (then_then (fields_at rs _ p.next) (λ q. ((p.view, q.0), q.1)) o.k)

-- one field more
abbrev pub and : {X : Type 0} {whole : Answer X} {s : List ℕ} {w : Row} {rs : List Row}
    (o : So whole s (w ∷ rs)) {p : Part} → step w.0 s o.n ≡ accepted p → So whole s rs
and o {p} e = record { n = p.next; k = λ q. o.k ((p.view, q.0), q.1); on = and_on o e }

-- the field that cannot be had
pub stop : {X : Type 0} {whole : Answer X} {s : List ℕ} {w : Row} {rs : List Row}
    (o : So whole s (w ∷ rs)) {r : Refusal} → step w.0 s o.n ≡ refused r → whole ≡ refused r
unfolding fields_at
stop o e = o.on ∙ rw e

-- all the fields
pub end : {X : Type 0} {whole : Answer X} {s : List ℕ} (o : So whole s []) → whole ≡ o.k (tt, o.n)
unfolding fields_at
end o = o.on

-- the views of some fields in a row with those of the fields after them, and the place past all
abbrev pub both : (rs us : List Row) → Views rs → Views us → Views (rs ++ us)
both [] us xs ys = ys
both (w ∷ rs) us (x, xs) ys = (x, both rs us xs ys)

abbrev one : (w : Row) (rs : List Row) → View → Views rs × ℕ → Views (w ∷ rs) × ℕ
one w rs v q = ((v, q.0), q.1)

abbrev onto : (rs us : List Row) → Views rs × ℕ → Views us × ℕ → Views (rs ++ us) × ℕ
onto rs us q t = (both rs us q.0 t.0, t.1)

-- fields are read one row after the other
rows : (rs us : List Row) (s : List ℕ) (at : ℕ)
    → fields_at (rs ++ us) s at ≡ then (fields_at rs s at)
    (λ q. then (fields_at us s q.1) (λ t. accepted (onto rs us q t)))
unfolding fields_at
rows [] us s at = sym (then_same (fields_at us s at))
rows (w ∷ rs) us s at = go (step w.0 s at) (λ n. rows rs us s n)
  where
    go : (a : Answer Part)
        → ((n : ℕ) → fields_at (rs ++ us) s n ≡ then (fields_at rs s n) (λ q. then (fields_at us s q.1)
        (λ t. accepted (onto rs us q t))))
        → then a (λ p. then (fields_at (rs ++ us) s p.next) (λ q. accepted (one w (rs ++ us) p.view q)))
        ≡ then (then a (λ p. then (fields_at rs s p.next) (λ q. accepted (one w rs p.view q))))
        (λ q. then (fields_at us s q.1) (λ t. accepted (onto (w ∷ rs) us q t)))
    go (refused r) ih = refl
    go (accepted p) ih =
        rw (ih p.next)
        (then_both (fields_at rs s p.next) (λ q. fields_at us s q.1) (onto rs us) (one w (rs ++ us) p.view)
        ∙ sym (then_then (fields_at rs s p.next) (one w rs p.view)
        (λ q. then (fields_at us s q.1) (λ t. accepted (onto (w ∷ rs) us q t)))))

-- some fields more
pub and_all_on : {X : Type 0} {whole : Answer X} {s : List ℕ} (rs us : List Row)
    (o : So whole s (rs ++ us)) {q : Views rs × ℕ} → fields_at rs s o.n ≡ accepted q
    → whole ≡ then (fields_at us s q.1) (λ t. o.k (both rs us q.0 t.0, t.1))
and_all_on {s = s} rs us o {q} e = o.on
    ∙ rw (rows rs us s o.n, e) (then_then (fields_at us s q.1) (onto rs us q) o.k)

-- some fields, of which one cannot be had
pub stop_all : {X : Type 0} {whole : Answer X} {s : List ℕ} (rs us : List Row)
    (o : So whole s (rs ++ us)) {r : Refusal} → fields_at rs s o.n ≡ refused r → whole ≡ refused r
stop_all {s = s} rs us o e = o.on ∙ rw (rows rs us s o.n, e)
