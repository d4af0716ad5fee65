-- The number of an answer, check by check: what a part, a number, a field and fields in a row come
-- to. Assumes nothing.
use Prim.Native.Nat.{ℕ, ◌+◌, ◌%◌, ◌<◌, ◌≤◌}
use mathlib.Core.Path.{◌≡◌, refl, ap, sym, ◌∙◌}
use mathlib.Core.List.{List, [], ◌∷◌}
use mathlib.Core.Bool.{Bool, true, false, not, ◌&&◌}
use mathlib.Core.Option.{Option, none, some}
use native.Mathlib.Omega.{arith}
use borrow.Author.Tests.{leb-true, leb-false, ltb-true, ltb-false, eqb-true, eqb-false, le-leb, lt-leb, lt-ltb, le-ltb}
use borrow.Author.Tests.{ne_eqb}
use lib.ListN.{length, take, drop}
use lib.Dec.{leb, ltb, eqb}
use Rattle.refusal.specs.Answers.{Answer, accepted, refused, then, or_else, within, number_in}
use Rattle.refusal.specs.Refusals.{number_of}
use Rattle.refusal.specs.declared.Reason.{Reason}
use Rattle.refusal.specs.declared.Reason.TheVariants.{Incomplete}
use Rattle.refusal.specs.declared.Refusal.{Refusal}
use Rattle.refusal.proofs.Told.{its_reason, inside_reason, not_zero_lem}
use Rattle.wire.specs.Parts.{pick, if_some, part_of, part_at}
use Rattle.wire.specs.Numbers.{be, number_at}
use Rattle.wire.specs.declared.view.View.{View}
use Rattle.wire.specs.declared.view.Part.{Part}
use Rattle.wire.specs.declared.number.Number.{Number}
use Rattle.wire.proofs.Parts.{found, part_in, part_out}
use Rattle.field.specs.Fields.{Field, fixed, vector, Rule, unless, ruled, step}
use Rattle.field.proofs.Rules.{ruled_in, ruled_out}
use Rattle.grammar.specs.Grammars.{How, Row, Views}
use Rattle.grammar.specs.Reading.{fields_at, last_at, with_last}
use Rattle.grammar.specs.Forms.{Form, value_of, reading}
use Rattle.grammar.proofs.Chain.{begin_on}
use Rattle.claim_readers.specs.Readers.{in_order, under, All, ◌&◌, end}

-- what is made of an accepted answer does not count
pub number_on : {A B : Type 0} (x : Answer A) (f : A → B) → number_in (then x (λ a. accepted (f a))) ≡ number_in x
number_on (accepted a) f = refl
number_on (refused r) f = refl

-- nor where it lies
pub number_within : {A : Type 0} (at : ℕ) (x : Answer A) → number_in (within at x) ≡ number_in x
number_within at (accepted a) = refl
number_within at (refused r) = ap number_of (inside_reason at r)

pub then_assoc : {A B C : Type 0} (x : Answer A) (f : A → Answer B) (k : B → Answer C)
    → then (then x f) k ≡ then x (λ a. then (f a) k)
then_assoc (accepted a) f k = refl
then_assoc (refused r) f k = refl

-- a test turned round
pub not_leb : (a b : ℕ) → not (leb a b) ≡ ltb b a
not_leb a b = go (leb a b) refl
  where
    go : (t : Bool) → leb a b ≡ t → not (leb a b) ≡ ltb b a
    go true q = rw (q, le-ltb b a (leb-true a b q))
    go false q = rw (q, lt-ltb b a (leb-false a b q))

pub not_even : (n : ℕ) → not (eqb (n % 2) 0) ≡ eqb (n % 2) 1
not_even n = go (eqb (n % 2) 0) refl
  where
    go : (t : Bool) → eqb (n % 2) 0 ≡ t → not (eqb (n % 2) 0) ≡ eqb (n % 2) 1
    go true q = let e : n % 2 ≡ 0 = eqb-true (n % 2) 0 q in rw e
    go false q = let e : n % 2 ≡ 1 = omega (arith, eqb-false (n % 2) 0 q) in rw e

-- n bytes from a place on, and what follows
pub part_then : {B : Type 0} (past : Reason) (s : List ℕ) (at n : ℕ) (k : Part → Answer B)
    → number_in (then (part_at past s at n) k) ≡ in_order (under s (at + n) past ∷ []) (number_in (k (found at n)))
unfolding in_order
part_then past s at n k = go (leb (at + n) (length s)) refl
  where
    go : (t : Bool) → leb (at + n) (length s) ≡ t
        → number_in (then (part_at past s at n) k) ≡ in_order (under s (at + n) past ∷ []) (number_in (k (found at n)))
    go true q =
        let h = leb-true _ _ q in
        rw (part_in past s at n h, le-ltb (length s) (at + n) h)
    go false q =
        let h = leb-false _ _ q in
        rw (part_out past s at n h, lt-ltb (length s) (at + n) h) (ap number_of (its_reason past at _))

pub number_then : {B : Type 0} (w : ℕ) (s : List ℕ) (at : ℕ) (k : Number → Answer B)
    → number_in (then (number_at w s at) k) ≡ in_order (under s (at + w) Incomplete ∷ [])
    (number_in (k (record { value = be w s at; next = at + w })))
unfolding number_at in_order
number_then w s at k =
    rw then_assoc (part_then Incomplete s at w (λ p. k (record { value = be w s at; next = p.next })))

pub fixed_then : {B : Type 0} (n : ℕ) (s : List ℕ) (at : ℕ) (k : Part → Answer B)
    → number_in (then (step (fixed n) s at) k) ≡ in_order (under s (at + n) Incomplete ∷ []) (number_in (k (found at n)))
unfolding step
fixed_then n s at k = part_then Incomplete s at n k

-- the number by the rule of a length n that stands at a place, its bytes behind it, and what
-- follows
abbrev by_rule : Rule → ℕ → ℕ → ℕ → ℕ → ℕ
by_rule r at behind n x = if_some (r.broken n) (λ made. number_of (made at behind).reason) x

-- of a rule that has a test
pub by_test : (t : Bool) (made : ℕ → ℕ → Refusal) (at behind : ℕ) {why : Reason} → (made at behind).reason ≡ why
    → (x : ℕ)
    → if_some (unless t made) (λ r. number_of (r at behind).reason) x ≡ pick (not t) (number_of why) x
by_test true made at behind e x = refl
by_test false made at behind e x = ap number_of e

ruled_then : {B : Type 0} (r : Rule) (s : List ℕ) (at behind n : ℕ) (k : Part → Answer B)
    → number_in (then (ruled r s at behind n) k) ≡ by_rule r at behind n
    (in_order (under s (behind + n) r.past ∷ []) (number_in (k (found behind n))))
unfolding in_order
ruled_then r s at behind n k = go (r.broken n) refl
  where
    go : (o : Option (ℕ → ℕ → Refusal)) → r.broken n ≡ o
        → number_in (then (ruled r s at behind n) k) ≡ by_rule r at behind n
        (in_order (under s (behind + n) r.past ∷ []) (number_in (k (found behind n))))
    go none q = rw (ruled_in r s at behind n q, q) (part_then r.past s behind n k)
    go (some made) q = rw (ruled_out r s at behind n made q, q)

-- a field with a length, and what follows
abbrev vector_number : ℕ → Rule → List ℕ → ℕ → ℕ → ℕ
vector_number w r s at x = in_order (under s (at + w) Incomplete ∷ []) (by_rule r at (at + w) (be w s at) x)

pub vector_then : {B : Type 0} (w : ℕ) (r : Rule) (s : List ℕ) (at : ℕ) (k : Part → Answer B)
    → number_in (then (step (vector w r) s at) k) ≡ vector_number w r s at
    (in_order (under s (at + w + be w s at) r.past ∷ []) (number_in (k (found (at + w) (be w s at)))))
unfolding step in_order
vector_then w r s at k = rw (then_assoc, number_then, ruled_then)

-- the bytes up to a place, where the rows that follow do not ask for them with the same refusal
abbrev pub asked : Reason → List ℕ → ℕ → List Row → ℕ → ℕ
asked why s n [] x = pick (ltb (length s) n) (number_of why) x
asked why s n (r ∷ rs) x = pick (eqb (number_of why) 1) x (pick (ltb (length s) n) (number_of why) x)

-- the number of rows, from a place on, and what follows; and the views found where all are there
abbrev pub rows_number : List Row → List ℕ → ℕ → ℕ → ℕ
rows_number [] s at x = x
rows_number ((fixed n, m) ∷ rs) s at x = asked Incomplete s (at + n) rs (rows_number rs s (at + n) x)
rows_number ((vector w r, m) ∷ rs) s at x =
    let past = at + w + be w s at in
    pick (ltb (length s) (at + w)) 1
    (by_rule r at (at + w) (be w s at) (asked r.past s past rs (rows_number rs s past x)))

abbrev one_more : (w : Row) (rs : List Row) → View → Views rs × ℕ → Views (w ∷ rs) × ℕ
one_more w rs v q = ((v, q.0), q.1)

abbrev pub views_at : (rs : List Row) → List ℕ → ℕ → Views rs × ℕ
views_at [] s at = (tt, at)
views_at ((fixed n, m) ∷ rs) s at = one_more (fixed n, m) rs (found at n).view (views_at rs s (at + n))
views_at ((vector w r, m) ∷ rs) s at =
    one_more (vector w r, m) rs (found (at + w) (be w s at)).view (views_at rs s (at + w + be w s at))

-- past the end the first row is lacking
past_end : (rs : List Row) (f : Field) (m : How) (s : List ℕ) (n x : ℕ) → length s < n
    → rows_number ((f, m) ∷ rs) s n x ≡ 1
past_end [] (fixed k) m s n x h = rw (lt-ltb (length s) (n + k) (omega arith))
past_end [] (vector w r) m s n x h = rw (lt-ltb (length s) (n + w) (omega arith))
past_end ((g, o) ∷ rs) (fixed k) m s n x h = past_end rs g o s (n + k) x (omega arith)
past_end ((g, o) ∷ rs) (vector w r) m s n x h = rw (lt-ltb (length s) (n + w) (omega arith))

asked_same : (why : Reason) (s : List ℕ) (n : ℕ) (rs : List Row) (x : ℕ)
    → pick (ltb (length s) n) (number_of why) (rows_number rs s n x) ≡ asked why s n rs (rows_number rs s n x)
asked_same why s n [] x = refl
asked_same why s n ((f, m) ∷ rs) x = go (eqb (number_of why) 1) (ltb (length s) n) refl refl
  where
    go : (t u : Bool) → eqb (number_of why) 1 ≡ t → ltb (length s) n ≡ u
        → pick (ltb (length s) n) (number_of why) (rows_number ((f, m) ∷ rs) s n x) ≡ asked why s n ((f, m) ∷ rs)
        (rows_number ((f, m) ∷ rs) s n x)
    go false u q p = rw q
    go true false q p = rw (q, p)
    go true true q p = rw (q, p, past_end rs f m s n x (ltb-true _ _ p)) (eqb-true _ _ q)

pub rows_then : (rs : List Row) (s : List ℕ) (at : ℕ) {B : Type 0} (k : Views rs × ℕ → Answer B)
    → number_in (then (fields_at rs s at) k) ≡ rows_number rs s at (number_in (k (views_at rs s at)))
unfolding fields_at in_order
rows_then [] s at k = refl
rows_then ((fixed n, m) ∷ rs) s at k =
    let o = one_more (fixed n, m) rs (found at n).view in
    rw (then_assoc, fixed_then, then_assoc, rows_then rs s (at + n) (λ q. k (o q)))
    (asked_same Incomplete s (at + n) rs _)
rows_then ((vector w r, m) ∷ rs) s at k =
    let v = be w s at in
    let o = one_more (vector w r, m) rs (found (at + w) v).view in
    rw (
      then_assoc,
      vector_then,
      then_assoc,
      rows_then rs s (at + w + v) (λ q. k (o q)),
      asked_same r.past s (at + w + v) rs _,
    )

-- what a form makes of its rows where no check holds
abbrev pub value_at : {C : Type 0} (k : Form C) → List ℕ → C
value_at k s =
    let q = views_at k.grammar.rows s 0 in
    value_of k s (with_last k.grammar q.0 (last_at k.grammar.block s q.1))

-- reading by a form, and what follows: the checks of its rows come first
pub form_then : {C B : Type 0} (k : Form C) (s : List ℕ) (c : C → Answer B)
    → number_in (then (reading k s) c) ≡ rows_number k.grammar.rows s 0 (number_in (c (value_at k s)))
form_then k s c =
    rw (begin_on k s, then_assoc)
    (rows_then k.grammar.rows s 0
    (λ q. c (value_of k s (with_last k.grammar q.0 (last_at k.grammar.block s q.1)))))

pub form_number : {C : Type 0} (k : Form C) (s : List ℕ) → number_in (reading k s) ≡ rows_number k.grammar.rows s 0 0
form_number {C} k s = sym (number_on (reading k s) (λ (c : C). c)) ∙ form_then k s (λ c. accepted c)

-- by a number: at each of a few, and at every other
abbrev pub NoneOf : List ℕ → ℕ → Type 0
NoneOf [] k = Unit
NoneOf (t ∷ ts) k = (eqb k t ≡ false) × NoneOf ts k

pub by_number : (P : ℕ → Type 0) (ts : List ℕ) → All P ts → (k : ℕ) → (NoneOf ts k → P k) → P k
by_number P [] end k other = other tt
by_number P (t ∷ ts) (p & ps) k other = go (eqb k t) refl (λ o. by_number P ts ps k o)
  where
    go : (b : Bool) → eqb k t ≡ b → ((NoneOf ts k → P k) → P k) → P k
    go true q ih = rw (eqb-true k t q) p
    go false q ih = ih (λ n. other (q, n))

-- a number that is not from lo to hi
pub outside : {A : Type 0} (lo hi v : ℕ) (x y : A) → (lo ≤ v → hi < v) → pick (ltb v lo) x (pick (ltb hi v) x y) ≡ x
outside lo hi v x y f = go (ltb v lo) refl
  where
    go : (t : Bool) → ltb v lo ≡ t → pick (ltb v lo) x (pick (ltb hi v) x y) ≡ x
    go true q = rw q
    go false q = rw (q, lt-ltb hi v (f (ltb-false v lo q)))

pub not_between : (lo hi v : ℕ) → (lo ≤ v → hi < v) → (leb lo v && leb v hi) ≡ false
not_between lo hi v f = go (leb lo v) refl
  where
    go : (t : Bool) → leb lo v ≡ t → (leb lo v && leb v hi) ≡ false
    go true q = rw (q, lt-leb v hi (f (leb-true lo v q)))
    go false q = rw q

-- one from lo to hi is taken, and every other refused
pub between : {A : Type 0} (lo hi v : ℕ) (t : Bool) (x y : A) → (t ≡ true → (lo ≤ v) × (v ≤ hi))
    → (t ≡ false → lo ≤ v → hi < v)
    → pick t x y ≡ pick (ltb v lo) y (pick (ltb hi v) y x)
between lo hi v true x y f g =
    let h = f refl in
    rw (le-ltb v lo h.0, le-ltb hi v h.1)
between lo hi v false x y f g = sym (outside lo hi v y x (g refl))

-- a test that asks for bytes at last
pub and_under : {A : Type 0} (t : Bool) (n l : ℕ) (x y : A) → pick (t && leb n l) x y ≡ pick t (pick (ltb l n) y x) y
and_under false n l x y = refl
and_under true n l x y = go (leb n l) refl
  where
    go : (u : Bool) → leb n l ≡ u → pick (leb n l) x y ≡ pick (ltb l n) y x
    go true q = rw (q, le-ltb l n (leb-true n l q))
    go false q = rw (q, lt-ltb l n (leb-false n l q))

-- the first answer where it is accepted, else the second
pub number_else : {A : Type 0} (x y : Answer A) → number_in (or_else x y) ≡ pick (eqb (number_in x) 0) 0 (number_in y)
number_else (accepted a) y = refl
number_else (refused r) y = rw (ne_eqb (number_of r.reason) 0 (λ e. not_zero_lem r.reason (sym e)))

pub number_pick : {A : Type 0} (t : Bool) (x y : Answer A) → number_in (pick t x y) ≡ pick t (number_in x) (number_in y)
number_pick true x y = refl
number_pick false x y = refl

-- fewer bytes asked for before more, with the same refusal
pub fewer_first : (l a b x y : ℕ) → a ≤ b → pick (ltb l a) x (pick (ltb l b) x y) ≡ pick (ltb l b) x y
fewer_first l a b x y h = go (ltb l a) refl
  where
    go : (t : Bool) → ltb l a ≡ t → pick (ltb l a) x (pick (ltb l b) x y) ≡ pick (ltb l b) x y
    go true q = rw (q, lt-ltb l b (omega (arith, ltb-true l a q)))
    go false q = rw q

-- a part that is there is the bytes from its place on
pub part_taken : (s : List ℕ) (a n x : ℕ) (f : List ℕ → ℕ)
    → pick (ltb (length s) (a + n)) x (f (part_of s (record { start = a; len = n }))) ≡ pick (ltb (length s) (a + n)) x
    (f (take n (drop a s)))
part_taken s a n x f = go (ltb (length s) (a + n)) refl
  where
    go : (t : Bool) → ltb (length s) (a + n) ≡ t
        → pick (ltb (length s) (a + n)) x (f (part_of s (record { start = a; len = n }))) ≡ pick
        (ltb (length s) (a + n)) x (f (take n (drop a s)))
    go true q = rw q
    go false q = rw (q, le-leb (a + n) (length s) (ltb-false _ _ q))
