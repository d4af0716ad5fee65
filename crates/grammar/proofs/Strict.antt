-- Demand 3, its reading half, of strict reading: over every lawful form, whatever rows are to be
-- filled, and every body of bytes. It is a corollary of the theorem over every form. Assumes
-- nothing.
use Prim.Native.Nat.{ℕ, ◌+◌}
use mathlib.Core.Path.{◌≡◌, refl, sym, ap, subst, ◌∙◌}
use mathlib.Core.Logic.{◌⊎◌, inl, inr}
use mathlib.Core.Bool.{Bool, true, false, ◌&&◌}
use mathlib.Core.List.{List, [], ◌∷◌}
use mathlib.Core.Option.{none, some}
use native.Mathlib.Omega.{arith}
use borrow.Author.Tests.{eqb-true}
use lib.ListN.{length}
use lib.Dec.{eqb}
use Rattle.refusal.specs.Answers.{accepted, refused}
use Rattle.refusal.specs.Refusals.{refusal}
use Rattle.refusal.specs.declared.Reason.TheVariants.{LengthValue}
use Rattle.refusal.specs.declared.Refusal.{Refusal}
use Rattle.refusal.proofs.Then.{not_both, then_accepted, then_refused}
use Rattle.wire.specs.Numbers.{Bytes}
use Rattle.field.specs.Standing.{field_bytes}
use Rattle.grammar.specs.Grammars.{Row, Grammar, Parts}
use Rattle.grammar.specs.Splits.{Pieces, Split, handed_of, FirstLacks}
use Rattle.grammar.specs.Forms.{Form, value_of, reading, pieces}
use Rattle.grammar.specs.Demand3.{Lawful, BySplit}
use Rattle.grammar.specs.Strict.{ToFill, Unfilled, AllFilled, FirstUnfilled, Exact, InexactAt, first_unfilled, inexact}
use Rattle.grammar.specs.Strict.{if_exact, strictly, EveryStrict}
use Rattle.grammar.proofs.Forms.{by_split}

-- one row: the test holds where it is not filled, and only there
abbrev test : Bool → List ℕ → Bool
test t p = t && eqb (length p) 0

unfilled : (t : Bool) (p : List ℕ) → test t p ≡ true → Unfilled t p
unfilled true [] q = (refl, refl)
unfilled true (x ∷ xs) q = absurd (omega (arith, eqb-true (length (x ∷ xs)) 0 q))
unfilled false p q = let f : false ≡ true = q in absurd cc

is_unfilled : (t : Bool) (p : List ℕ) → Unfilled t p → test t p ≡ true
is_unfilled t p (e, f) = rw (e, f)

is_filled : (t : Bool) (p : List ℕ) → (Unfilled t p → ⊥) → test t p ≡ false
is_filled t p not = go (test t p) refl
  where
    go : (u : Bool) → test t p ≡ u → test t p ≡ false
    go true q = absurd (not (unfilled t p q))
    go false q = q

filled : (t : Bool) (p : List ℕ) → test t p ≡ false → Unfilled t p → ⊥
filled t p q u =
    let f : true ≡ false = sym (is_unfilled t p u) ∙ q in
    cc

-- all rows
all_filled : (rs : List Row) (ts : ToFill rs) (at : ℕ) (ps : Parts rs) → AllFilled rs ts ps
    → first_unfilled rs ts at ps ≡ none
all_filled [] ts at ps a = refl
all_filled ((f, m) ∷ rs) (t, ts) at (p, ps) (not, a) =
    rw (is_filled t p not) (all_filled rs ts (at + length (field_bytes f p)) ps a)

one_unfilled : (rs : List Row) (ts : ToFill rs) (at : ℕ) (ps : Parts rs) (n : ℕ) → FirstUnfilled rs ts at ps n
    → first_unfilled rs ts at ps ≡ some n
one_unfilled ((f, m) ∷ rs) (t, ts) at (p, ps) n (inl (u, e)) = rw (is_unfilled t p u, e)
one_unfilled ((f, m) ∷ rs) (t, ts) at (p, ps) n (inr (not, y)) =
    rw (is_filled t p not) (one_unfilled rs ts (at + length (field_bytes f p)) ps n y)
one_unfilled [] ts at ps n x' = elim x' [ ]

abbrev Decided : (rs : List Row) → ToFill rs → ℕ → Parts rs → Type 0
Decided rs ts at ps = AllFilled rs ts ps ⊎ ((n : ℕ) × FirstUnfilled rs ts at ps n)

which_row : (rs : List Row) (ts : ToFill rs) (at : ℕ) (ps : Parts rs) → Decided rs ts at ps
which_row [] ts at ps = inl tt
which_row ((f, m) ∷ rs) (t, ts) at (p, ps) =
    go (test t p) refl (which_row rs ts (at + length (field_bytes f p)) ps)
  where
    go : (u : Bool) → test t p ≡ u → Decided rs ts (at + length (field_bytes f p)) ps
        → Decided ((f, m) ∷ rs) (t, ts) at (p, ps)
    go true q d = inr (at, inl (unfilled t p q, refl))
    go false q (inl a) = inl (filled t p q, a)
    go false q (inr (n, y)) = inr (n, inr (filled t p q, y))

empty_tail : (p : List ℕ) → (p ≡ [] → ⊥) → eqb (length p) 0 ≡ false
empty_tail p not = is_filled true p (λ u. not u.1)

-- the whole split
module _ (g : Grammar) (ts : ToFill g.rows) (x : Pieces g) where
  exact_none : Exact g ts x → inexact g ts x ≡ none
  exact_none (a, e) = rw (all_filled g.rows ts 0 x.parts a, e)

  inexact_some : (n : ℕ) → InexactAt g ts x n → inexact g ts x ≡ some n
  inexact_some n (inl y) = rw (one_unfilled g.rows ts 0 x.parts n y)
  inexact_some n (inr (a, not, e)) = rw (all_filled g.rows ts 0 x.parts a, empty_tail x.tail not, e)

  which : Exact g ts x ⊎ ((n : ℕ) × InexactAt g ts x n)
  which = go (which_row g.rows ts 0 x.parts) (test true x.tail) refl
    where
      go : Decided g.rows ts 0 x.parts → (u : Bool) → test true x.tail ≡ u
          → Exact g ts x ⊎ ((n : ℕ) × InexactAt g ts x n)
      go (inl a) true q = inl (a, (unfilled true x.tail q).1)
      go (inl a) false q = inr ((handed_of g x).tail, inr (a, λ e. filled true x.tail q (refl, e), refl))
      go (inr (n, y)) u q = inr (n, inl y)

module _ {C : Type 0} (k : Form C) (l : Lawful k) (ts : ToFill k.grammar.rows) (s : List ℕ) (b : Bytes s) where
  abbrev plain : BySplit k s
  plain = by_split k l s b

  -- what the plain reading accepts, held to the condition
  pub from_plain_lem : (c : C) → reading k s ≡ accepted c → strictly k ts s ≡ if_exact k ts s c
  unfolding strictly
  from_plain_lem c e = rw e

  exactly : (c : C) → reading k s ≡ accepted c → Exact k.grammar ts (pieces k s c) → strictly k ts s ≡ accepted c
  exactly c e y = from_plain_lem c e ∙ rw (exact_none k.grammar ts (pieces k s c) y)

  inexactly : (c : C) (n : ℕ) → reading k s ≡ accepted c → InexactAt k.grammar ts (pieces k s c) n
      → strictly k ts s ≡ refused (refusal LengthValue n 0)
  inexactly c n e y = from_plain_lem c e ∙ rw (inexact_some k.grammar ts (pieces k s c) n y)

  plain_first_lem : (r : Refusal) → reading k s ≡ refused r → strictly k ts s ≡ refused r
  unfolding strictly
  plain_first_lem r e = rw e

  plain_too_lem : (c : C) → strictly k ts s ≡ accepted c
      → (reading k s ≡ accepted c) × Exact k.grammar ts (pieces k s c)
  unfolding strictly
  plain_too_lem c e =
      let t = then_accepted (reading k s) (if_exact k ts s) e in
      go t.0 t.1 (which k.grammar ts (pieces k s t.0))
    where
      go : (d : C) → reading k s ≡ accepted d
          → Exact k.grammar ts (pieces k s d) ⊎ ((n : ℕ) × InexactAt k.grammar ts (pieces k s d) n)
          → (reading k s ≡ accepted c) × Exact k.grammar ts (pieces k s c)
      go d f (inl y) =
          let g : accepted d ≡ accepted c = sym (exactly d f y) ∙ e in
          let h : d ≡ c = cc in
          (f ∙ ap accepted h, rw (← h) y)
      go d f (inr (n, y)) = absurd (not_both e (inexactly d n f y))

  -- the pieces of a split are those that the value names
  named : (x : Pieces k.grammar) → Split k.grammar s x
      → pieces k s (value_of k s (handed_of k.grammar x)) ≡ x
  named x y =
      let c = value_of k s (handed_of k.grammar x) in
      plain.only (pieces k s c) x (plain.splits c (plain.accepts x y)) y

  abbrev Whichever : Type 0
  Whichever =
      ((x : Pieces k.grammar) × Split k.grammar s x × Exact k.grammar ts x)
      ⊎ (((x : Pieces k.grammar) × (n : ℕ) × Split k.grammar s x × InexactAt k.grammar ts x n)
      ⊎ ((r : Refusal) × FirstLacks k.grammar.rows 0 s r))

  whichever : Whichever
  whichever = go plain.whichever
    where
      on : (x : Pieces k.grammar) → Split k.grammar s x
          → Exact k.grammar ts x ⊎ ((n : ℕ) × InexactAt k.grammar ts x n) → Whichever
      on x y (inl e) = inl (x, y, e)
      on x y (inr (n, e)) = inr (inl (x, n, y, e))

      go : ((x : Pieces k.grammar) × Split k.grammar s x) ⊎ ((r : Refusal) × FirstLacks k.grammar.rows 0 s r)
          → Whichever
      go (inl (x, y)) = on x y (which k.grammar ts x)
      go (inr r) = inr (inr r)

  abbrev Why : Refusal → Type 0
  Why r =
      FirstLacks k.grammar.rows 0 s r
      ⊎ ((x : Pieces k.grammar) × (n : ℕ) × Split k.grammar s x × InexactAt k.grammar ts x n
      × (r ≡ refusal LengthValue n 0))

  lacks : (r : Refusal) → strictly k ts s ≡ refused r → Why r
  unfolding strictly
  lacks r e = go (then_refused (reading k s) (if_exact k ts s) e)
    where
      on : (c : C) → reading k s ≡ accepted c
          → Exact k.grammar ts (pieces k s c) ⊎ ((n : ℕ) × InexactAt k.grammar ts (pieces k s c) n) → Why r
      on c f (inl y) = absurd (not_both (exactly c f y) e)
      on c f (inr (n, y)) =
          let g : refused r ≡ refused (refusal LengthValue n 0) = sym e ∙ inexactly c n f y in
          inr (pieces k s c, n, plain.splits c f, y, cc)

      go : (reading k s ≡ refused r) ⊎ ((c : C) × (reading k s ≡ accepted c) × (if_exact k ts s c ≡ refused r)) → Why r
      go (inl f) = inl (plain.lacks r f)
      go (inr (c, f, z)) = on c f (which k.grammar ts (pieces k s c))

-- demand 3, its reading half
pub by_exact_split : {C : Type 0} → EveryStrict C
by_exact_split k l ts s b =
    let plain = by_split k l s b in
    record {
      whichever = whichever k l ts s b;
      accepts = λ x y e. exactly k l ts s b _ (plain.accepts x y)
          (subst (λ z. Exact k.grammar ts z) (sym (named k l ts s b x y)) e);
      splits = λ c e. (plain.splits c (plain_too_lem k l ts s b c e).0, (plain_too_lem k l ts s b c e).1);
      only = plain.only;
      refuses = λ r y. plain_first_lem k l ts s b r (plain.refuses r y);
      refuses_inexact = λ x n y e. inexactly k l ts s b _ n (plain.accepts x y)
          (subst (λ z. InexactAt k.grammar ts z n) (sym (named k l ts s b x y)) e);
      place = inexact_some k.grammar ts;
      no_place_of = exact_none k.grammar ts;
      lacks = lacks k l ts s b;
      plain_too = λ c e. (plain_too_lem k l ts s b c e).0;
      from_plain = exactly k l ts s b;
      plain_first = plain_first_lem k l ts s b;
    }
