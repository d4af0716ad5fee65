-- Demand 3, its reading half, over every lawful form and every body of bytes. Assumes nothing.
use Prim.Native.Nat.{ℕ, ◌≤◌}
use mathlib.Core.Path.{◌≡◌, refl, sym, ◌∙◌}
use mathlib.Core.Logic.{◌⊎◌, inl, inr}
use mathlib.Core.List.{List}
use mathlib.Core.Option.{Option, none, some}
use lib.ListN.{length}
use Rattle.refusal.specs.Answers.{Answer, accepted, refused}
use Rattle.refusal.specs.declared.Refusal.{Refusal}
use Rattle.refusal.proofs.Then.{not_both, then_accepted, then_refused}
use Rattle.wire.specs.Numbers.{Bytes}
use Rattle.field.specs.Fields.{Field}
use Rattle.grammar.specs.Grammars.{Grammar, Handed}
use Rattle.grammar.specs.Splits.{Pieces, Split, handed_of, FirstLacks}
use Rattle.grammar.specs.Reading.{fields_at, last_at, with_last, read}
use Rattle.grammar.specs.Forms.{Form, outs, value_of, reading, pieces, views}
use Rattle.grammar.specs.Demand3.{if_any, Lawful, InRow, BySplit, EveryForm}
use Rattle.grammar.proofs.Whole.{pieces_of, whichever, accepts, splits, only, order, refuses, lacks}
use Rattle.grammar.proofs.Outs.{all_named, all_in_row}

last_any : (b : Option Field) (s : List ℕ) (at : ℕ) → if_any b (last_at b s at).view ≡ (last_at b s at).view
last_any none s at = refl
last_any (some f) s at = refl

read_any : (g : Grammar) (s : List ℕ) (h : Handed g) → read g s ≡ accepted h → if_any g.block h.block ≡ h.block
unfolding read
read_any g s h e =
    let t = then_accepted (fields_at g.rows s 0) (λ q. accepted (with_last g q.0 (last_at g.block s q.1))) e in
    let d : with_last g t.0.0 (last_at g.block s t.0.1) ≡ h = cc t.2 in
    rw (← d) (last_any g.block s t.0.1)

module _ {C : Type 0} (k : Form C) (l : Lawful k) (s : List ℕ) (b : Bytes s) where
  -- an accepted value is made of what was handed out
  made : (c : C) → reading k s ≡ accepted c → (h : Handed k.grammar) × (read k.grammar s ≡ accepted h)
      × (value_of k s h ≡ c)
  unfolding reading
  made c e = let t = then_accepted (read k.grammar s) (λ h. accepted (value_of k s h)) e in (t.0, t.1, cc t.2)

  block_back : (h : Handed k.grammar) → read k.grammar s ≡ accepted h → k.block (value_of k s h) ≡ h.block
  block_back h e =
      rw (read_any k.grammar s h e) at (l.block (outs k.grammar.rows s h.views) h.block h.tail)

  -- and names its pieces
  names : (h : Handed k.grammar) → read k.grammar s ≡ accepted h
      → Split k.grammar s (pieces_of k.grammar s h) → pieces k s (value_of k s h) ≡ pieces_of k.grammar s h
  names h e y =
      let o = outs k.grammar.rows s h.views in
      rw (
        l.handed o h.block h.tail,
        block_back h e,
        l.tail o h.block h.tail,
        all_named k.grammar.rows l.suits s h.views b y.obey,
      )

  value_splits : (c : C) → reading k s ≡ accepted c → Split k.grammar s (pieces k s c)
  value_splits c e =
      let m = made c e in
      let y = splits k.grammar s b m.0 m.1 in
      rw (← m.2, names m.0 m.1 y) y

  value_order : (c : C) → reading k s ≡ accepted c → InRow 0 (views k c) (k.tail c) × (k.tail c ≤ length s)
  value_order c e =
      let m = made c e in
      let h = m.0 in
      let r = order k.grammar s b h m.1 in
      let o = outs k.grammar.rows s h.views in
      rw (← m.2, l.handed o h.block h.tail, block_back h m.1, l.tail o h.block h.tail)
      (all_in_row k.grammar.rows s h.views h.block 0 h.tail r.0, r.1)

  value_accepts : (x : Pieces k.grammar) → Split k.grammar s x
      → reading k s ≡ accepted (value_of k s (handed_of k.grammar x))
  unfolding reading
  value_accepts x y = rw (accepts k.grammar s b x y)

  value_refuses : (r : Refusal) → FirstLacks k.grammar.rows 0 s r → reading k s ≡ refused r
  unfolding reading
  value_refuses r y = rw (refuses k.grammar s b r y)

  value_lacks : (r : Refusal) → reading k s ≡ refused r → FirstLacks k.grammar.rows 0 s r
  unfolding reading
  value_lacks r e = go (then_refused (read k.grammar s) (λ h. accepted (value_of k s h)) e)
    where
      go : (read k.grammar s ≡ refused r) ⊎
          ((h : Handed k.grammar) × (read k.grammar s ≡ accepted h)
          × (◌≡◌ {A = Answer C} (accepted (value_of k s h)) (refused r))) → FirstLacks k.grammar.rows 0 s r
      go (inl x) = lacks k.grammar s b r x
      go (inr (h, x, z)) = absurd (not_both refl z)

-- a value that was read is the one made of the pieces that it names
pub made_of : {C : Type 0} {k : Form C} {s : List ℕ} {c : C} → BySplit k s → reading k s ≡ accepted c
    → c ≡ value_of k s (handed_of k.grammar (pieces k s c))
made_of {C} {k} {s} {c} d e =
    let q : accepted c ≡ accepted (value_of k s (handed_of k.grammar (pieces k s c))) =
    sym e ∙ d.accepts (pieces k s c) (d.splits c e) in
    cc

-- demand 3, its reading half
pub by_split : {C : Type 0} → EveryForm C
by_split k l s b = record {
  whichever = whichever k.grammar s b;
  accepts = value_accepts k l s b;
  splits = value_splits k l s b;
  only = only k.grammar s b;
  order = value_order k l s b;
  refuses = value_refuses k l s b;
  lacks = value_lacks k l s b;
}
