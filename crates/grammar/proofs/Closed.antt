-- Closed forms, over every lawful one and every body of bytes: fields as `Whole.antt` has them, and
-- then the field that has to end with the body. Assumes nothing.
use Prim.Native.Nat.{ℕ, ◌+◌}
use mathlib.Core.Path.{◌≡◌, refl, sym, ap, ◌∙◌}
use mathlib.Core.Logic.{◌⊎◌, inl, inr}
use mathlib.Core.List.{List, ◌++◌}
use native.Mathlib.Omega.{arith}
use native.Mathlib.Nat.{zero-add}
use lib.ListN.{length, drop}
use Rattle.refusal.specs.Answers.{Answer, accepted, refused, giving}
use Rattle.refusal.specs.Refusals.{refusal}
use Rattle.refusal.specs.declared.Reason.TheVariants.{LengthValue}
use Rattle.refusal.specs.declared.Refusal.{Refusal}
use Rattle.refusal.proofs.Then.{not_both, either}
use Rattle.wire.specs.Numbers.{Bytes}
use Rattle.wire.specs.Parts.{part_of}
use Rattle.field.specs.Standing.{view_of}
use Rattle.field.specs.Closing.{Closes, NoneCloses, close_at, ByClosing}
use Rattle.field.proofs.Closing.{every_closing}
use Rattle.grammar.specs.Grammars.{Views, Parts}
use Rattle.grammar.specs.Reading.{fields_at}
use Rattle.grammar.specs.Splits.{AllObey, join, views_of, FirstLacks}
use Rattle.grammar.specs.Forms.{outs}
use Rattle.grammar.specs.Closed.{ClosedForm, closed, ClosedPieces, ClosedSplit, OpenAt, closed_value, closed_pieces}
use Rattle.grammar.specs.Closed.{ClosedLawful, EveryClosed}
use Rattle.grammar.proofs.Whole.{parts_of, Stand, stand, Have, have, refuses_of, lacks_of}
use Rattle.grammar.proofs.Outs.{all_named}

-- the refusal of a last field that begins at a place
abbrev unclosed : ℕ → Refusal
unclosed n = refusal LengthValue n 0

module _ {C : Type 0} (k : ClosedForm C) (s : List ℕ) (b : Bytes s) where
  -- what is behind the fields, once they were found
  abbrev last : Views k.rows × ℕ → Answer C
  last q =
      giving (λ p. k.value (outs k.rows s q.0) p.view p.next)
      (close_at k.last (unclosed q.1) s q.1)

  stands : (ps : Parts k.rows) (rest : List ℕ) → AllObey k.rows ps → s ≡ join k.rows ps ++ rest
      → Stand k.rows s 0 ps rest
  stands ps rest o e = stand k.rows s 0 ps rest (omega arith) o e

  -- the fields stand, and what the last one makes of the rest decides
  on : (ps : Parts k.rows) (rest : List ℕ) → AllObey k.rows ps → s ≡ join k.rows ps ++ rest
      → closed k s ≡ last (views_of k.rows 0 ps, length (join k.rows ps))
  unfolding closed
  on ps rest o e = rw ((stands ps rest o e).found, zero-add)

  -- the theorem of the last field, at the place past the fields
  closing : (ps : Parts k.rows) (rest : List ℕ) → AllObey k.rows ps → s ≡ join k.rows ps ++ rest
      → (drop (length (join k.rows ps)) s ≡ rest)
      × ByClosing k.last (unclosed (length (join k.rows ps))) s (length (join k.rows ps))
  closing ps rest o e =
      let i = stands ps rest o e in
      let z : 0 + length (join k.rows ps) ≡ length (join k.rows ps) = zero-add _ in
      (rw z at i.behind, every_closing k.last _ s _ b (rw z at i.inside))

  accepts : (x : ClosedPieces k.rows) → ClosedSplit k s x → closed k s ≡ accepted (closed_value k s x)
  accepts x y =
      let c = closing x.parts _ y.obey y.whole in
      on x.parts _ y.obey y.whole ∙ rw (c.1.accepts x.last (y.obey_last, c.0))

  refuses : (r : Refusal) → FirstLacks k.rows 0 s r → closed k s ≡ refused r
  unfolding closed
  refuses r y = rw (refuses_of k.rows s 0 r (omega arith) y)

  refuses_open_lem : (n : ℕ) → OpenAt k s n → closed k s ≡ refused (unclosed n)
  refuses_open_lem n y =
      let c = closing y.parts y.rest y.obey y.whole in
      on y.parts y.rest y.obey y.whole ∙ rw (c.1.refuses (rw c.0 y.none), ← y.place)

  -- every body is one of the three
  abbrev Which : Type 0
  Which = ((x : ClosedPieces k.rows) × ClosedSplit k s x)
      ⊎ (((r : Refusal) × FirstLacks k.rows 0 s r) ⊎ ((n : ℕ) × OpenAt k s n))

  whichever : Which
  whichever = go (either (fields_at k.rows s 0))
    where
      behind : (q : Views k.rows × ℕ) → Have k.rows s 0 q.0 q.1
          → ((p : List ℕ) × Closes k.last (drop q.1 s) p) ⊎ NoneCloses k.last (drop q.1 s) → Which
      behind q h (inl (p, y)) = inl (
        record { parts = parts_of s k.rows q.0; last = p },
        record {
          obey = h.obey;
          obey_last = y.0;
          whole = h.bytes ∙ ap (λ (z : List ℕ). join k.rows (parts_of s k.rows q.0) ++ z) y.1;
        },
      )
      behind q h (inr y) = inr (inr (
        length (join k.rows (parts_of s k.rows q.0)),
        record {
          parts = parts_of s k.rows q.0;
          rest = drop q.1 s;
          obey = h.obey;
          whole = h.bytes;
          place = refl;
          none = y;
        },
      ))

      go : ((q : Views k.rows × ℕ) × (fields_at k.rows s 0 ≡ accepted q))
          ⊎ ((r : Refusal) × (fields_at k.rows s 0 ≡ refused r)) → Which
      go (inl (q, e)) =
          let h = have k.rows s 0 q b (omega arith) e in
          behind q h (every_closing k.last (unclosed q.1) s q.1 b h.inside).whichever
      go (inr (r, e)) = inr (inl (r, lacks_of k.rows s 0 r b (omega arith) e))

  lacks : (r : Refusal) → closed k s ≡ refused r
      → FirstLacks k.rows 0 s r ⊎ ((n : ℕ) × OpenAt k s n × (r ≡ unclosed n))
  lacks r e = go whichever
    where
      go : Which → FirstLacks k.rows 0 s r ⊎ ((n : ℕ) × OpenAt k s n × (r ≡ unclosed n))
      go (inl (x, y)) = absurd (not_both (accepts x y) e)
      go (inr (inl (t, y))) =
          let d : ◌≡◌ {A = Answer C} (refused t) (refused r) = sym (refuses t y) ∙ e in
          let g : t ≡ r = cc in
          inl (rw (← g) y)
      go (inr (inr (n, y))) =
          let d : ◌≡◌ {A = Answer C} (refused r) (refused (unclosed n)) = sym e ∙ refuses_open_lem n y in
          inr (n, y, cc)

  module _ (l : ClosedLawful k) where
    -- the value of a split names its pieces
    names : (x : ClosedPieces k.rows) → ClosedSplit k s x → closed_pieces k s (closed_value k s x) ≡ x
    names x y =
        let vs = views_of k.rows 0 x.parts in
        let ps : parts_of s k.rows vs ≡ x.parts = (stands x.parts _ y.obey y.whole).parts in
        let c = closing x.parts _ y.obey y.whole in
        let n = length (join k.rows x.parts) in
        let v = view_of k.last n x.last in
        let z : Closes k.last (drop n s) x.last = (y.obey_last, c.0) in
        let e : part_of s v ≡ x.last = c.1.only _ x.last (c.1.splits _ (c.1.accepts x.last z)).0 z in
        rw (
          l.handed (outs k.rows s vs) v (length s),
          l.last_view (outs k.rows s vs) v (length s),
          all_named k.rows l.suits s vs b (rw ps y.obey),
          ps,
          e,
        )

    splits : (c : C) → closed k s ≡ accepted c → ClosedSplit k s (closed_pieces k s c) × (k.end c ≡ length s)
    splits c e = go whichever
      where
        go : Which → ClosedSplit k s (closed_pieces k s c) × (k.end c ≡ length s)
        go (inl (x, y)) =
            let d : accepted (closed_value k s x) ≡ accepted c = sym (accepts x y) ∙ e in
            let g : closed_value k s x ≡ c = cc in
            rw (← g, names x y) (y, l.end _ _ _)
        go (inr (inl (r, y))) = absurd (not_both e (refuses r y))
        go (inr (inr (n, y))) = absurd (not_both e (refuses_open_lem n y))

    only : (x y : ClosedPieces k.rows) → ClosedSplit k s x → ClosedSplit k s y → x ≡ y
    only x y p q =
        let d : accepted (closed_value k s x) ≡ accepted (closed_value k s y) = sym (accepts x p) ∙ accepts y q in
        let g : closed_value k s x ≡ closed_value k s y = cc in
        sym (names x p) ∙ ap (closed_pieces k s) g ∙ names y q

pub by_closed_split : {C : Type 0} → EveryClosed C
by_closed_split k l s b = record {
  whichever = whichever k s b;
  accepts = accepts k s b;
  splits = splits k s b l;
  only = only k s b l;
  refuses = refuses k s b;
  refuses_open = refuses_open_lem k s b;
  lacks = lacks k s b;
}
