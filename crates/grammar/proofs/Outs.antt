-- What is handed out of a field names the field's part, and the views in it keep their order.
-- Assumes nothing.
use Prim.Native.Nat.{ℕ, ◌+◌, ◌≤◌}
use mathlib.Core.Path.{◌≡◌, refl, ap₂, sym}
use mathlib.Core.List.{List, [], ◌∷◌}
use mathlib.Core.Bool.{Bool, true, false}
use native.Mathlib.Omega.{arith}
use borrow.Author.Tests.{leb-true, eqb-true}
use lib.ListN.{length, drop, length-take, length-drop}
use lib.Seq.{get_or-drop}
use lib.Dec.{leb, eqb}
use Rattle.std.specs.Prelude.{Some, None}
use Rattle.wire.specs.Parts.{pick, part_of, opt_part_of, OptView}
use Rattle.wire.specs.Numbers.{Bytes, be, bytes_of}
use Rattle.wire.specs.declared.view.View.{View}
use Rattle.wire.proofs.Numbers.{be_drop, of_be}
use Rattle.field.specs.Fields.{Field}
use Rattle.field.specs.Standing.{Obeys}
use Rattle.grammar.specs.Grammars.{How, as_view, as_opt, as_number, Row, Each, Views, Parts}
use Rattle.grammar.specs.Splits.{AllObey}
use Rattle.grammar.specs.Forms.{absent_if_empty, out, named, if_there, seen, outs, all_named_of, all_seen}
use Rattle.grammar.specs.Demand3.{Suits, InRow}
use Rattle.grammar.proofs.Whole.{parts_of, InOrder}

no_bytes : (w n : ℕ) → ◌≡◌ {A = ℕ} 0 w → bytes_of w n ≡ []
unfolding bytes_of
no_bytes w n z = rw (← z)

-- the number where a view of w bytes begins has the view's bytes
number_part : (w : ℕ) (s : List ℕ) (v : View) → Bytes s → length (part_of s v) ≡ w
    → bytes_of w (be w s v.start) ≡ part_of s v
number_part w s v b e = go (leb (v.start + v.len) (length s)) refl
  where
    go : (t : Bool) → leb (v.start + v.len) (length s) ≡ t → bytes_of w (be w s v.start) ≡ part_of s v
    go true q =
        let h : v.start + v.len ≤ length s = leb-true _ _ q in
        let n : v.len ≡ w = omega (arith, rw (q, length-take, length-drop) at e) in
        rw (q, n, be_drop w s v.start)
        (of_be w (drop v.start s) (λ i. rw get_or-drop (b (v.start + i))) (rw length-drop (omega arith)))
    go false q = rw q (no_bytes w (be w s v.start) (rw q at e))

pick_same : (t : Bool) → pick {A = List ℕ} t [] [] ≡ []
pick_same true = refl
pick_same false = refl

-- an empty part is absent, and has no bytes
part_part : (s : List ℕ) (v : View) → opt_part_of s (absent_if_empty v) ≡ part_of s v
part_part s v = go (eqb v.len 0) refl
  where
    go : (t : Bool) → eqb v.len 0 ≡ t → opt_part_of s (absent_if_empty v) ≡ part_of s v
    go true q = rw (q, eqb-true v.len 0 q) (sym (pick_same (leb (v.start + 0) (length s))))
    go false q = rw q

names : (f : Field) (m : How) → Suits (f, m) → (s : List ℕ) (v : View) → Bytes s → Obeys f (part_of s v)
    → named m s (out m s v) ≡ part_of s v
names f as_view u s v b o = refl
names f (as_opt true) u s v b o = refl
names f (as_opt false) u s v b o = part_part s v
names f (as_number w) u s v b o = number_part w s v b (rw u at o)

pub all_named : (rs : List Row) → Each Suits rs → (s : List ℕ) (vs : Views rs) → Bytes s
    → AllObey rs (parts_of s rs vs) → all_named_of rs s (outs rs s vs) ≡ parts_of s rs vs
all_named [] u s vs b o = refl
all_named ((f, m) ∷ rs) (u, us) s (v, vs) b (o, os) =
    ap₂ (λ (x : List ℕ) (y : Parts rs). (x, y)) (names f m u s v b o) (all_named rs us s vs b os)

-- views in a row from a later place are so from an earlier one
sooner : (vs : List View) (from at tail : ℕ) → from ≤ at → InRow at vs tail → InRow from vs tail
sooner [] from at tail h r = omega arith
sooner (v ∷ vs) from at tail h (l, r) = (omega arith, r)

-- an absent part leaves the views after it in a row
part_row : (v : View) (vs : List View) (from tail : ℕ) → from ≤ v.start → InRow (v.start + v.len) vs tail
    → InRow from (if_there (absent_if_empty v) vs) tail
part_row v vs from tail h r = go (eqb v.len 0) refl
  where
    go : (t : Bool) → eqb v.len 0 ≡ t → InRow from (if_there (absent_if_empty v) vs) tail
    go true q = rw q (sooner vs from (v.start + v.len) tail (omega arith) r)
    go false q = rw q (h, r)

seen_row : (m : How) (s : List ℕ) (v : View) (vs : List View) (from tail : ℕ) → from ≤ v.start
    → InRow (v.start + v.len) vs tail → InRow from (seen m (out m s v) vs) tail
seen_row as_view s v vs from tail h r = (h, r)
seen_row (as_opt true) s v vs from tail h r = (h, r)
seen_row (as_opt false) s v vs from tail h r = part_row v vs from tail h r
seen_row (as_number w) s v vs from tail h r = sooner vs from (v.start + v.len) tail (omega arith) r

block_row : (e : OptView) (from tail : ℕ) → InOrder [] tt e from tail → InRow from (if_there e []) tail
block_row None from tail o = o
block_row (Some v) from tail o = o

pub all_in_row : (rs : List Row) (s : List ℕ) (vs : Views rs) (e : OptView) (from tail : ℕ)
    → InOrder rs vs e from tail → InRow from (all_seen rs (outs rs s vs) (if_there e [])) tail
all_in_row [] s vs e from tail o = block_row e from tail o
all_in_row ((f, m) ∷ rs) s (v, vs) e from tail (h, r) =
    seen_row m s v _ from tail h (all_in_row rs s vs e (v.start + v.len) tail r)
