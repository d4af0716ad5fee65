-- Items with a tag: what is found at a place and the bytes that stand there, and the theorem, over
-- every width, every choice of data and all bytes. Assumes nothing.
use Prim.Native.Nat.{ℕ, zero, suc, ◌+◌, ◌-◌, ◌^◌, ◌<◌, ◌≤◌}
use mathlib.Core.Path.{◌≡◌, refl, ap, ap₂, sym, ◌∙◌}
use mathlib.Core.Logic.{◌⊎◌, inl, inr}
use mathlib.Core.Bool.{Bool, true, false}
use mathlib.Core.List.{List, [], ◌∷◌, ◌++◌, append_assoc, append-nil}
use native.Mathlib.Omega.{arith}
use borrow.Author.Tests.{eqb-true, eqb-false, eq-eqb, ne_eqb}
use lib.ListN.{length, drop, length-append, length-drop}
use lib.Seq.{drop_at, drop-drop}
use Rattle.refusal.specs.Answers.{Answer, accepted, refused, giving}
use Rattle.refusal.specs.Refusals.{refusal}
use Rattle.refusal.specs.declared.Reason.TheVariants.{Incomplete, LengthValue}
use Rattle.refusal.specs.declared.Refusal.{Refusal}
use Rattle.refusal.proofs.Then.{not_both, then_accepted}
use Rattle.wire.specs.Numbers.{Bytes, be, bytes_of, number_at}
use Rattle.wire.specs.Parts.{pick, part_of}
use Rattle.wire.specs.declared.number.Number.{Number}
use Rattle.wire.specs.declared.view.Part.{Part}
use Rattle.wire.proofs.Parts.{part_in}
use Rattle.wire.proofs.Numbers.{length_bytes, be_drop, be_of, be_lt, number_got, number_is}
use Rattle.field.specs.Fields.{rule_of, sized, step}
use Rattle.field.specs.declared.RuleName.TheVariants.{Plain}
use Rattle.field.specs.Standing.{field_bytes}
use Rattle.field.proofs.Rules.{step_in}
use Rattle.field.proofs.Steps.{step_back, step_of, view_of_lem, past_in, length_vector, front}
use Rattle.list.specs.Stopping.{end_of, Takes}
use Rattle.list.specs.Tagged.{tagged_at, Fit, any_data, fit_at, tagged_in, tagged_end, filled, tagged_bytes, IsTagged}
use Rattle.list.specs.Tagged.{EachTagged, join_tagged, NoneTagged, Fills, Breaks, stand_tagged, tagged_handed}
use Rattle.list.specs.Tagged.{EveryTagged}
use Rattle.list.specs.declared.tagged.Tagged.{Tagged}
use Rattle.list.proofs.Walk.{Moves, rest, rest_on, rest_end, rest_all, none_at_all}
use Rattle.list.proofs.Stopping.{moves_by, stops_by}

-- by what is found: no tag, no data behind it, or both
module _ (w : ℕ) (s : List ℕ) (at : ℕ) where
  pub no_tag : {r : Refusal} → number_at w s at ≡ refused r → tagged_at w s at ≡ refused r
  unfolding tagged_at
  no_tag e = rw e

  pub no_data : {t : Number} {r : Refusal} → number_at w s at ≡ accepted t → step (sized 2) s t.next ≡ refused r
      → tagged_at w s at ≡ refused r
  unfolding tagged_at
  no_data e d = rw (e, d)

  pub both : {t : Number} {p : Part} → number_at w s at ≡ accepted t → step (sized 2) s t.next ≡ accepted p
      → tagged_at w s at ≡ accepted (record { tag = t.value; view = p.view; next = p.next })
  unfolding tagged_at
  both e d = rw (e, d)

-- the data is no longer than its length can say
pub data_below : (s : List ℕ) (at : ℕ) {p : Part} → Bytes s → step (sized 2) s at ≡ accepted p → p.view.len < 256 ^ 2
data_below s at {p} b e =
    let f = step_back (sized 2) s at b e in
    let l : p.view.len ≡ length (part_of s p.view) = ap (λ (q : Part). q.view.len) f.place in
    omega (arith, l, f.obeys.0)

-- an item where it stands
abbrev pub tag_placed : ℕ → ℕ → ℕ × List ℕ → Tagged
tag_placed w at (t, d) = record {
  tag = t;
  view = record { start = at + w + 2; len = length d };
  next = at + length (tagged_bytes w (t, d));
}

-- how many bytes an item has
pub length_tagged : (w t : ℕ) (d : List ℕ) → length (tagged_bytes w (t, d)) ≡ w + 2 + length d
length_tagged w t d = simp (length-append, length_bytes) (omega arith)

-- with any data allowed, what is found is the item with no question about its data
pub fit_any : (w : ℕ) (s : List ℕ) (at : ℕ) → fit_at w any_data s at ≡ tagged_at w s at
unfolding fit_at
fit_any w s at = go (tagged_at w s at) refl
  where
    go : (a : Answer Tagged) → tagged_at w s at ≡ a → fit_at w any_data s at ≡ tagged_at w s at
    go (accepted x) e = rw e
    go (refused r) e = rw e

-- an item made of the number that stands at a place and of the part behind it
record Halves (w : ℕ) (s : List ℕ) (at : ℕ) (x : Tagged) : Type 0 where
  part : Part
  inside : at + w ≤ length s
  behind : step (sized 2) s (at + w) ≡ accepted part
  is : x ≡ record { tag = be w s at; view = part.view; next = part.next }

-- an item that was found is made so
halves : (w : ℕ) (s : List ℕ) (at : ℕ) {x : Tagged} → tagged_at w s at ≡ accepted x → Halves w s at x
unfolding tagged_at
halves w s at {x} e =
    let t =
    then_accepted (number_at w s at) (λ t.
    giving (λ p. record { tag = t.value; view = p.view; next = p.next }) (step (sized 2) s t.next)) e in
    let n = number_is w s at t.1 in
    let k : giving (λ p. record { tag = be w s at; view = p.view; next = p.next }) (step (sized 2) s (at + w))
    ≡ accepted x = rw n.is at t.2 in
    let u = then_accepted (step (sized 2) s (at + w)) _ k in go n.inside u.0 u.1 u.2
  where
    go : at + w ≤ length s → (q : Part) → step (sized 2) s (at + w) ≡ accepted q
        → accepted (record { tag = be w s at; view = q.view; next = q.next }) ≡ accepted x → Halves w s at x
    go i q y z = record { part = q; inside = i; behind = y; is = cc z }

-- an item that was found and fits was found, and its data may stand behind its tag
fits_back : (w : ℕ) (fit : Fit) (s : List ℕ) (at : ℕ) {x : Tagged} → fit_at w fit s at ≡ accepted x
    → (tagged_at w s at ≡ accepted x) × (fit x.tag (part_of s x.view) ≡ true)
unfolding fit_at
fits_back w fit s at {x} e =
    let t = then_accepted (tagged_at w s at) _ e in
    go t.0 t.1 (fit t.0.tag (part_of s t.0.view)) refl t.2
  where
    go : (y : Tagged) → tagged_at w s at ≡ accepted y → (b : Bool) → fit y.tag (part_of s y.view) ≡ b
        → pick (fit y.tag (part_of s y.view)) (accepted y) (refused (refusal LengthValue at 0)) ≡ accepted x
        → (tagged_at w s at ≡ accepted x) × (fit x.tag (part_of s x.view) ≡ true)
    go y a true q z =
        let d : y ≡ x = cc (rw q at z) in
        (a ∙ ap accepted d, rw d at q)
    go y a false q z = absurd (not_both (rw q at z) refl)

-- what is found takes its tag and its length at least, and ends within the bytes
pub moves : (w : ℕ) (fit : Fit) (s : List ℕ) → Takes (fit_at w fit s) (λ x. x.next) (w + 2) (length s)
moves w fit s = record {
  one = omega arith;
  on = λ at x e.
      let g = halves w s at (fits_back w fit s at e).0 in
      let i = step_in (sized 2) s (at + w) g.behind in
      rw g.is (omega arith, i.1);
}

-- the tag that stands at a place is found there
number_of : (w t : ℕ) (s : List ℕ) (at : ℕ) (rest : List ℕ) → at ≤ length s → t < 256 ^ w
    → drop at s ≡ bytes_of w t ++ rest
    → (number_at w s at ≡ accepted (record { value = t; next = at + w })) × (at + w ≤ length s)
    × (drop (at + w) s ≡ rest)
number_of w t s at rest h l e =
    let z : length (drop at s) ≡ w + length rest = ap length e ∙ simp (length-append, length_bytes) in
    let i : at + w ≤ length s = omega (arith, length-drop at s) in
    let n : be w s at ≡ t = be_drop w s at ∙ rw e (be_of w t rest l) in (
      rw (number_got w s at (part_in Incomplete s at w i), n),
      i,
      rw (← drop-drop w at s, e) (drop_at (bytes_of w t) rest w (length_bytes w t)),
    )

-- an item whose bytes stand at a place: it is found there, its view is its data, and the rest is
-- left behind it
pub record Placed (w : ℕ) (s : List ℕ) (at t : ℕ) (d rest : List ℕ) : Type 0 where
  pub found : tagged_at w s at ≡ accepted (tag_placed w at (t, d))
  pub its : part_of s (tag_placed w at (t, d)).view ≡ d
  pub inside : at + length (tagged_bytes w (t, d)) ≤ length s
  pub after : drop (at + length (tagged_bytes w (t, d))) s ≡ rest

-- where an item's bytes stand, it is placed
pub placed_of : (w : ℕ) (s : List ℕ) (at t : ℕ) (d rest : List ℕ) → at ≤ length s → t < 256 ^ w → length d < 256 ^ 2
    → drop at s ≡ tagged_bytes w (t, d) ++ rest → Placed w s at t d rest
placed_of w s at t d rest h l m e =
    let c : drop at s ≡ bytes_of w t ++ (field_bytes (sized 2) d ++ rest) = e
    ∙ append_assoc (bytes_of w t) (field_bytes (sized 2) d) rest in
    let n = number_of w t s at _ h l c in
    let z : at + w + length (field_bytes (sized 2) d) ≡ at + length (tagged_bytes w (t, d)) =
    rw (length_tagged w t d, length_vector 2 (rule_of Plain) d) (omega arith) in
    record {
      found = rw (← z) (both w s at n.0 (step_of (sized 2) s (at + w) d rest n.1 (m, refl) n.2));
      its = view_of_lem (sized 2) s (at + w) d rest n.1 n.2;
      inside = rw (← z) (past_in (sized 2) s (at + w) d rest n.1 n.2);
      after = rw (← drop-drop, e) (drop_at (tagged_bytes w (t, d)) rest _ refl);
    }

-- where an item's bytes stand, and its data may stand behind its tag, it is found
pub fit_of : (w : ℕ) (fit : Fit) (s : List ℕ) (at t : ℕ) (d rest : List ℕ) → at ≤ length s → IsTagged w fit (t, d)
    → drop at s ≡ tagged_bytes w (t, d) ++ rest → fit_at w fit s at ≡ accepted (tag_placed w at (t, d))
unfolding fit_at
fit_of w fit s at t d rest h (l, m, f) e =
    let p = placed_of w s at t d rest h l m e in
    rw (p.found, p.its, f)

-- the bytes of an item that was found stand there
pub record FitFound (w : ℕ) (fit : Fit) (s : List ℕ) (at : ℕ) (x : Tagged) : Type 0 where
  pub obeys : IsTagged w fit (x.tag, part_of s x.view)
  pub bytes : drop at s ≡ tagged_bytes w (x.tag, part_of s x.view) ++ drop x.next s
  pub place : x ≡ tag_placed w at (x.tag, part_of s x.view)
  pub inside : x.next ≤ length s

-- where an item is found that fits, its bytes stand there, and it is where they stand
pub fit_back : (w : ℕ) (fit : Fit) (s : List ℕ) (at : ℕ) {x : Tagged} → Bytes s → fit_at w fit s at ≡ accepted x
    → FitFound w fit s at x
fit_back w fit s at {x} b e =
    let y = fits_back w fit s at e in
    let g = halves w s at y.0 in
    let q = g.part in
    let k = step_back (sized 2) s (at + w) b g.behind in
    let f : fit (be w s at) (part_of s q.view) ≡ true = rw g.is at y.1 in
    let d = part_of s q.view in
    let c : drop at s ≡ tagged_bytes w (be w s at, d) ++ drop q.next s = front w s at b g.inside
    ∙ ap (λ (r : List ℕ). bytes_of w (be w s at) ++ r) k.bytes
    ∙ sym (append_assoc (bytes_of w (be w s at)) (field_bytes (sized 2) d) (drop q.next s)) in
    let p = placed_of w s at (be w s at) d _ (omega (arith, g.inside)) (be_lt w s at b) k.obeys.0 c in
    let z : accepted x ≡ accepted (tag_placed w at (be w s at, d)) = sym y.0 ∙ p.found in
    let v : record { tag = be w s at; view = q.view; next = q.next } ≡ tag_placed w at (be w s at, d) = sym g.is
    ∙ cc z in
    rw g.is
    (record { obeys = (be_lt w s at b, k.obeys.0, f); bytes = c; place = v; inside = k.inside })

-- the items that stand from a place on end behind their bytes
pub end_of_lem : (w at : ℕ) (xs : List (ℕ × List ℕ))
    → end_of (λ (x : Tagged). x.next) (stand_tagged w at xs) at ≡ at + length (join_tagged w xs)
unfolding end_of stand_tagged join_tagged
end_of_lem w at [] = omega arith
end_of_lem w at ((t, d) ∷ xs) =
    end_of_lem w (at + length (tagged_bytes w (t, d))) xs
    ∙ rw (length-append (tagged_bytes w (t, d)) (join_tagged w xs)) (omega arith)

-- no item stands at the front of no bytes
none_empty : (w : ℕ) (fit : Fit) → NoneTagged w fit []
none_empty w fit (t, d) rest o e =
    let z : 0 ≡ length (tagged_bytes w (t, d)) + length rest = ap length e ∙ length-append (tagged_bytes w (t, d)) rest in
    omega (arith, length_tagged w t d)

-- the place past an item
abbrev past : Tagged → ℕ
past x = x.next

module _ (w : ℕ) (fit : Fit) (s : List ℕ) (b : Bytes s) where
  -- what is left at a place
  abbrev left : ℕ → List Tagged
  left at = rest (fit_at w fit s) past (length s) at

  -- each item found ends behind where it begins
  walks : Moves (fit_at w fit s) past (length s)
  walks = moves_by (moves w fit s)

  -- no item is found where none stands
  none_found : (at : ℕ) → NoneTagged w fit (drop at s) → left at ≡ []
  none_found at n = go (fit_at w fit s at) refl
    where
      go : (a : Answer Tagged) → fit_at w fit s at ≡ a → left at ≡ []
      go (accepted x) e = let f = fit_back w fit s at b e in absurd (n _ _ f.obeys f.bytes)
      go (refused r) e = rest_end walks at e

  -- items are what is left at a place, where they stand, and their tags and data are those handed
  -- out
  record Handed (at : ℕ) (xs : List (ℕ × List ℕ)) : Type 0 where
    where-they-stand : left at ≡ stand_tagged w at xs
    their-bytes : tagged_handed s (stand_tagged w at xs) ≡ xs

  -- the items that stand from a place on are handed out
  handed : (at : ℕ) (xs : List (ℕ × List ℕ)) (r : List ℕ) → at ≤ length s → EachTagged w fit xs
      → drop at s ≡ join_tagged w xs ++ r → NoneTagged w fit r → Handed at xs
  unfolding join_tagged stand_tagged
  handed at [] r h o d n = record { where-they-stand = none_found at (rw d n); their-bytes = refl }
  handed at ((t, x) ∷ xs) r h (o, os) d n =
      let e : drop at s ≡ tagged_bytes w (t, x) ++ (join_tagged w xs ++ r) = d
      ∙ append_assoc (tagged_bytes w (t, x)) (join_tagged w xs) r in
      let p = placed_of w s at t x _ h o.0 o.1 e in
      let i = handed (at + length (tagged_bytes w (t, x))) xs r p.inside os p.after n in
      record {
        where-they-stand = rest_on walks at (fit_of w fit s at t x _ h o e) ∙ rw i.where-they-stand;
        their-bytes = ap₂ (λ (y : List ℕ) (ys : List (ℕ × List ℕ)). (t, y) ∷ ys) p.its i.their-bytes;
      }

  -- items handed out stand from a place on, and none stands behind them
  record Stands (at : ℕ) (xs : List Tagged) : Type 0 where
    remainder : List ℕ
    each : EachTagged w fit (tagged_handed s xs)
    bytes : drop at s ≡ join_tagged w (tagged_handed s xs) ++ remainder
    stops : NoneTagged w fit remainder

  -- where none is found, none stands
  stands_end : (at : ℕ) {r : Refusal} → at ≤ length s → fit_at w fit s at ≡ refused r → Stands at (left at)
  unfolding join_tagged
  stands_end at h e =
      rw (rest_end walks at e)
      (record {
        remainder = drop at s;
        each = tt;
        bytes = refl;
        stops = λ x t o d. not_both (fit_of w fit s at x.0 x.1 t h o d) e;
      })

  -- where one is found, it stands before those behind it
  stands_on : (at : ℕ) (x : Tagged) (xs : List Tagged) → FitFound w fit s at x → Stands x.next xs
      → Stands at (x ∷ xs)
  unfolding join_tagged
  stands_on at x xs f i = record {
    remainder = i.remainder;
    each = (f.obeys, i.each);
    bytes = f.bytes ∙ rw i.bytes (sym (append_assoc (tagged_bytes w (x.tag, part_of s x.view))
        (join_tagged w (tagged_handed s xs)) i.remainder));
    stops = i.stops;
  }

  -- so all that is handed out from a place on stands there
  stands : (fuel at : ℕ) → at ≤ length s → length s - at ≤ fuel → Stands at (left at)
  stands zero at h k = go (fit_at w fit s at) refl
    where
      go : (a : Answer Tagged) → fit_at w fit s at ≡ a → Stands at (left at)
      go (accepted x) e = let i = walks.on at x e in absurd (omega arith)
      go (refused r) e = stands_end at h e
  stands (suc fuel) at h k = go (λ n l m. stands fuel n l m) (fit_at w fit s at) refl
    where
      go : ((n : ℕ) → n ≤ length s → length s - n ≤ fuel → Stands n (left n)) → (a : Answer Tagged)
          → fit_at w fit s at ≡ a → Stands at (left at)
      go ih (accepted x) e =
          let i = walks.on at x e in
          rw (rest_on walks at e)
          (stands_on at x (left x.next) (fit_back w fit s at b e) (ih x.next (omega arith) (omega arith)))
      go ih (refused r) e = stands_end at h e

  -- the bytes are these items and then others at whose front none stands, which may be none
  record Holds (xs : List (ℕ × List ℕ)) (r : List ℕ) : Type 0 where
    each : EachTagged w fit xs
    whole : s ≡ join_tagged w xs ++ r
    stops : NoneTagged w fit r

  -- all items are what is left at the front
  all_left : tagged_in w fit s ≡ left 0
  all_left = rest_all (fit_at w fit s) past (length s)

  -- the bytes hold the items handed out
  holds : (r : List ℕ) × Holds (tagged_handed s (tagged_in w fit s)) r
  holds =
      let i = stands (length s) 0 (omega arith) (omega arith) in
      rw all_left (i.remainder, record { each = i.each; whole = i.bytes; stops = i.stops })

  -- and the items that they hold are handed out where they stand
  of_holds : (xs : List (ℕ × List ℕ)) (r : List ℕ) → Holds xs r → Handed 0 xs
  of_holds xs r y = handed 0 xs r (omega arith) y.each y.whole y.stops

  -- and are all that is handed out
  hands : (xs : List (ℕ × List ℕ)) (r : List ℕ) → Holds xs r → tagged_in w fit s ≡ stand_tagged w 0 xs
  hands xs r y = all_left ∙ (of_holds xs r y).where-they-stand

  -- they end behind their bytes
  ends : (xs : List (ℕ × List ℕ)) (r : List ℕ) → Holds xs r → tagged_end w fit s ≡ length (join_tagged w xs)
  ends xs r y = rw (hands xs r y) (end_of_lem w 0 xs ∙ omega arith)

  -- how many bytes there are
  long : (xs : List (ℕ × List ℕ)) (r : List ℕ) → Holds xs r → length s ≡ length (join_tagged w xs) + length r
  long xs r y = ap length y.whole ∙ length-append (join_tagged w xs) r

  -- bytes that items fill hold these, and nothing behind them
  by_fills : (xs : List (ℕ × List ℕ)) → Fills w fit s xs → Holds xs []
  by_fills xs y = record { each = y.each; whole = y.whole ∙ sym (append-nil _); stops = none_empty w fit }

  -- bytes that break behind items hold these
  by_breaks : (xs : List (ℕ × List ℕ)) (r : List ℕ) → Breaks w fit s xs r → Holds xs r
  by_breaks xs r y = record { each = y.each; whole = y.whole; stops = y.none_had }

  -- items that fill the bytes are handed out where they stand, up to the end
  fills : (xs : List (ℕ × List ℕ)) → Fills w fit s xs → (filled w fit s ≡ true)
      × (tagged_in w fit s ≡ stand_tagged w 0 xs)
  fills xs y =
      let k = by_fills xs y in
      (eq-eqb _ _ (ends xs [] k ∙ sym (ap length y.whole)), hands xs [] k)

  -- bytes that break are not filled
  breaks : (xs : List (ℕ × List ℕ)) (r : List ℕ) → Breaks w fit s xs r → (filled w fit s ≡ false)
      × (tagged_in w fit s ≡ stand_tagged w 0 xs) × (tagged_end w fit s ≡ length (join_tagged w xs))
  breaks xs r y =
      let k = by_breaks xs r y in
      let m : tagged_end w fit s ≡ length s → ⊥ = λ e. omega (arith, e, ends xs r k, long xs r k, y.left) in
      (ne_eqb _ _ m, hands xs r k, ends xs r k)

  -- bytes that are filled are the join of the items handed out
  splits : filled w fit s ≡ true → Fills w fit s (tagged_handed s (tagged_in w fit s))
  splits q =
      let k = holds in
      let m : tagged_end w fit s ≡ length s = eqb-true _ _ q in
      let z : length k.0 ≡ 0 = omega (arith, m, ends _ _ k.1, long _ _ k.1) in
      record {
        each = k.1.each;
        whole = k.1.whole ∙ rw (none_at_all k.0 z) (append-nil _);
      }

  -- bytes that are not filled break behind the items handed out
  lacks : filled w fit s ≡ false → (r : List ℕ) × Breaks w fit s (tagged_handed s (tagged_in w fit s)) r
  lacks q = go holds.0 holds.1
    where
      go : (r : List ℕ) → Holds (tagged_handed s (tagged_in w fit s)) r
          → (r : List ℕ) × Breaks w fit s (tagged_handed s (tagged_in w fit s)) r
      go [] k = absurd (eqb-false _ _ q (ends _ _ k ∙ omega (arith, long _ _ k)))
      go (x ∷ r) k = (x ∷ r, record { each = k.each; whole = k.whole; left = omega arith; none_had = k.stops })

  -- one list of items at most fills them
  only : (xs ys : List (ℕ × List ℕ)) → Fills w fit s xs → Fills w fit s ys → xs ≡ ys
  only xs ys x y =
      let k = by_fills xs x in
      let l = by_fills ys y in
      sym (of_holds xs [] k).their-bytes ∙ ap (tagged_handed s) (sym (hands xs [] k) ∙ hands ys [] l)
      ∙ (of_holds ys [] l).their-bytes

  -- the bytes are filled, or they break
  whichever : ((xs : List (ℕ × List ℕ)) × Fills w fit s xs) ⊎
      ((xs : List (ℕ × List ℕ)) × (r : List ℕ) × Breaks w fit s xs r)
  whichever = go (filled w fit s) refl
    where
      go : (t : Bool) → filled w fit s ≡ t
          → ((xs : List (ℕ × List ℕ)) × Fills w fit s xs) ⊎
          ((xs : List (ℕ × List ℕ)) × (r : List ℕ) × Breaks w fit s xs r)
      go true q = inl (tagged_handed s (tagged_in w fit s), splits q)
      go false q = let l = lacks q in inr (tagged_handed s (tagged_in w fit s), l.0, l.1)

-- the theorem: the bytes are the items handed out, whole or up to a break
pub every_tagged : EveryTagged
every_tagged w fit s b = record {
  whichever = whichever w fit s b;
  fills = fills w fit s b;
  splits = splits w fit s b;
  only = only w fit s b;
  breaks = breaks w fit s b;
  lacks = lacks w fit s b;
  stopping = stops_by (moves w fit s);
}
