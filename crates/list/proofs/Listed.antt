-- The list theorem, over every element of at least a byte and every list of bytes. Assumes nothing.
use Prim.Native.Nat.{ℕ, zero, suc, ◌+◌, ◌-◌, ◌≤◌}
use mathlib.Core.Path.{◌≡◌, refl, ap, ap₂, sym, ◌∙◌}
use mathlib.Core.List.{List, [], ◌∷◌, ◌++◌, append_assoc}
use native.Mathlib.Omega.{arith}
use lib.ListN.{length, drop}
use lib.Seq.{drop_at}
use Rattle.refusal.specs.Answers.{Answer, accepted, refused}
use Rattle.refusal.specs.declared.Refusal.{Refusal}
use Rattle.refusal.proofs.Then.{not_both}
use Rattle.wire.specs.Numbers.{Bytes}
use Rattle.wire.specs.Parts.{part_of}
use Rattle.wire.specs.declared.view.Part.{Part}
use Rattle.field.specs.Fields.{Field, step}
use Rattle.field.proofs.Rules.{step_in}
use Rattle.field.specs.Standing.{field_bytes, least, NoneAt}
use Rattle.field.proofs.Steps.{step_of, left_of, past_in, view_of_lem, step_back, Found}
use Rattle.list.specs.Items.{items}
use Rattle.list.specs.Listing.{EachObeys, join_items, Holds, standing, bytes_handed, ByItems}
use Rattle.list.proofs.Walk.{rest_on, rest_end, place_below, place_past}
use Rattle.list.proofs.Fields.{left, by_steps, all_left, begins, goes_on}

module _ (f : Field) (one : 1 ≤ least f) (s : List ℕ) (b : Bytes s) where
  -- no item is found where none stands
  none_found : (at : ℕ) → NoneAt f (drop at s) → left f s at ≡ []
  none_found at n = go (step f s at) refl
    where
      go : (a : Answer Part) → step f s at ≡ a → left f s at ≡ []
      go (accepted p) e = let w =
          step_back f s at b e in absurd (n (part_of s p.view) (drop p.next s) w.obeys w.bytes)
      go (refused r) e = rest_end (by_steps f one s) at e

  -- the items that stand from a place on are handed out, and their bytes are the items
  record Handed (at : ℕ) (xs : List (List ℕ)) : Type 0 where
    where-they-stand : left f s at ≡ standing f at xs
    their-bytes : bytes_handed s (standing f at xs) ≡ xs

  handed : (at : ℕ) (xs : List (List ℕ)) (r : List ℕ) → at ≤ length s → EachObeys f xs
      → drop at s ≡ join_items f xs ++ r → NoneAt f r → Handed at xs
  unfolding join_items standing
  handed at [] r h o d n = record { where-they-stand = none_found at (rw d n); their-bytes = refl }
  handed at (x ∷ xs) r h (o, os) d n =
      let e : drop at s ≡ field_bytes f x ++ (join_items f xs ++ r) = d
      ∙ append_assoc (field_bytes f x) (join_items f xs) r in
      let i = handed (at + length (field_bytes f x)) xs r (past_in f s at x _ h e) os (left_of f s at x _ e) n in
      record {
        where-they-stand = rest_on (by_steps f one s) at (step_of f s at x _ h o e) ∙ rw i.where-they-stand;
        their-bytes = ap₂ (λ (y : List ℕ) (ys : List (List ℕ)). y ∷ ys) (view_of_lem f s at x _ h e) i.their-bytes;
      }

  -- the items that are handed out from a place on stand there
  record Stands (at : ℕ) (ps : List Part) : Type 0 where
    remainder : List ℕ
    obey : EachObeys f (bytes_handed s ps)
    bytes : drop at s ≡ join_items f (bytes_handed s ps) ++ remainder
    stops : NoneAt f remainder

  stands_end : (at : ℕ) {r : Refusal} → at ≤ length s → step f s at ≡ refused r → Stands at (left f s at)
  unfolding join_items
  stands_end at h e =
      rw (rest_end (by_steps f one s) at e)
      (record {
        remainder = drop at s;
        obey = tt;
        bytes = refl;
        stops = λ p t o d. not_both (step_of f s at p t h o d) e;
      })

  stands_on : (at : ℕ) (p : Part) (ps : List Part) → Found f s at p → Stands p.next ps → Stands at (p ∷ ps)
  unfolding join_items
  stands_on at p ps w i = record {
    remainder = i.remainder;
    obey = (w.obeys, i.obey);
    bytes = w.bytes ∙ rw i.bytes (sym
        (append_assoc (field_bytes f (part_of s p.view)) (join_items f (bytes_handed s ps)) i.remainder));
    stops = i.stops;
  }

  stands : (fuel at : ℕ) → at ≤ length s → length s - at ≤ fuel → Stands at (left f s at)
  stands zero at h k = go (step f s at) refl
    where
      go : (a : Answer Part) → step f s at ≡ a → Stands at (left f s at)
      go (accepted p) e = let i = step_in f s at e in absurd (omega arith)
      go (refused r) e = stands_end at h e
  stands (suc fuel) at h k = go (λ n l m. stands fuel n l m) (step f s at) refl
    where
      go : ((n : ℕ) → n ≤ length s → length s - n ≤ fuel → Stands n (left f s n)) → (a : Answer Part)
          → step f s at ≡ a → Stands at (left f s at)
      go ih (accepted p) e =
          let i = step_in f s at e in
          rw (rest_on (by_steps f one s) at e)
          (stands_on at p (left f s p.next) (step_back f s at b e) (ih p.next (omega arith) (omega arith)))
      go ih (refused r) e = stands_end at h e

  holds : (r : List ℕ) × Holds f s (bytes_handed s (items f s)) r
  holds =
      let i = stands (length s) 0 (omega arith) (omega arith) in
      rw (all_left f s) (i.remainder, record { obey = i.obey; whole = i.bytes; stops = i.stops })

  of_holds : (xs : List (List ℕ)) (r : List ℕ) → Holds f s xs r → Handed 0 xs
  of_holds xs r y = handed 0 xs r (omega arith) y.obey y.whole y.stops

  hands : (xs : List (List ℕ)) (r : List ℕ) → Holds f s xs r → items f s ≡ standing f 0 xs
  hands xs r y = all_left f s ∙ (of_holds xs r y).where-they-stand

  only : (xs ys : List (List ℕ)) (r t : List ℕ) → Holds f s xs r → Holds f s ys t → (xs ≡ ys) × (r ≡ t)
  only xs ys r t x y =
      let e : xs ≡ ys = sym (of_holds xs r x).their-bytes ∙ ap (bytes_handed s) (sym (hands xs r x) ∙ hands ys t y)
      ∙ (of_holds ys t y).their-bytes in
      let d : join_items f xs ++ r ≡ join_items f xs ++ t = sym x.whole ∙ y.whole ∙ rw e in (
        e,
        sym (drop_at (join_items f xs) r _ refl) ∙ ap (drop (length (join_items f xs))) d
            ∙ drop_at (join_items f xs) t _ refl,
      )

pub by_items : (f : Field) → 1 ≤ least f → (s : List ℕ) → Bytes s → ByItems f s
by_items f one s b =
    record {
      holds = holds f one s b;
      hands = hands f one s b;
      only = only f one s b;
      below = λ n. place_below n (items f s);
      past = λ n. place_past n (items f s);
      begins =
          begins f one s;
      goes_on_of = goes_on f one s;
    }
