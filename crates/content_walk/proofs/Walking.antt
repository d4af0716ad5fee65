-- The messages of a content, and the walk over them: the stopping rule of
-- `list/proofs/Stopping.antt` where the type repeats, one message where it does not. Assumes
-- nothing.
use Prim.Native.Nat.{ℕ, zero, suc, ◌+◌, ◌-◌, ◌≤◌}
use mathlib.Core.Path.{◌≡◌, refl, sym, ap, ◌∙◌}
use mathlib.Core.Bool.{Bool, true, false}
use mathlib.Core.List.{List, [], ◌∷◌}
use mathlib.Core.Logic.{◌⊎◌, inl, inr}
use native.Mathlib.Omega.{arith}
use lib.ListN.{length}
use Rattle.refusal.specs.Answers.{Answer, accepted, refused, giving}
use Rattle.refusal.specs.Refusals.{refusal}
use Rattle.refusal.specs.declared.Reason.TheVariants.{NoSuch}
use Rattle.refusal.specs.declared.Refusal.{Refusal}
use Rattle.refusal.proofs.Then.{not_both, then_refused}
use Rattle.wire.specs.Parts.{pick}
use Rattle.list.specs.Items.{items_from, place, or_no_such}
use Rattle.list.specs.Stopping.{end_of}
use Rattle.list.proofs.Walk.{Moves, rest, fuel, rest_on, rest_end, go_on, place_past, none, none_after}
use Rattle.list.proofs.Stopping.{moves_by, ends_in, stops_by}
use Rattle.content.specs.declared.TlsMessage.{TlsMessage}
use Rattle.content_walk.specs.ContentWalks.{found_at, is_single, messages_behind, messages_of, met_by}
use Rattle.content_walk.specs.ContentWalks.{next_message, moved, walk_after, fresh_walk}
use Rattle.content_walk.specs.ContentWalking.{ContentWalking}
use Rattle.content_walk.specs.declared.TlsFound.{TlsFound}
use Rattle.content_walk.specs.declared.TlsRecordWalk.{TlsRecordWalk}
use Rattle.content_walk.proofs.Found.{takes_one, takes_all, found_in}

abbrev pub behind : TlsFound → ℕ
behind x = x.next

module _ (t : ℕ) (s : List ℕ) where
  -- what is left of the messages at a place
  abbrev pub left : ℕ → List TlsFound
  left at = rest (found_at t s) behind (length s) at

  pub by_messages : is_single t ≡ false → Moves (found_at t s) behind (length s)
  by_messages f = moves_by (takes_one t s f)

  pub behind_left : is_single t ≡ false → (at : ℕ) → messages_behind t s at ≡ left at
  behind_left f at = rw f (fuel (by_messages f) (length s) (length s - at) at (omega arith) (omega arith))

  pub behind_none : is_single t ≡ true → (at : ℕ) → messages_behind t s at ≡ []
  unfolding items_from
  behind_none y at = rw y

  -- none where the first is refused
  pub no_first_lem : {r : Refusal} → found_at t s 0 ≡ refused r → messages_of t s ≡ []
  no_first_lem e = rw e

  -- the first, and those behind it
  pub first_on : {x : TlsFound} → found_at t s 0 ≡ accepted x → messages_of t s ≡ x ∷ messages_behind t s x.next
  first_on e = rw e

  pub all_left : is_single t ≡ false → messages_of t s ≡ left 0
  all_left f = go (found_at t s 0) refl
    where
      go : (a : Answer TlsFound) → found_at t s 0 ≡ a → messages_of t s ≡ left 0
      go (accepted x) e = first_on e ∙ ap (λ (xs : List TlsFound). x ∷ xs) (behind_left f x.next)
          ∙ sym (rest_on (by_messages f) 0 e)
      go (refused r) e = no_first_lem e ∙ sym (rest_end (by_messages f) 0 e)

  pub all_found : is_single t ≡ false → messages_of t s ≡ items_from (length s) (found_at t s) behind 0
  all_found f = all_left f ∙ fuel (by_messages f) (length s - 0) (length s) 0 (omega arith) (omega arith)

  -- where those behind one that ends at a place end, and how many they are
  pub behind_in : (at : ℕ) → at ≤ length s → (end_of behind (messages_behind t s at) at ≤ length s)
      × (at + length (messages_behind t s at) ≤ end_of behind (messages_behind t s at) at)
  unfolding end_of
  behind_in at h = go (is_single t) refl
    where
      go : (b : Bool) → is_single t ≡ b → (end_of behind (messages_behind t s at) at ≤ length s)
          × (at + length (messages_behind t s at) ≤ end_of behind (messages_behind t s at) at)
      go true y = rw (behind_none y at) (h, omega arith)
      go false f =
          let i = ends_in (takes_one t s f) (length s) at h in
          rw f (i.0, omega (arith, i.1))

  all_in : (end_of behind (messages_of t s) 0 ≤ length s) × (length (messages_of t s) ≤ 1 + length s)
  unfolding end_of
  all_in = go (found_at t s 0) refl
    where
      go : (a : Answer TlsFound) → found_at t s 0 ≡ a
          → (end_of behind (messages_of t s) 0 ≤ length s) × (length (messages_of t s) ≤ 1 + length s)
      go (accepted x) e =
          let i = behind_in x.next (found_in t s 0 e) in
          rw (first_on e) (i.0, omega (arith, i))
      go (refused r) e = rw (no_first_lem e) (omega arith, omega arith)

moved_on : (s : List ℕ) (w : TlsRecordWalk) {x : TlsFound} → met_by s w ≡ accepted x
    → moved s w ≡ record {
      record_type = w.record_type;
      body = x.body;
      next = x.next;
      ended = is_single w.record_type;
    }
unfolding moved
moved_on s w e = rw e

pub moved_not : (s : List ℕ) (w : TlsRecordWalk) {r : Refusal} → met_by s w ≡ refused r → moved s w ≡ w
unfolding moved
moved_not s w e = rw e

-- and where it has moved on
after_on : (s : List ℕ) (w : TlsRecordWalk) {x : TlsFound} → met_by s w ≡ accepted x
    → met_by s (moved s w)
    ≡ pick (is_single w.record_type) (refused (refusal NoSuch 0 0))
    (or_no_such (found_at w.record_type s x.next))
after_on s w e = ap (met_by s) (moved_on s w e)

-- a walk that meets nothing meets NoSuch
met_none : (s : List ℕ) (w : TlsRecordWalk) {r : Refusal} → met_by s w ≡ refused r → r ≡ refusal NoSuch 0 0
met_none s w {r} e = go w.ended refl
  where
    go : (b : Bool) → w.ended ≡ b → r ≡ refusal NoSuch 0 0
    go true y = let d : ◌≡◌ {A = Answer TlsFound} (refused (refusal NoSuch 0 0)) (refused r) = rw y at e in cc
    go false f = (none (found_at w.record_type s w.next) (rw f at e)).2

module _ (t : ℕ) (s : List ℕ) where
  -- its type stays
  same_type : (k : ℕ) → (walk_after k t s).record_type ≡ t
  unfolding walk_after
  same_type zero = refl
  same_type (suc k) = go (met_by s (walk_after k t s)) refl (same_type k)
    where
      go : (a : Answer TlsFound) → met_by s (walk_after k t s) ≡ a → (walk_after k t s).record_type ≡ t
          → (moved s (walk_after k t s)).record_type ≡ t
      go (accepted x) e ih = rw (moved_on s (walk_after k t s) e) ih
      go (refused r) e ih = rw (moved_not s (walk_after k t s) e) ih

  at_most_one : is_single t ≡ true → (k : ℕ) → length (messages_of t s) ≤ suc k
  at_most_one y k = go (found_at t s 0) refl
    where
      go : (a : Answer TlsFound) → found_at t s 0 ≡ a → length (messages_of t s) ≤ suc k
      go (accepted x) e = rw (first_on t s e, behind_none t s y x.next) (omega arith)
      go (refused r) e = rw (no_first_lem t s e) (omega arith)

  -- it meets the message at its place
  stands : (k : ℕ) → met_by s (walk_after k t s) ≡ place k (messages_of t s)
  unfolding walk_after place
  stands zero = go (found_at t s 0) refl
    where
      go : (a : Answer TlsFound) → found_at t s 0 ≡ a → met_by s (fresh_walk t) ≡ place 0 (messages_of t s)
      go (accepted x) e = rw e
      go (refused r) e = rw e
  stands (suc k) = go (met_by s (walk_after k t s)) refl (is_single t) refl (stands k)
    where
      go : (a : Answer TlsFound) → met_by s (walk_after k t s) ≡ a → (b : Bool) → is_single t ≡ b
          → met_by s (walk_after k t s) ≡ place k (messages_of t s)
          → met_by s (moved s (walk_after k t s)) ≡ place (suc k) (messages_of t s)
      go (accepted x) e true y ih =
          let q : met_by s (moved s (walk_after k t s)) ≡ refused (refusal NoSuch 0 0) =
          after_on s (walk_after k t s) e ∙ rw (same_type k, y) in
          q ∙ sym (place_past (suc k) (messages_of t s) (at_most_one y k))
      go (accepted x) e false f ih =
          let p : place k (left t s 0) ≡ accepted x = ap (place k) (sym (all_left t s f)) ∙ sym ih ∙ e in
          let q : met_by s (moved s (walk_after k t s)) ≡ or_no_such (found_at t s x.next) =
          after_on s (walk_after k t s) e ∙ rw (same_type k, f) in
          q ∙ sym (ap (place (suc k)) (all_left t s f) ∙ go_on (by_messages t s f) k 0 p)
      go (refused r) e b q ih =
          let z = met_none s (walk_after k t s) e in
          ap (met_by s) (moved_not s (walk_after k t s) e)
          ∙ e ∙ ap refused z ∙ sym (none_after k (messages_of t s) (sym ih ∙ e))

  meets : (k : ℕ) → next_message s (walk_after k t s) ≡ giving (λ x. x.message) (place k (messages_of t s))
  unfolding next_message
  meets k = rw (stands k)

  tells : (k : ℕ) (x : TlsFound) → place k (messages_of t s) ≡ accepted x
      → walk_after (suc k) t s ≡ record { record_type = t; body = x.body; next = x.next; ended = is_single t }
  unfolding walk_after
  tells k x e = moved_on s (walk_after k t s) (stands k ∙ e) ∙ rw (same_type k)

  one_alone : is_single t ≡ true → (x : TlsFound) → found_at t s 0 ≡ accepted x
      → (messages_of t s ≡ x ∷ []) × (x.next ≡ length s)
  one_alone y x e =
      (first_on t s e ∙ ap (λ (xs : List TlsFound). x ∷ xs) (behind_none t s y x.next), takes_all t s 0 y e)

stays : (s : List ℕ) (w : TlsRecordWalk) (r : Refusal) → next_message s w ≡ refused r → (r ≡ refusal NoSuch 0 0)
    × (moved s w ≡ w)
unfolding next_message
stays s w r e = go (then_refused (met_by s w) (λ x. accepted x.message) e)
  where
    go : (met_by s w ≡ refused r) ⊎
        ((x : TlsFound) × (met_by s w ≡ accepted x) × (◌≡◌ {A = Answer TlsMessage} (accepted x.message) (refused r)))
        → (r ≡ refusal NoSuch 0 0) × (moved s w ≡ w)
    go (inl y) = (met_none s w y, moved_not s w y)
    go (inr (x, y, z)) = absurd (not_both refl z)

pub every_content : (t : ℕ) (s : List ℕ) → ContentWalking t s
every_content t s = record {
  all = all_found t s;
  stopping = λ f. stops_by (takes_one t s f);
  one = one_alone t s;
  no_first = λ r e. no_first_lem t s e;
  whole = omega (arith, (all_in t s).0);
  steps = (all_in t s).1;
  meets = meets t s;
  tells = tells t s;
  stays = stays s;
}
