-- The walk over a record's messages: that of `list/proofs/Walk.antt`, a message being what is found
-- at a place. Assumes nothing.
use Prim.Native.Nat.{ℕ, zero, suc, ◌+◌, ◌*◌, ◌<◌, ◌≤◌}
use mathlib.Core.Path.{◌≡◌, refl, sym, ◌∙◌}
use mathlib.Core.Logic.{◌⊎◌, inl, inr}
use mathlib.Core.List.{List}
use native.Mathlib.Omega.{arith}
use lib.ListN.{length}
use Rattle.refusal.specs.Answers.{Answer, accepted, refused, then, giving, within}
use Rattle.refusal.specs.Refusals.{refusal}
use Rattle.refusal.specs.declared.Reason.TheVariants.{NoSuch}
use Rattle.refusal.specs.declared.Refusal.{Refusal}
use Rattle.refusal.proofs.Then.{not_both, then_refused}
use Rattle.list.specs.Items.{items_from, place, or_no_such}
use Rattle.list.specs.Stopping.{end_of, Takes}
use Rattle.list.proofs.Stepping.{all_from}
use Rattle.list.proofs.Stopping.{moves_by, ends_in, stops_by}
use Rattle.list.proofs.Walk.{Moves, rest, first, go_on, got, none, none_after, place_past}
use Rattle.message.specs.declared.handshake.TlsMessageHandshake.{TlsMessageHandshake}
use Rattle.envelope.specs.Opening.{Met, met_at, head_at, by_type}
use Rattle.wire.specs.Parts.{part_of}
use Rattle.envelope.specs.declared.TlsMessageHead.{TlsMessageHead}
use Rattle.envelope.proofs.Heads.{met_lies, met_no_head, met_no_body, met_got}
use Rattle.record_walk.specs.Walks.{messages, past_all, dropped, next_message, moved}
use Rattle.record_walk.specs.Walks.{walk_after}
use Rattle.record_walk.specs.Walking.{bytes_of_all, Walking}
use Rattle.record_walk.specs.declared.TlsHandshakeWalk.{TlsHandshakeWalk}

-- a message by its head and then its body
abbrev by_head : List ℕ → Answer TlsMessageHead → Answer Met
by_head s a = then a (λ h. giving (λ m. record { head = h; says = m }) (within h.body.start (by_type h.msg_type (part_of s h.body))))

module _ (s : List ℕ) (at : ℕ) where
  pub met_is : met_at s at ≡ by_head s (head_at s at)
  met_is = go (head_at s at) refl
    where
      body : {h : TlsMessageHead} → head_at s at ≡ accepted h → (b : Answer TlsMessageHandshake)
          → by_type h.msg_type (part_of s h.body) ≡ b
          → met_at s at ≡ giving (λ m. record { head = h; says = m }) (within h.body.start b)
      body e (accepted m) d = met_got s at e d
      body e (refused r) d = met_no_body s at e d

      go : (a : Answer TlsMessageHead) → head_at s at ≡ a → met_at s at ≡ by_head s a
      go (accepted h) e = body e (by_type h.msg_type (part_of s h.body)) refl
      go (refused r) e = met_no_head s at e

abbrev pub behind : Met → ℕ
behind x = x.head.next

-- what is left of the messages at a place
abbrev pub left : List ℕ → ℕ → List Met
left s at = rest (met_at s) behind (length s) at

-- a message takes four bytes at least
pub takes_messages : (s : List ℕ) → Takes (met_at s) behind 4 (length s)
takes_messages s = record {
  one = omega arith;
  on = λ at x e. let i = met_lies s at e in (omega (arith, i.next), i.inside);
}

pub by_messages : (s : List ℕ) → Moves (met_at s) behind (length s)
by_messages s = moves_by (takes_messages s)

-- where the messages from a place on end
module _ (s : List ℕ) where
  past_bytes : (n at : ℕ)
      → past_all (items_from n (met_at s) behind at) at ≡ at + bytes_of_all (items_from n (met_at s) behind at)
  unfolding items_from end_of bytes_of_all
  past_bytes zero at = omega arith
  past_bytes (suc n) at = go (λ k. past_bytes n k) (met_at s at) refl
    where
      go : ((k : ℕ) → past_all (items_from n (met_at s) behind k) k ≡ k + bytes_of_all (items_from n (met_at s) behind k))
          → (a : Answer Met) → met_at s at ≡ a
          → past_all (items_from (suc n) (met_at s) behind at) at ≡ at + bytes_of_all
          (items_from (suc n) (met_at s) behind at)
      go ih (accepted x) e = let i = met_lies s at e in rw e (omega (arith, ih (behind x), i.next))
      go ih (refused r) e = rw e (omega arith)

pub past_inside : (s : List ℕ) → past_all (messages s) 0 ≤ length s
past_inside s = (ends_in (takes_messages s) (length s) 0 (omega arith)).0

-- the walk moved on, by what is met
moved_on : (s : List ℕ) (w : TlsHandshakeWalk) {x : Met} → met_at s w.next ≡ accepted x
    → moved s w ≡ record { body = x.head.body; next = behind x }
unfolding moved
moved_on s w e = rw e

moved_not : (s : List ℕ) (w : TlsHandshakeWalk) {r : Refusal} → met_at s w.next ≡ refused r → moved s w ≡ w
unfolding moved
moved_not s w e = rw e

module _ (s : List ℕ) where
  -- the walk after k calls stands where the message at the place k is met
  stands : (k : ℕ) → or_no_such (met_at s (walk_after k s).next) ≡ place k (messages s)
  unfolding walk_after
  stands zero = rw (all_from (by_messages s) 0) (sym (first (by_messages s) 0))
  stands (suc k) = go (met_at s (walk_after k s).next) refl (stands k)
    where
      go : (a : Answer Met) → met_at s (walk_after k s).next ≡ a
          → or_no_such (met_at s (walk_after k s).next) ≡ place k (messages s)
          → or_no_such (met_at s (moved s (walk_after k s)).next) ≡ place (suc k) (messages s)
      go (accepted x) e ih =
          let p : place k (left s 0) ≡ accepted x = rw (← (all_from (by_messages s) 0)) (sym ih ∙ rw e) in
          rw (moved_on s (walk_after k s) e, all_from (by_messages s) 0) (sym (go_on (by_messages s) k 0 p))
      go (refused r) e ih =
          let p : place k (messages s) ≡ refused (refusal NoSuch 0 0) = sym ih ∙ rw e in
          rw (moved_not s (walk_after k s) e, e) (sym (none_after k (messages s) p))

  meets : (k : ℕ) → next_message s (walk_after k s) ≡ giving (λ x. x.says) (place k (messages s))
  unfolding next_message
  meets k = rw (stands k)

  tells : (k : ℕ) (x : Met) → place k (messages s) ≡ accepted x
      → walk_after (suc k) s ≡ record { body = x.head.body; next = behind x }
  unfolding walk_after
  tells k x e = moved_on s (walk_after k s) (got (met_at s (walk_after k s).next) (stands k ∙ e))

  stays : (w : TlsHandshakeWalk) (r : Refusal) → next_message s w ≡ refused r → (r ≡ refusal NoSuch 0 0)
      × (moved s w ≡ w)
  unfolding next_message
  stays w r e = go (then_refused (or_no_such (met_at s w.next)) (λ x. accepted x.says) e)
    where
      go : (or_no_such (met_at s w.next) ≡ refused r) ⊎
          ((x : Met) × (or_no_such (met_at s w.next) ≡ accepted x)
          × (◌≡◌ {A = Answer TlsMessageHandshake} (accepted x.says) (refused r))) → (r ≡ refusal NoSuch 0 0)
          × (moved s w ≡ w)
      go (inl y) = let n = none (met_at s w.next) y in (n.2, moved_not s w n.1)
      go (inr (x, y, z)) = absurd (not_both refl z)

  whole : bytes_of_all (messages s) + dropped s ≡ length s
  whole = omega (arith, past_bytes s (length s) 0, past_inside s)

  steps : length (messages s) * 4 ≤ length s
  steps = (stops_by (takes_messages s)).steps

  ends : (k : ℕ) → length s < suc k * 4 → next_message s (walk_after k s) ≡ refused (refusal NoSuch 0 0)
  ends k h = meets k ∙ rw (place_past k (messages s) (omega (arith, h, steps)))

pub every_walk : (s : List ℕ) → Walking s
every_walk s =
    record {
      meets = meets s;
      tells = tells s;
      stays = stays s;
      whole = whole s;
      steps = steps s;
      none_more_of = (stops_by (takes_messages s)).none_more_of;
      ends = ends s;
    }
