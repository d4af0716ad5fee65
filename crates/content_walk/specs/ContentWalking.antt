-- What is shown of the messages of every content, and of the walk over them: RULES 6.4, 6.6 to 6.8.
-- Shown by `proofs/Walking.antt`.
use Rattle.std.specs.Prelude.{◌+◌, ◌≤◌, ◌≡◌, ◌∷◌}
use Rattle.refusal.specs.{ℕ, suc, List, [], true, false, length, refusal, accepted, refused, NoSuch, Refusal, giving}
use Rattle.list.specs.{items_from, place, end_of, Stops}
use Rattle.content_walk.specs.ContentWalks.{found_at, is_single, messages_of, dropped_of, next_message, moved, walk_after}
use Rattle.content_walk.specs.declared.{TlsFound.TlsFound, TlsRecordWalk.TlsRecordWalk}

pub record ContentWalking (t : ℕ) (content : List ℕ) : Type 0 where
  -- by a type that repeats, they are all that the stopping rule finds, and its laws hold
  pub all : is_single t ≡ false → messages_of t content ≡ items_from (length content) (found_at t content) (λ x. x.next) 0
  pub stopping : is_single t ≡ false → Stops (found_at t content) (λ x. x.next) 1 (length content)
  -- by one that does not, there is at most one, and it is the whole content
  pub one : is_single t ≡ true → (x : TlsFound) → found_at t content 0 ≡ accepted x → (messages_of t content ≡ x ∷ []) × (x.next ≡ length content)
  -- none where the first is refused
  pub no_first : (r : Refusal) → found_at t content 0 ≡ refused r → messages_of t content ≡ []
  -- each byte is one message's or is dropped
  pub whole : end_of (λ x. x.next) (messages_of t content) 0 + dropped_of t content ≡ length content
  -- no more messages than one and the bytes
  pub steps : length (messages_of t content) ≤ 1 + length content
  -- each call of the walk hands back the message at its place, and past the last one NoSuch
  pub meets : (k : ℕ) → next_message content (walk_after k t content) ≡ giving (λ x. x.message) (place k (messages_of t content))
  -- and the walk moved on tells where that message's body lies and where the next begins
  pub tells : (k : ℕ) (x : TlsFound) → place k (messages_of t content) ≡ accepted x
      → walk_after (suc k) t content ≡ record { record_type = t; body = x.body; next = x.next; ended = is_single t }
  -- a walk that hands back no message says NoSuch and stays
  pub stays : (w : TlsRecordWalk) (r : Refusal) → next_message content w ≡ refused r → (r ≡ refusal NoSuch 0 0) × (moved content w ≡ w)
