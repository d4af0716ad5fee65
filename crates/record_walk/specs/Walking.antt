-- What is shown of the walk over every content: RULES 6.6 to 6.8. Shown by `proofs/Walking.antt`.
use Rattle.std.specs.Prelude.{◌+◌, ◌*◌, ◌<◌, ◌≤◌, ◌≡◌, ◌∷◌}
use Rattle.refusal.specs.{ℕ, suc, List, [], length, refusal, accepted, refused, NoSuch, Refusal, giving}
use Rattle.list.specs.{items_from, place}
use Rattle.envelope.specs.{Met, met_at}
use Rattle.record_walk.specs.Walks.{messages, dropped, next_message, moved, walk_after}
use Rattle.record_walk.specs.declared.TlsHandshakeWalk.{TlsHandshakeWalk}

-- the bytes of messages: the head's four and the body's
unfoldable pub bytes_of_all : List Met → ℕ
bytes_of_all [] = 0
bytes_of_all (x ∷ xs) = 4 + x.head.body.len + bytes_of_all xs

pub record Walking (content : List ℕ) : Type 0 where
  -- each call hands back the message at its place, and past the last one NoSuch
  pub meets : (k : ℕ) → next_message content (walk_after k content) ≡ giving (λ x. x.says) (place k (messages content))
  -- and the walk moved on tells where that message's body lies and where the next begins
  pub tells : (k : ℕ) (x : Met) → place k (messages content) ≡ accepted x → walk_after (suc k) content ≡ record { body = x.head.body; next = x.head.next }
  -- a walk that hands back no message says NoSuch and stays
  pub stays : (w : TlsHandshakeWalk) (r : Refusal) → next_message content w ≡ refused r → (r ≡ refusal NoSuch 0 0) × (moved content w ≡ w)
  -- steps in proportion: each byte is one message's or is dropped, and each message has four at
  -- least
  pub whole : bytes_of_all (messages content) + dropped content ≡ length content
  pub steps : length (messages content) * 4 ≤ length content
  -- the bound never ends them: by a larger one no more are found
  pub none_more_of : (n : ℕ) → length content ≤ n → items_from n (met_at content) (λ x. x.head.next) 0 ≡ messages content
  -- so that a walk over n bytes is at its end after n / 4 calls
  pub ends : (k : ℕ) → length content < suc k * 4 → next_message content (walk_after k content) ≡ refused (refusal NoSuch 0 0)
