-- The messages of a handshake record's content, and the walk over them: RULES 6.6 to 6.8; RFC 5246
-- 6.2.1.
use Rattle.std.specs.Prelude.{◌≡◌}
use Rattle.refusal.specs.{ℕ, zero, suc, List, length, Answer, accepted, refused, giving}
use Rattle.list.specs.{items_from, or_no_such, end_of, left_over_of}
use Rattle.message.specs.{TlsMessageHandshake}
use Rattle.envelope.specs.{Met, by_type, met_at, TlsMessageHead}
use Rattle.record_walk.specs.declared.TlsHandshakeWalk.{TlsHandshakeWalk}

-- from a place on, until one is refused: each takes four bytes at least
abbrev pub messages_from : List ℕ → ℕ → List Met
messages_from s at = items_from (length s) (met_at s) (λ x. x.head.next) at

abbrev pub messages : List ℕ → List Met
messages s = messages_from s 0

-- the place past all of them, the first beginning at a place
abbrev pub past_all : List Met → ℕ → ℕ
past_all xs at = end_of (λ x. x.head.next) xs at

abbrev pub dropped : List ℕ → ℕ
dropped s = left_over_of (λ x. x.head.next) (messages s) (length s)

-- the head of the message that is met at a place
unfoldable pub met_head : List ℕ → ℕ → Answer TlsMessageHead
met_head s at = giving (λ x. x.head) (met_at s at)

-- and where it ends
abbrev pub past_met : List ℕ → ℕ → Answer ℕ
past_met s at = giving (λ x. x.head.next) (met_at s at)

-- a body of this type is opened whatever it holds
abbrev pub OpensAny : ℕ → Type 0
OpensAny msgType = (s : List ℕ) → (m : TlsMessageHandshake) × (by_type msgType s ≡ accepted m)

-- the walk before the first message
abbrev pub fresh_walk : TlsHandshakeWalk
fresh_walk = record { body = record { start = 0; len = 0 }; next = 0 }

-- the message that a walk hands back
unfoldable pub next_message : List ℕ → TlsHandshakeWalk → Answer TlsMessageHandshake
next_message s w = giving (λ x. x.says) (or_no_such (met_at s w.next))

abbrev pub on_to : TlsHandshakeWalk → Answer Met → TlsHandshakeWalk
on_to w (accepted x) = record { body = x.head.body; next = x.head.next }
on_to w (refused r) = w

-- and the walk moved on
unfoldable pub moved : List ℕ → TlsHandshakeWalk → TlsHandshakeWalk
moved s w = on_to w (met_at s w.next)

-- the walk after so many calls
unfoldable pub walk_after : ℕ → List ℕ → TlsHandshakeWalk
walk_after zero s = fresh_walk
walk_after (suc k) s = moved s (walk_after k s)
