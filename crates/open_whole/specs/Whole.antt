-- The bodies that are handed out whole, as messages: RULES 4.5, 4.6, 4.14; RFC 5246 7.4.3, 7.4.5,
-- 7.4.7 to 7.4.9.
use Rattle.refusal.specs.{ℕ, List, Answer, giving}
use Rattle.wire.specs.{View}
use Rattle.field.specs.{fixed, step}
use Rattle.message.specs.{TlsMessageHandshake}

-- the first n bytes, as a message
unfoldable pub whole_body : (View → TlsMessageHandshake) → ℕ → List ℕ → Answer TlsMessageHandshake
whole_body make n s = giving (λ p. make p.view) (step (fixed n) s 0)
