-- The head of a message, what its type opens, and the message: RULES 5.1 to 5.5, RFC 5246 7.4.
-- Length and body are had before the type is looked at.
use Rattle.std.specs.Prelude.{◌∷◌}
use Rattle.refusal.specs.{ℕ, List, [], length, refusal, unplaced, Answer, accepted, refused, then, giving, within, Switch}
use Rattle.registry.specs.Types.{hello_request_type, client_hello_type, server_hello_type, new_session_ticket_type, end_of_early_data_type, hello_retry_request_type, certificate_type, server_key_exchange_type, certificate_request_type, server_done_type, certificate_verify_type, client_key_exchange_type, finished_type, certificate_status_type, key_update_type, next_protocol_type}
use Rattle.wire.specs.{part_of, lookup, if_some, number_at}
use Rattle.field.specs.{step, sized}
use Rattle.grammar.specs.{reading}
use Rattle.read_client.specs.{client}
use Rattle.read_certs.specs.{certificate, certificate_request, status}
use Rattle.read_others.specs.Body.{retry, session_ticket, next_protocol}
use Rattle.message.specs.{TlsMessageHandshake, HelloRequest, ClientHello, NewSessionTicket, EndOfEarlyData, HelloRetryRequest, Certificate, ServerKeyExchange, CertificateRequest, ServerDone, CertificateVerify, ClientKeyExchange, Finished, CertificateStatus, NextProtocol, KeyUpdate, Unknown}
use Rattle.open_hellos.specs.HelloMessages.{server_message}
use Rattle.open_whole.specs.Whole.{whole_body}
use Rattle.envelope.specs.declared.{TlsMessageHead.TlsMessageHead}

-- RULES 5.1: the head of the message that begins at a place
unfoldable pub head_at : List ℕ → ℕ → Answer TlsMessageHead
head_at s at = then (number_at 1 s at) (λ t. giving (λ b. record { msg_type = t.value; body = b.view; next = b.next }) (step (sized 3) s t.next))

-- RULES 5.4: what a body is opened as by each type that is listed, n its length where that is
-- handed over
abbrev pub openings : ℕ → List ℕ → List (ℕ × Answer TlsMessageHandshake)
openings n s =
    (hello_request_type, accepted HelloRequest)
    ∷ (client_hello_type, giving ClientHello (reading client s))
    ∷ (server_hello_type, server_message s)
    ∷ (new_session_ticket_type, giving NewSessionTicket (session_ticket n s))
    ∷ (end_of_early_data_type, accepted EndOfEarlyData)
    ∷ (hello_retry_request_type, giving HelloRetryRequest (reading retry s))
    ∷ (certificate_type, giving Certificate (reading certificate s))
    ∷ (server_key_exchange_type, whole_body (λ v. ServerKeyExchange (record { parameters = v })) n s)
    ∷ (certificate_request_type, giving CertificateRequest (certificate_request s))
    ∷ (server_done_type, whole_body ServerDone n s)
    ∷ (certificate_verify_type, whole_body CertificateVerify n s)
    ∷ (client_key_exchange_type, whole_body (λ v. ClientKeyExchange (Unknown v)) n s)
    ∷ (finished_type, whole_body Finished n s)
    ∷ (certificate_status_type, giving CertificateStatus (reading status s))
    ∷ (key_update_type, giving (λ u. KeyUpdate u.value) (number_at 1 s 0))
    ∷ (next_protocol_type, giving NextProtocol (reading next_protocol s))
    ∷ []

-- a body opened by its type k, n the length that is handed over besides the bytes. RULES 5.5: every
-- other type is Switch
unfoldable pub opened : ℕ → ℕ → List ℕ → Answer TlsMessageHandshake
opened k n s = if_some (lookup k (openings n s)) (λ a. a) (refused (unplaced Switch))

-- the same where the length is that of the bytes
unfoldable pub by_type : ℕ → List ℕ → Answer TlsMessageHandshake
by_type k s = opened k (length s) s

-- the same in a message whose type stands at a place, the body beginning at another: Switch is
-- given where the type stands
unfoldable pub by_type_in : ℕ → ℕ → ℕ → List ℕ → Answer TlsMessageHandshake
by_type_in at from k s = if_some (lookup k (openings (length s) s)) (within from) (refused (refusal Switch at 0))

-- a message that was met: its head, and what it says
pub record Met : Type 0 where
  pub head : TlsMessageHead
  pub says : TlsMessageHandshake

-- the message that begins at a place: its head, whose places are places of s, and what its type
-- opens its body as, whose places count from the body's first byte
unfoldable pub met_at : List ℕ → ℕ → Answer Met
met_at s at = then (head_at s at) (λ h. giving (λ m. record { head = h; says = m }) (by_type_in at h.body.start h.msg_type (part_of s h.body)))

-- the message at the front: its places count from the body's first byte, which is byte 4 of s
unfoldable pub message : List ℕ → Answer TlsMessageHandshake
message s = giving (λ x. x.says) (met_at s 0)
