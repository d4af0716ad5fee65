-- The ServerHello as a message, of draft 18 or not: RULES 3.6; RFC 5246 7.4.1.3,
-- draft-ietf-tls-tls13-18 4.1.3.
use Rattle.std.specs.Prelude.{◌≤◌, ◌≡◌}
use Rattle.refusal.specs.{ℕ, List, length, eqb, refusal, Answer, refused, then, giving, Tag}
use Rattle.wire.specs.{pick, be, number_at}
use Rattle.registry.specs.Versions.{tls13_draft18}
use Rattle.grammar.specs.{reading, by_version}
use Rattle.read_server.specs.{server_versions, draft18}
use Rattle.message.specs.{TlsMessageHandshake, ServerHello, ServerHelloV13Draft18}

-- RULES 3.6: this reader opens draft 18; `parse_tls_handshake_server_hello` refuses it with Tag
unfoldable pub server_message : List ℕ → Answer TlsMessageHandshake
server_message s =
    then (number_at 2 s 0) (λ v.
    pick (eqb v.value tls13_draft18)
    (giving ServerHelloV13Draft18 (reading draft18 s))
    (giving ServerHello (by_version server_versions s)))

abbrev pub IsDraft18 : List ℕ → Type 0
IsDraft18 body = (2 ≤ length body) × (be 2 body 0 ≡ tls13_draft18)

-- demand 3, its reading half: which of the two ServerHellos a body is opened as;
-- `grammar/specs/Demand3.antt` says of each form what holds of it. Shown by `proofs/Opened.antt`
pub record AsMessage (body : List ℕ) : Type 0 where
  -- one of version 0x7f12 as a draft 18 hello, which is refused with Tag as a ServerHello
  pub draft18_hello : IsDraft18 body → (server_message body ≡ giving ServerHelloV13Draft18 (reading draft18 body)) × (by_version server_versions body ≡ refused (refusal Tag 0 0))
  -- every other as a ServerHello
  pub server_hello : (IsDraft18 body → ⊥) → server_message body ≡ giving ServerHello (by_version server_versions body)
