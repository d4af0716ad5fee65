-- What is said of a message by its kind, each once: where its reader leaves bytes of the body over
-- (RULES 5.3: they are dropped, and it is told where they begin), its number and type (RULES 5.4),
-- and whether it is written (RULES 0.5, 7.1); and the answer of a reader of messages.
use Rattle.std.specs.Prelude.{◌+◌}
use Rattle.refusal.specs.{ℕ, Option, none, some, eqb, unplaced, Answer, refused, NotYetImplemented}
use Rattle.registry.specs.Types.{hello_request_type, client_hello_type, server_hello_type, new_session_ticket_type, end_of_early_data_type, hello_retry_request_type, certificate_type, server_key_exchange_type, certificate_request_type, server_done_type, certificate_verify_type, client_key_exchange_type, finished_type, certificate_status_type, next_protocol_type, key_update_type}
use Rattle.registry.specs.Versions.{tls13_draft18}
use Rattle.wire.specs.{pick, View}
use Rattle.read_client.specs.{TlsClientHelloContents}
use Rattle.read_server.specs.{TlsServerHelloContents, TlsServerHelloV13Draft18Contents}
use Rattle.message.specs.declared.{handshake.TlsMessageHandshake.TlsMessageHandshake, keyexchange.TlsClientKeyExchangeContents.TlsClientKeyExchangeContents}
use Rattle.message.specs.declared.handshake.TlsMessageHandshake.TheVariants.{HelloRequest, ClientHello, ServerHello, ServerHelloV13Draft18, NewSessionTicket, EndOfEarlyData, HelloRetryRequest, Certificate, ServerKeyExchange, CertificateRequest, ServerDone, CertificateVerify, ClientKeyExchange, Finished, CertificateStatus, NextProtocol, KeyUpdate}
use Rattle.message.specs.declared.keyexchange.TlsClientKeyExchangeContents.TheVariants.{Dh, Ecdh, Unknown}

abbrev pub past_view : View → ℕ
past_view v = v.start + v.len

abbrev pub exchange_tail : TlsClientKeyExchangeContents → ℕ
exchange_tail (Dh v) = past_view v
exchange_tail (Ecdh v) = past_view v
exchange_tail (Unknown v) = past_view v

abbrev pub tail_of : TlsMessageHandshake → ℕ
tail_of HelloRequest = 0
tail_of (ClientHello c) = c.tail
tail_of (ServerHello c) = c.tail
tail_of (ServerHelloV13Draft18 c) = c.tail
tail_of (NewSessionTicket c) = c.tail
tail_of EndOfEarlyData = 0
tail_of (HelloRetryRequest c) = c.tail
tail_of (Certificate c) = c.tail
tail_of (ServerKeyExchange c) = past_view c.parameters
tail_of (CertificateRequest c) = c.tail
tail_of (ServerDone v) = past_view v
tail_of (CertificateVerify v) = past_view v
tail_of (ClientKeyExchange k) = exchange_tail k
tail_of (Finished v) = past_view v
tail_of (CertificateStatus c) = c.tail
tail_of (NextProtocol c) = c.tail
tail_of (KeyUpdate n) = 1

-- the numbers of the three key exchanges, by which they are told and heard
abbrev pub raw_exchange : ℕ
raw_exchange = 0

abbrev pub dh_exchange : ℕ
dh_exchange = 1

abbrev pub ecdh_exchange : ℕ
ecdh_exchange = 2

-- the number of a kind, by which it is told and heard: its type, and of a ServerHello of draft 18
-- its version
abbrev pub kind_number : TlsMessageHandshake → ℕ
kind_number HelloRequest = hello_request_type
kind_number (ClientHello c) = client_hello_type
kind_number (ServerHello c) = server_hello_type
kind_number (ServerHelloV13Draft18 c) = tls13_draft18
kind_number (NewSessionTicket c) = new_session_ticket_type
kind_number EndOfEarlyData = end_of_early_data_type
kind_number (HelloRetryRequest c) = hello_retry_request_type
kind_number (Certificate c) = certificate_type
kind_number (ServerKeyExchange c) = server_key_exchange_type
kind_number (CertificateRequest c) = certificate_request_type
kind_number (ServerDone v) = server_done_type
kind_number (CertificateVerify v) = certificate_verify_type
kind_number (ClientKeyExchange k) = client_key_exchange_type
kind_number (Finished v) = finished_type
kind_number (CertificateStatus c) = certificate_status_type
kind_number (NextProtocol c) = next_protocol_type
kind_number (KeyUpdate n) = key_update_type

-- the type of a message of a kind: a ServerHello of draft 18 has the ServerHello's (RFC 5246 7.4)
abbrev pub type_of : TlsMessageHandshake → ℕ
type_of m = pick (eqb (kind_number m) tls13_draft18) server_hello_type (kind_number m)

-- what a message that is written is written of
pub data WrittenBody : Type 0 where
  no_body : WrittenBody
  client_body : TlsClientHelloContents → WrittenBody
  server_body : TlsServerHelloContents → WrittenBody
  draft18_body : TlsServerHelloV13Draft18Contents → WrittenBody
  exchange_body : TlsClientKeyExchangeContents → WrittenBody
  finished_body : View → WrittenBody

-- the kinds that are written, and no others (RULES 7.1)
abbrev pub body_written : TlsMessageHandshake → Option WrittenBody
body_written HelloRequest = some no_body
body_written (ClientHello c) = some (client_body c)
body_written (ServerHello c) = some (server_body c)
body_written (ServerHelloV13Draft18 c) = some (draft18_body c)
body_written (NewSessionTicket c) = none
body_written EndOfEarlyData = none
body_written (HelloRetryRequest c) = none
body_written (Certificate c) = none
body_written (ServerKeyExchange c) = none
body_written (CertificateRequest c) = none
body_written (ServerDone v) = none
body_written (CertificateVerify v) = none
body_written (ClientKeyExchange k) = some (exchange_body k)
body_written (Finished v) = some (finished_body v)
body_written (CertificateStatus c) = none
body_written (NextProtocol c) = none
body_written (KeyUpdate n) = none

-- NotYetImplemented, where a kind is not written (RULES 1.1, 7.1)
abbrev pub not_written_of : {A : Type 0} → Answer A
not_written_of = refused (unplaced NotYetImplemented)
