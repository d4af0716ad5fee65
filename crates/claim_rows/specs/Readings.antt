-- The eighteen rows of RULES 8 in one table, and readings of our own in a second one: strict
-- ClientHellos, a message of each type but 0x00, which row 13 has, a ServerHello of each version,
-- records of each type, joined ones, a ticket's length. Bytes are written by their number: `03
-- 000001` is `bytes_of 4 0x03_000001`.
use Rattle.std.specs.Prelude.{◌+◌, ◌≡◌, ◌∷◌, ◌++◌}
use Rattle.refusal.specs.{ℕ, List, [], Option, none, some, replicate, number_of, Answer, accepted, then, number_in, values_in, Reason, Incomplete, Complete, Verify, LengthValue, Tag, Switch, TooLarge, NoSuch}
use Rattle.wire.specs.{part_of, bytes_of, OptView, None, Some, View}
use Rattle.field.specs.{sized}
use Rattle.grammar.specs.{reading, by_version}
use Rattle.list.specs.{items, place, bytes_handed}
use Rattle.write_rules.specs.{hello_text, head_text, message_text}
use Rattle.read_client.specs.{client, strict_client, TlsClientHelloContents}
use Rattle.read_server.specs.{server_versions, TlsServerHelloContents}
use Rattle.read_certs.specs.{certificate, certificate_request, TlsCertificateRequestContents}
use Rattle.read_others.specs.Body.{session_ticket}
use Rattle.read_others.specs.declared.ticket.TlsNewSessionTicketContent.{TlsNewSessionTicketContent}
use Rattle.message.specs.{HelloRequest, ClientHello, ServerHello, ServerHelloV13Draft18, NewSessionTicket, EndOfEarlyData, HelloRetryRequest, Certificate, ServerKeyExchange, CertificateRequest, ServerDone, CertificateVerify, ClientKeyExchange, Finished, CertificateStatus, NextProtocol, KeyUpdate, Unknown}
use Rattle.envelope.specs.{message}
use Rattle.content.specs.{TlsMessage, Handshake, ChangeCipherSpec, Alert, ApplicationData, Heartbeat, change_cipher_spec_of, alert_first, heartbeat_of}
use Rattle.content_walk.specs.{messages_of}
use Rattle.record_open.specs.{plaintext, TlsPlaintext}
use Rattle.record_many.specs.{many}

-- a row: its number in RULES 8, 0 for one of our own; the function, the input, the number of the
-- answer and the values
pub record RulesRow : Type 1 where
  pub row : ℕ
  pub Value : Type 0
  pub call : List ℕ → Answer Value
  pub input : List ℕ
  pub number : ℕ
  pub values : Option Value

abbrev pub accept : {A : Type 0} → ℕ → (List ℕ → Answer A) → List ℕ → A → RulesRow
accept {A} n call s v = record { row = n; Value = A; call = call; input = s; number = 0; values = some v }

abbrev pub reject : {A : Type 0} → ℕ → (List ℕ → Answer A) → List ℕ → Reason → RulesRow
reject {A} n call s why = record { row = n; Value = A; call = call; input = s; number = number_of why; values = none }

-- a function is told by what its contract says: `reading client` is
-- `parse_tls_handshake_client_hello`, `strict_client` is `parse_tls_handshake_client_hello_strict`,
-- `by_version server_versions`, `certificate_request` and `session_ticket n`, n being the length
-- given, are those of their bodies, `message` is `parse_tls_message_handshake`,
-- `change_cipher_spec_of`, `alert_first` and `heartbeat_of` are those of these messages,
-- `plaintext` is `parse_tls_plaintext`, `many` is `tls_parser_many`; and this one hands what is
-- read as a ClientHello to `gen_tls_clienthello`
abbrev pub written_back : List ℕ → Answer (List ℕ)
written_back s = then (reading client s) (λ c. message_text (head_text 0x01) (hello_text client s c))

-- the bytes of each certificate, and of each name of a CertificateRequest: items behind lengths of
-- w bytes
abbrev pub item_bytes : ℕ → List ℕ → List (List ℕ)
item_bytes w s = bytes_handed s (items (sized w) s)

abbrev pub certificates_in : List ℕ → Answer (List (List ℕ))
certificates_in s = then (reading certificate s) (λ c. accepted (item_bytes 3 (part_of s c.cert_chain)))

abbrev pub names_in : List ℕ → Answer (List (List ℕ))
names_in s = then (certificate_request s) (λ c. accepted (item_bytes 2 (part_of s c.unparsed_ca)))

-- the message at a place of a record: the walk over its content
abbrev pub message_at : ℕ → List ℕ → Answer TlsMessage
message_at k s = then (plaintext s) (λ p. then (place k (messages_of p.hdr.record_type (part_of s p.msg))) (λ x. accepted x.message))

-- `0303 Z` and what follows, Z being 32 zero bytes
abbrev pub from0303_z : List ℕ → List ℕ
from0303_z rest = bytes_of 2 0x0303 ++ (replicate 32 0 ++ rest)

-- H, `0303 Z 00 0000 00`, 38 bytes, and what follows
abbrev pub H : List ℕ → List ℕ
H rest = from0303_z (bytes_of 4 0x00_0000_00 ++ rest)

-- so many bytes from a place on
abbrev pub span : ℕ → ℕ → View
span start n = record { start = start; len = n }

-- what is handed out of H: all lists empty
abbrev pub all_empty : OptView → ℕ → TlsClientHelloContents
all_empty ext tail = record { version = 0x0303; random = span 2 32; session_id = None; ciphers = span 37 0; comp = span 38 0; ext = ext; tail = tail }

-- and of a CertificateRequest
abbrev pub request_of : View → OptView → View → ℕ → TlsCertificateRequestContents
request_of types pairs names tail = record { cert_types = types; sig_hash_algs = pairs; unparsed_ca = names; tail = tail }

-- the rows of RULES 8
unfoldable pub rows : List RulesRow
rows =
    reject 1 (reading client) [] Incomplete
    ∷ accept 2 (reading client) (H []) (all_empty None 38)
    ∷ reject 2 strict_client (H []) LengthValue
    ∷ accept 3 (reading client) (H (bytes_of 1 0x00)) (all_empty None 38)
    ∷ reject 3 strict_client (H (bytes_of 1 0x00)) LengthValue
    ∷ accept 4 (reading client) (H (bytes_of 2 0x0000)) (all_empty (Some (span 40 0)) 40)
    ∷ reject 4 strict_client (H (bytes_of 2 0x0000)) LengthValue
    ∷ accept 5 (reading client) (H (bytes_of 2 0x0001)) (all_empty None 38)
    ∷ reject 5 strict_client (H (bytes_of 2 0x0001)) LengthValue
    ∷ reject 6 (reading client) (from0303_z (bytes_of 1 0x21)) Verify
    ∷ reject 7 (reading client) (from0303_z (bytes_of 1 0x20 ++ replicate 31 0)) Incomplete
    ∷ reject 8 (reading client) (from0303_z (bytes_of 4 0x00_0001_00)) LengthValue
    ∷ reject 8 (reading client) (from0303_z (bytes_of 4 0x00_0002_00)) LengthValue
    ∷ reject 9 (reading client) (from0303_z (bytes_of 4 0x00_0000_01)) LengthValue
    ∷ reject 10 message (bytes_of 4 0x03_000000) Switch
    ∷ reject 10 message (bytes_of 4 0x03_000001) Incomplete
    ∷ reject 11 message (bytes_of 4 0x01_000000) Incomplete
    ∷ reject 11 plaintext (bytes_of 9 0x16_0301_0004_01_000000) Complete
    ∷ reject 12 plaintext (bytes_of 5 0x16_0301_4101) TooLarge
    ∷ reject 12 plaintext (bytes_of 5 0x16_0301_4100) Incomplete
    ∷ accept 13 plaintext (bytes_of 10 0x16_0303_0005_00000000_01) (record { hdr = record { record_type = 0x16; version = 0x0303; len = 5 }; msg = span 5 5; count = 1; dropped = 1; next = 10 })
    ∷ accept 13 (message_at 0) (bytes_of 10 0x16_0303_0005_00000000_01) (Handshake HelloRequest)
    ∷ reject 13 (message_at 1) (bytes_of 10 0x16_0303_0005_00000000_01) NoSuch
    ∷ reject 14 (by_version server_versions) (bytes_of 2 0x0304) Tag
    ∷ reject 14 (by_version server_versions) (bytes_of 1 0x03) Incomplete
    ∷ accept 15 written_back (H []) (bytes_of 4 0x01_000028 ++ H (bytes_of 2 0x0000))
    ∷ accept 16 certificates_in (bytes_of 8 0x000005_000001_aa_ff) (bytes_of 1 0xaa ∷ [])
    ∷ accept 17 certificate_request (bytes_of 5 0x00_0002_0000) (request_of (span 1 0) None (span 3 2) 5)
    ∷ accept 17 names_in (bytes_of 5 0x00_0002_0000) ([] ∷ [])
    ∷ accept 18 certificate_request (bytes_of 5 0x00_0000_0000) (request_of (span 1 0) (Some (span 3 0)) (span 5 0) 5)
    ∷ accept 18 certificate_request (bytes_of 3 0x00_0000) (request_of (span 1 0) None (span 3 0) 3)
    ∷ reject 18 certificate_request (bytes_of 2 0x00_00) Complete
    ∷ []

-- a ServerHello of a version: Z, no id, cipher 002f, method 00, and extensions of no bytes; and
-- what is handed out of it
abbrev pub S : ℕ → List ℕ
S version = bytes_of 2 version ++ (replicate 32 0 ++ bytes_of 6 0x00_002f_00_0000)

abbrev pub plain_server : ℕ → OptView → ℕ → TlsServerHelloContents
plain_server v ext tail = record { version = v; random = span 2 32; session_id = None; cipher = 0x002f; compression = 0x00; ext = ext; tail = tail }

-- what is handed out of a record of a type and version 0x0303, its content of n bytes
abbrev pub plain : ℕ → ℕ → ℕ → ℕ → TlsPlaintext
plain t n count dropped = record { hdr = record { record_type = t; version = 0x0303; len = n }; msg = span 5 n; count = count; dropped = dropped; next = 5 + n }

-- a heartbeat's record of a type, a payload of no bytes and n bytes of padding
abbrev pub beat : ℕ → ℕ → List ℕ
beat kind n = bytes_of 5 (0x18_0303_0000 + 3 + n) ++ (bytes_of 1 kind ++ (bytes_of 2 0x0000 ++ replicate n 0))

-- what is handed out of a ClientHello with one cipher and one method
abbrev pub one_each_of : OptView → ℕ → TlsClientHelloContents
one_each_of ext tail = record { version = 0x0303; random = span 2 32; session_id = None; ciphers = span 37 2; comp = span 40 1; ext = ext; tail = tail }

-- what is handed out of `00000000 0000`
abbrev pub empty_ticket : TlsNewSessionTicketContent
empty_ticket = record { ticket_lifetime_hint = 0; ticket = span 6 0; tail = 6 }

-- our own: an id of exactly 32, strict hellos, and each version; each type, its parts of lengths
-- that differ; each record type, and joined records; a ticket's length at its edges
unfoldable pub own_rows : List RulesRow
own_rows =
    accept 0 (reading client) (from0303_z (bytes_of 1 0x20 ++ (replicate 32 0 ++ bytes_of 8 0x0004_002f_0035_01_00)))
    (record { version = 0x0303; random = span 2 32; session_id = Some (span 35 32); ciphers = span 69 4; comp = span 74 1; ext = None; tail = 75 })
    ∷ reject 0 strict_client (from0303_z (bytes_of 3 0x00_0000)) Incomplete
    ∷ reject 0 strict_client (from0303_z (bytes_of 6 0x00_0002_002f_00)) LengthValue
    ∷ accept 0 strict_client (from0303_z (bytes_of 7 0x00_0002_002f_01_00)) (one_each_of None 41)
    ∷ reject 0 strict_client (from0303_z (bytes_of 8 0x00_0002_002f_01_00_00)) LengthValue
    ∷ accept 0 strict_client (from0303_z (bytes_of 9 0x00_0002_002f_01_00_0000)) (one_each_of (Some (span 43 0)) 43)
    ∷ reject 0 strict_client (from0303_z (bytes_of 9 0x00_0002_002f_01_00_0001)) LengthValue
    ∷ reject 0 (by_version server_versions) (S 0x02ff) Tag
    ∷ accept 0 (by_version server_versions) (S 0x0300) (plain_server 0x0300 None 38)
    ∷ accept 0 (by_version server_versions) (S 0x0301) (plain_server 0x0301 (Some (span 40 0)) 40)
    ∷ accept 0 (by_version server_versions) (S 0x0302) (plain_server 0x0302 (Some (span 40 0)) 40)
    ∷ accept 0 (by_version server_versions) (S 0x0303) (plain_server 0x0303 (Some (span 40 0)) 40)
    ∷ reject 0 (by_version server_versions) (S 0x7f12) Tag
    ∷ accept 0 message (bytes_of 4 0x01_000026 ++ H []) (ClientHello (all_empty None 38))
    ∷ accept 0 message (bytes_of 4 0x02_000028 ++ S 0x0303) (ServerHello (plain_server 0x0303 (Some (span 40 0)) 40))
    ∷ accept 0 message (bytes_of 6 0x02_000026_7f12 ++ (replicate 32 0 ++ bytes_of 4 0x1301_0000))
    (ServerHelloV13Draft18 (record { version = 0x7f12; random = span 2 32; cipher = 0x1301; ext = Some (span 38 0); tail = 38 }))
    ∷ accept 0 message (bytes_of 12 0x04_000008_01020304_0002_aabb) (NewSessionTicket (record { ticket_lifetime_hint = 0x01020304; ticket = span 6 2; tail = 8 }))
    ∷ reject 0 message (bytes_of 7 0x04_000003_010203) Verify
    ∷ accept 0 message (bytes_of 5 0x05_000001_ff) EndOfEarlyData
    ∷ accept 0 message (bytes_of 11 0x06_000007_7f12_1301_0001_aa) (HelloRetryRequest (record { version = 0x7f12; cipher = 0x1301; ext = Some (span 6 1); tail = 7 }))
    ∷ accept 0 message (bytes_of 11 0x0b_000007_000004_000001_aa) (Certificate (record { cert_chain = span 3 4; tail = 7 }))
    ∷ accept 0 message (bytes_of 5 0x0c_000001_aa) (ServerKeyExchange (record { parameters = span 0 1 }))
    ∷ accept 0 message (bytes_of 15 0x0d_00000b_01_40_0002_0403_0003_0001_aa) (CertificateRequest (request_of (span 1 1) (Some (span 4 2)) (span 8 3) 11))
    ∷ accept 0 message (bytes_of 4 0x0e_000000) (ServerDone (span 0 0))
    ∷ accept 0 message (bytes_of 6 0x0f_000002_aabb) (CertificateVerify (span 0 2))
    ∷ accept 0 message (bytes_of 7 0x10_000003_02_aabb) (ClientKeyExchange (Unknown (span 0 3)))
    ∷ accept 0 message (bytes_of 5 0x14_000001_aa) (Finished (span 0 1))
    ∷ accept 0 message (bytes_of 9 0x16_000005_01_000001_aa) (CertificateStatus (record { status_type = 1; blob = span 4 1; tail = 5 }))
    ∷ accept 0 message (bytes_of 5 0x18_000001_01) (KeyUpdate 1)
    ∷ accept 0 message (bytes_of 9 0x43_000005_01_aa_02_bbcc) (NextProtocol (record { selected_protocol = span 1 1; padding = span 3 2; tail = 5 }))
    ∷ reject 0 message (bytes_of 4 0x08_000000) Switch
    ∷ reject 0 message (bytes_of 4 0x15_000000) Switch
    ∷ reject 0 plaintext (bytes_of 6 0x13_0303_0001_01) Switch
    ∷ accept 0 plaintext (bytes_of 6 0x14_0303_0001_01) (plain 0x14 1 1 0)
    ∷ accept 0 plaintext (bytes_of 7 0x14_0303_0002_0102) (plain 0x14 2 1 1)
    ∷ accept 0 (message_at 0) (bytes_of 7 0x14_0303_0002_0102) ChangeCipherSpec
    ∷ reject 0 (message_at 1) (bytes_of 7 0x14_0303_0002_0102) NoSuch
    ∷ reject 0 plaintext (bytes_of 5 0x14_0303_0000) Complete
    ∷ reject 0 plaintext (bytes_of 6 0x14_0303_0001_02) LengthValue
    ∷ reject 0 change_cipher_spec_of [] Incomplete
    ∷ reject 0 plaintext (bytes_of 6 0x15_0303_0001_00) LengthValue
    ∷ reject 0 plaintext (bytes_of 6 0x15_0303_0001_01) Complete
    ∷ accept 0 plaintext (bytes_of 7 0x15_0303_0002_0228) (plain 0x15 2 1 0)
    ∷ accept 0 (message_at 0) (bytes_of 7 0x15_0303_0002_0228) (Alert (record { severity = 2; code = 0x28 }))
    ∷ accept 0 plaintext (bytes_of 9 0x15_0303_0004_0100_0300) (plain 0x15 4 1 2)
    ∷ accept 0 (message_at 1) (bytes_of 9 0x15_0303_0004_0100_0228) (Alert (record { severity = 2; code = 0x28 }))
    ∷ reject 0 alert_first (bytes_of 1 0x01) Incomplete
    ∷ reject 0 plaintext (bytes_of 6 0x16_0303_0001_01) Complete
    ∷ accept 0 plaintext (bytes_of 5 0x17_0303_0000) (plain 0x17 0 1 0)
    ∷ accept 0 (message_at 0) (bytes_of 6 0x17_0303_0001_01) (ApplicationData (record { blob = span 0 1 }))
    ∷ reject 0 (message_at 1) (bytes_of 6 0x17_0303_0001_01) NoSuch
    ∷ reject 0 plaintext (bytes_of 7 0x18_0303_0002_0300) Incomplete
    ∷ accept 0 plaintext (beat 1 16) (plain 0x18 19 1 0)
    ∷ accept 0 (message_at 0) (beat 2 17) (Heartbeat (record { heartbeat_type = 2; payload_len = 0; payload = span 3 0; padding = span 3 17 }))
    ∷ reject 0 plaintext (beat 1 15) LengthValue
    ∷ reject 0 plaintext (beat 3 16) LengthValue
    ∷ reject 0 (heartbeat_of 3) (bytes_of 2 0x0100) Incomplete
    ∷ reject 0 plaintext (bytes_of 6 0x19_0303_0001_01) Switch
    ∷ reject 0 many [] Complete
    ∷ accept 0 many (bytes_of 7 0x14_0303_0002_0102 ++ bytes_of 7 0x15_0303_0002_0228) (record { count = 2; end = 14 })
    ∷ accept 0 many (bytes_of 5 0x17_0303_0000 ++ bytes_of 6 0x14_0303_0001_02) (record { count = 1; end = 5 })
    ∷ reject 0 message (bytes_of 8 0x04_000004_00000000) LengthValue
    ∷ reject 0 message (bytes_of 9 0x04_000005_00000000_00) LengthValue
    ∷ accept 0 message (bytes_of 10 0x04_000006_00000000_0000) (NewSessionTicket empty_ticket)
    ∷ reject 0 message (bytes_of 10 0x04_000006_00000000_0001) LengthValue
    ∷ reject 0 message (bytes_of 11 0x04_000007_00000000_0000_aa) LengthValue
    ∷ accept 0 (session_ticket 6) (bytes_of 7 0x00000000_0000_aa) empty_ticket
    ∷ reject 0 (session_ticket 5) (bytes_of 6 0x00000000_0000) LengthValue
    ∷ accept 0 plaintext (bytes_of 17 0x16_0303_000c_00000000_04000004_00000000) (plain 0x16 12 1 8)
    ∷ reject 0 plaintext (bytes_of 13 0x16_0303_0008_04000004_00000000) LengthValue
    ∷ []

-- the claim over a table
abbrev pub Reads : RulesRow → Type 0
Reads x = (number_in (x.call x.input) ≡ x.number) × (values_in (x.call x.input) ≡ x.values)

abbrev pub AllRead : List RulesRow → Type 0
AllRead [] = Unit
AllRead (x ∷ xs) = Reads x × AllRead xs
