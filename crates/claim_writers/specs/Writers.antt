-- When each writer refuses, and for which reason first, said a second time: RULES 1.2, 1.6 and
-- section 7, and the sections of RFC 5246 there. The rules stand here in plain lengths and places:
-- no case uses a field's rule or a form, and a rule's name is all that `field_write` takes. By its
-- contract a writer's answer is `room` of its text, so each case is one of the code. Shown by
-- `proofs/Writers.antt`.
use Rattle.std.specs.Prelude.{◌+◌, ◌%◌, ◌≡◌, ◌∷◌, ◌&&◌}
use Rattle.refusal.specs.{ℕ, List, [], Bool, true, Option, none, some, length, leb, eqb, number_of, Answer, accepted, number_in, values_in, Reason, TooLarge, BadLength, NoRoom, NotYetImplemented, OneOf}
use Rattle.wire.specs.{if_some, pick, bytes_in, number_text, room, View, OptView, None, Some, Width, One, Two, Three, Four}
use Rattle.field.specs.{vector, rule_of, field_text, RuleName, Plain, SessionId, Ciphers, Methods, Fragment}
use Rattle.write_rules.specs.{hello_text, head_text, message_text, view_text}
use Rattle.read_client.specs.{client, TlsClientHelloContents}
use Rattle.read_server.specs.{server, draft18, TlsServerHelloContents, TlsServerHelloV13Draft18Contents}
use Rattle.message.specs.{TlsClientKeyExchangeContents, Dh, Ecdh, Unknown, TlsMessageHandshake, WrittenBody, no_body, client_body, server_body, draft18_body, exchange_body, finished_body, body_written}
use Rattle.write_others.specs.Exchange.{exchange_text}
use Rattle.write_message.specs.Written.{handshake_text}
use Rattle.content.specs.{TlsMessage, Handshake, ChangeCipherSpec, Alert, ApplicationData, Heartbeat}
use Rattle.write_content.specs.ContentTexts.{cipher_spec_text, alert_text, content_text}
use Rattle.record.specs.{TlsRecordHeader}
use Rattle.write_record.specs.RecordTexts.{record_text}

-- what a write comes to: the table's number, and where it is accepted the place past the text,
-- which is the text's length at the front
pub record Case : Type 0 where
  pub number : ℕ
  pub reports : Option ℕ

abbrev pub comes_to : Answer ℕ → Case
comes_to a = record { number = number_in a; reports = values_in a }

abbrev pub refusing : Reason → Case
refusing why = record { number = number_of why; reports = none }

-- RULES 1.1: NoRoom where the text is longer than the output; else it is written, and ends at n
abbrev pub up_to : ℕ → List ℕ → Case
up_to n out = pick (leb n (length out)) (record { number = 0; reports = some n }) (refusing NoRoom)

-- RULES 1.1: BadLength where a part may not be written; 1.6: NoRoom comes behind it
abbrev pub where_fits : Bool → ℕ → List ℕ → Case
where_fits fits n out = pick fits (up_to n out) (refusing BadLength)

-- a part lies within the bytes lent with the value
abbrev pub within_bytes : List ℕ → View → Bool
within_bytes s v = leb (v.start + v.len) (length s)

abbrev pub opt_within : List ℕ → OptView → Bool
opt_within s None = true
opt_within s (Some v) = within_bytes s v

-- RULES 7.6: an absent part is a length of 0, and no byte behind it
abbrev pub opt_len : OptView → ℕ
opt_len None = 0
opt_len (Some v) = v.len

-- RULES 7.2: a random of 32 bytes
abbrev pub random_fits : List ℕ → View → Bool
random_fits s v = within_bytes s v && eqb v.len 32

-- RULES 7.2: an id of up to 32
abbrev pub id_fits : List ℕ → OptView → Bool
id_fits s o = opt_within s o && leb (opt_len o) 32

-- RULES 7.2: ciphers of an even number of bytes, up to 65,534
abbrev pub ciphers_fit : List ℕ → View → Bool
ciphers_fit s v = within_bytes s v && (eqb (v.len % 2) 0 && leb v.len 65534)

-- RULES 7.2: extensions of up to 65,535
abbrev pub extensions_fit : List ℕ → OptView → Bool
extensions_fit s o = opt_within s o && leb (opt_len o) 65535

-- RULES 7.2, 7.4, 7.5: a part of at most so many bytes, as methods, key exchanges and a Finished
-- are
abbrev pub part_fits : ℕ → List ℕ → View → Bool
part_fits most s v = within_bytes s v && leb v.len most

-- RULES 7.2, RFC 5246 7.4.1.2. ClientHello: type 1, length 3; version 2, random 32, length 1 and
-- id, length 2 and ciphers, length 1 and methods, length 2 and extensions
unfoldable pub client_write : List ℕ → TlsClientHelloContents → List ℕ → Case
client_write s c out =
    where_fits
    (random_fits s c.random && (id_fits s c.session_id && (ciphers_fit s c.ciphers && (part_fits 255 s c.comp && extensions_fit s c.ext))))
    (4 + (2 + 32 + (1 + opt_len c.session_id) + (2 + c.ciphers.len) + (1 + c.comp.len) + (2 + opt_len c.ext)))
    out

-- RULES 7.2, 7.7, RFC 5246 7.4.1.3. ServerHello, of whatever version: type 1, length 3; version 2,
-- random 32, length 1 and id, cipher 2, compression 1, length 2 and extensions
unfoldable pub server_write : List ℕ → TlsServerHelloContents → List ℕ → Case
server_write s c out =
    where_fits
    (random_fits s c.random && (id_fits s c.session_id && extensions_fit s c.ext))
    (4 + (2 + 32 + (1 + opt_len c.session_id) + 2 + 1 + (2 + opt_len c.ext)))
    out

-- RULES 7.2, draft-ietf-tls-tls13-18 4.1.3. Draft 18: type 1, length 3; version 2, random 32,
-- cipher 2, length 2 and extensions
unfoldable pub draft18_write : List ℕ → TlsServerHelloV13Draft18Contents → List ℕ → Case
draft18_write s c out = where_fits (random_fits s c.random && extensions_fit s c.ext) (4 + (2 + 32 + 2 + (2 + opt_len c.ext))) out

-- RULES 7.4, RFC 5246 7.4.7.2, RFC 8422 5.7: raw, Diffie-Hellman behind a length of 2, elliptic
-- curve behind one of 1
abbrev pub exchange_write : List ℕ → TlsClientKeyExchangeContents → List ℕ → Case
exchange_write s (Unknown v) out = where_fits (part_fits 16777215 s v) (4 + v.len) out
exchange_write s (Dh v) out = where_fits (part_fits 65535 s v) (4 + (2 + v.len)) out
exchange_write s (Ecdh v) out = where_fits (part_fits 255 s v) (4 + (1 + v.len)) out

-- RULES 7.5: up to 16,777,215 bytes
abbrev pub finished_write : List ℕ → View → List ℕ → Case
finished_write s v out = where_fits (part_fits 16777215 s v) (4 + v.len) out

-- RULES 7.1, RFC 5246 7.4.1.1. HelloRequest: type 1, length 3, no body
abbrev pub request_write : List ℕ → Case
request_write out = up_to 4 out

-- each kind that is written
abbrev pub body_write : List ℕ → List ℕ → WrittenBody → Case
body_write s out no_body = request_write out
body_write s out (client_body c) = client_write s c out
body_write s out (server_body c) = server_write s c out
body_write s out (draft18_body c) = draft18_write s c out
body_write s out (exchange_body k) = exchange_write s k out
body_write s out (finished_body v) = finished_write s v out

-- RULES 7.1: any other kind is NotYetImplemented, whatever its parts and the output; 1.6: it comes
-- first
unfoldable pub handshake_write : List ℕ → TlsMessageHandshake → List ℕ → Case
handshake_write s m out = if_some (body_written m) (body_write s out) (refusing NotYetImplemented)

-- RULES 7.13, RFC 5246 7.1. ChangeCipherSpec: one byte
abbrev pub cipher_spec_write : List ℕ → Case
cipher_spec_write out = up_to 1 out

-- RULES 7.14, RFC 5246 7.2. Alert: level 1, of value 1 or 2, and description 1
abbrev pub alert_write : ℕ → List ℕ → Case
alert_write severity out = where_fits (leb 1 severity && leb severity 2) 2 out

-- RULES 7.15: a message by its kind; application data and heartbeats are NotYetImplemented,
-- whatever the output
abbrev pub content_write : List ℕ → TlsMessage → List ℕ → Case
content_write s (Handshake m) out = handshake_write s m out
content_write s ChangeCipherSpec out = cipher_spec_write out
content_write s (Alert a) out = alert_write a.severity out
content_write s (ApplicationData d) out = refusing NotYetImplemented
content_write s (Heartbeat h) out = refusing NotYetImplemented

-- RULES 7.10: TooLarge over 16,640 bytes. Type 1, version 2, length 2 and the lent bytes
abbrev pub record_write : List ℕ → List ℕ → Case
record_write p out = pick (leb (length p) 16640) (up_to (5 + length p) out) (refusing TooLarge)

-- the bytes of a number, and the largest that they hold: RFC 5246 4.4
abbrev pub wide : Width → ℕ
wide One = 1
wide Two = 2
wide Three = 3
wide Four = 4

abbrev pub most : Width → ℕ
most One = 255
most Two = 65535
most Three = 16777215
most Four = 4294967295

-- RULES 2.4: the lengths that a part may have behind its own
abbrev pub rule_fits : RuleName → ℕ → Bool
rule_fits Plain n = true
rule_fits SessionId n = leb n 32
rule_fits Ciphers n = eqb (n % 2) 0
rule_fits Methods n = true
rule_fits Fragment n = leb n 16640

-- RULES 1.6: BadLength, or TooLarge for a record
abbrev pub rule_refuses : RuleName → Reason
rule_refuses Plain = BadLength
rule_refuses SessionId = BadLength
rule_refuses Ciphers = BadLength
rule_refuses Methods = BadLength
rule_refuses Fragment = TooLarge

-- such a part written, of a width and a rule. RULES 6.1 has a record's content at width Two alone;
-- at width One its TooLarge begins at 256 bytes
abbrev pub field_write : Width → RuleName → List ℕ → ℕ → List ℕ → Case
field_write w k p at out = pick (leb (length p) (most w) && rule_fits k (length p)) (up_to (at + (wide w + length p)) out) (refusing (rule_refuses k))

-- a text written from a place on comes to this case, and is refused for one of these reasons or not
-- at all
pub record Comes (text : Answer (List ℕ)) (at : ℕ) (out : List ℕ) (case : Case) (whys : List Reason) : Type 0 where
  pub is : comes_to (room text at out) ≡ case
  pub only : OneOf whys (number_in (room text at out))

-- every writer: its text, its case, by which the order goes, and the refusals that it may give; s
-- has the bytes that are written or that the views are of, and out is the output as lent
pub record Writers (s out : List ℕ) : Type 0 where
  pub client_hello : (c : TlsClientHelloContents) → Comes (message_text (head_text 0x01) (hello_text client s c)) 0 out (client_write s c out) (BadLength ∷ NoRoom ∷ [])
  pub server_hello : (c : TlsServerHelloContents) → Comes (message_text (head_text 0x02) (hello_text (server true) s c)) 0 out (server_write s c out) (BadLength ∷ NoRoom ∷ [])
  pub draft18_hello : (c : TlsServerHelloV13Draft18Contents) → Comes (message_text (head_text 0x02) (hello_text draft18 s c)) 0 out (draft18_write s c out) (BadLength ∷ NoRoom ∷ [])
  pub client_key_exchange : (k : TlsClientKeyExchangeContents) → Comes (message_text (head_text 0x10) (exchange_text s k)) 0 out (exchange_write s k out) (BadLength ∷ NoRoom ∷ [])
  pub finished : (v : View) → Comes (message_text (head_text 0x14) (view_text s v)) 0 out (finished_write s v out) (BadLength ∷ NoRoom ∷ [])
  pub hello_request : Comes (message_text (head_text 0x00) (accepted [])) 0 out (request_write out) (NoRoom ∷ [])
  pub handshake : (m : TlsMessageHandshake) → Comes (handshake_text s m) 0 out (handshake_write s m out) (NotYetImplemented ∷ BadLength ∷ NoRoom ∷ [])
  pub cipher_spec : Comes cipher_spec_text 0 out (cipher_spec_write out) (NoRoom ∷ [])
  pub alert : (severity code : ℕ) → Comes (alert_text severity code) 0 out (alert_write severity out) (BadLength ∷ NoRoom ∷ [])
  pub content : (m : TlsMessage) → Comes (content_text s m) 0 out (content_write s m out) (NotYetImplemented ∷ BadLength ∷ NoRoom ∷ [])
  pub plaintext : (hdr : TlsRecordHeader) → Comes (record_text hdr s) 0 out (record_write s out) (TooLarge ∷ NoRoom ∷ [])
  -- what they are made of: a number and the lent bytes at a place, a part behind its length, type
  -- and length of a message of n bytes
  pub number : (w : Width) (n at : ℕ) → Comes (number_text (bytes_in w) n) at out (where_fits (leb n (most w)) (at + wide w) out) (BadLength ∷ NoRoom ∷ [])
  pub bytes : (at : ℕ) → Comes (accepted s) at out (up_to (at + length s) out) (NoRoom ∷ [])
  pub field : (w : Width) (k : RuleName) (at : ℕ) → Comes (field_text (vector (bytes_in w) (rule_of k)) s) at out (field_write w k s at out) (rule_refuses k ∷ NoRoom ∷ [])
  pub head : (msgType n : ℕ) → Comes (head_text msgType n) 0 out (where_fits (leb n 16777215) 4 out) (BadLength ∷ NoRoom ∷ [])
