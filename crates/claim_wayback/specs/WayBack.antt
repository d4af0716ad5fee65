-- Demand 3, its writing half: what is written of a hello that was read, and what reading finds of
-- hellos, messages and records that were written, whatever stands behind them. RULES 0.3, 3.16,
-- 7.6, 7.9, 7.13 to 7.15, 9.11. Shown by `proofs/Hellos.antt` for every form,
-- `proofs/Demand3.antt`, `proofs/Contents.antt` and `proofs/WayBack.antt`.
use Rattle.std.specs.Prelude.{◌+◌, ◌<◌, ◌≤◌, ◌≡◌, ◌∷◌, ◌++◌}
use Rattle.refusal.specs.{ℕ, List, [], Bool, true, Option, none, some, length, take, drop, unplaced, Answer, accepted, refused, giving, NoRoom}
use Rattle.wire.specs.{part_of, opt_part_of, lookup, Bytes, bytes_of, room, written, OptView, None, Some, View}
use Rattle.field.specs.{Field, field_bytes}
use Rattle.grammar.specs.{extensions, Pieces, Form, all_named_of, pieces, reading, by_version, if_listed, ToFill, strictly}
use Rattle.write_rules.specs.{hello_text, head_text, message_text}
use Rattle.read_client.specs.{client, TlsClientHelloContents}
use Rattle.read_server.specs.{server, server_versions, draft18, TlsServerHelloContents, TlsServerHelloV13Draft18Contents}
use Rattle.message.specs.{TlsMessageHandshake, HelloRequest, ClientHello, ServerHello, ServerHelloV13Draft18, ClientKeyExchange, Finished, TlsClientKeyExchangeContents, Unknown}
use Rattle.write_others.specs.Exchange.{exchange_text}
use Rattle.write_message.specs.Written.{handshake_text}
use Rattle.content.specs.{TlsMessage, TlsMessageAlert, Handshake, ChangeCipherSpec, Alert, change_cipher_spec_of, alert_first}
use Rattle.write_content.specs.ContentTexts.{content_text}
use Rattle.envelope.specs.{by_type_in, met_at}
use Rattle.record.specs.{raw, TlsRecordHeader}
use Rattle.record_open.specs.{plaintext, opened_first, TlsPlaintext}
use Rattle.write_record.specs.RecordTexts.{record_text}

-- any text, written from the front of any output
pub record EveryText : Type 0 where
  -- with room for it, its bytes are the first of the output, all others are as they were, and the
  -- answer is their number
  pub writes : (t out : List ℕ) → length t ≤ length out → (room (accepted t) 0 out ≡ accepted (length t)) × (written (accepted t) 0 out ≡ t ++ drop (length t) out)
  -- so an output as long as the longest of some texts is enough for each of them
  pub enough : (t out : List ℕ) (most : ℕ) → length t ≤ most → most ≤ length out → room (accepted t) 0 out ≡ accepted (length t)
  -- with room short by one byte or more, it is NoRoom, and every byte is as it was
  pub short : (t out : List ℕ) → length out < length t → (room (accepted t) 0 out ≡ refused (unplaced NoRoom)) × (written (accepted t) 0 out ≡ out)

-- type, length and body
abbrev pub framed : ℕ → List ℕ → List ℕ
framed msgType b = bytes_of 1 msgType ++ (bytes_of 3 (length b) ++ b)

-- RULES 7.6: absent extensions are written 00 00
abbrev pub added : OptView → List ℕ
added None = 0x00 ∷ 0x00 ∷ []
added (Some v) = []

-- the bytes of the body before its tail, and what is added
abbrev pub back : {C : Type 0} → Form C → List ℕ → C → List ℕ
back k body c = take (k.tail c) body ++ added (k.block c)

-- a hello read by a form from a body, written back as a message of a type
pub record WritesBack {C : Type 0} (k : Form C) (msgType most : ℕ) (body : List ℕ) : Type 0 where
  -- before its tail the body has at most so many bytes
  pub bound : (c : C) → reading k body ≡ accepted c → k.tail c ≤ most
  -- its text: type and length, then the bytes of the body before its tail, and what is added
  pub text : (c : C) → reading k body ≡ accepted c → message_text (head_text msgType) (hello_text k body c) ≡ accepted (framed msgType (back k body c))
  -- what is added included, the text has at most four bytes more than the bound: an output of so
  -- many is enough
  pub longest : (c : C) → reading k body ≡ accepted c → length (framed msgType (back k body c)) ≤ 4 + most

-- RULES 3.16: of a hello that was read strictly, type and length, the whole body, and what is added
abbrev pub WritesWhole : {C : Type 0} (k : Form C) → ToFill k.grammar.rows → ℕ → List ℕ → Type 0
WritesWhole {C} k ts msgType body = (c : C) → strictly k ts body ≡ accepted c → message_text (head_text msgType) (hello_text k body c) ≡ accepted (framed msgType (body ++ added (k.block c)))

-- the text of a ServerHello that was read by the form that its version announces
abbrev pub BackByVersion : List ℕ → Type 0
BackByVersion body = (c : TlsServerHelloContents) → by_version server_versions body ≡ accepted c
    → message_text (head_text 0x02) (hello_text (server true) body c) ≡ accepted (framed 0x02 (back (server true) body c))

-- a ServerHello's text is the same by both its forms
abbrev pub OneText : Type 0
OneText = (hasExt : Bool) (s : List ℕ) (c : TlsServerHelloContents) → hello_text (server hasExt) s c ≡ hello_text (server true) s c

-- what a second reading finds of the extensions: block and tail. A form with a block has them
-- there, empty if they were absent; one without (a ServerHello at 0x0300) has their bytes as tail
abbrev pub last_again : Option Field → List ℕ → Option (List ℕ) × List ℕ
last_again (some f) e = (some e, [])
last_again none e = (none, field_bytes extensions e)

-- the pieces that a second reading finds: the parts that the value names, then block and tail by
-- `last_again`
abbrev pub again : {C : Type 0} (k : Form C) → List ℕ → C → Pieces k.grammar
again k s c =
    let last = last_again k.grammar.block (opt_part_of s (k.block c)) in
    record { parts = all_named_of k.grammar.rows s (k.handed c); block = last.0; tail = last.1 }

-- of any value, read before or made up, whose text is b: b is read, and its pieces are those of the
-- value, but for block and tail
abbrev pub ReadsAgain : {C : Type 0} → Form C → List ℕ → C → Type 0
ReadsAgain {C} k s c = (b : List ℕ) → hello_text k s c ≡ accepted b → (d : C) × (reading k b ≡ accepted d) × (pieces k b d ≡ again k s c)

-- the version that was written announces by which form a ServerHello is read; if it is not listed,
-- that is Tag
abbrev pub AgainByVersion : Type 0
AgainByVersion = (s : List ℕ) (c : TlsServerHelloContents) (b : List ℕ) → c.version < 65536 → hello_text (server true) s c ≡ accepted b → by_version server_versions b ≡ if_listed (lookup c.version server_versions) b

-- a message of a type and a body, in its text and whatever stands behind that
pub record Found (msgType : ℕ) (body : List ℕ) (says : Answer TlsMessageHandshake) (text rest : List ℕ) : Type 0 where
  -- it ends where the text does
  pub whole : length text ≡ 4 + length body
  -- its head, and what the body is opened as
  pub met : met_at (text ++ rest) 0 ≡ giving (λ m. record {
    head = record { msg_type = msgType; body = record { start = 4; len = length body }; next = 4 + length body };
    says = m;
  }) says
  -- its body has the bytes written
  pub bytes : part_of (text ++ rest) (record { start = 4; len = length body }) ≡ body

-- a hello, in its text and whatever stands behind that: the pieces of its body are those of the
-- value written, as `again` has them
pub record ReadsHello {C : Type 0} (k : Form C) (msgType : ℕ) (make : C → TlsMessageHandshake) (s : List ℕ) (c : C) (text rest : List ℕ) : Type 0 where
  pub body : List ℕ
  pub found : C
  pub reads : Found msgType body (accepted (make found)) text rest
  pub same : pieces k body found ≡ again k s c

-- the view of a whole body
abbrev pub whole_of : List ℕ → View
whole_of b = record { start = 0; len = length b }

-- messages whose views are of s, written, and whatever stands behind
pub record Messages (s rest : List ℕ) : Type 0 where
  -- of no body
  pub hello_request : (t : List ℕ) → handshake_text s HelloRequest ≡ accepted t → Found 0x00 [] (accepted HelloRequest) t rest
  -- handed out whole: the part written
  pub finished : (v : View) (t : List ℕ) → handshake_text s (Finished v) ≡ accepted t → Found 0x14 (part_of s v) (accepted (Finished (whole_of (part_of s v)))) t rest
  -- handed out whole, always as raw
  pub client_key_exchange : (k : TlsClientKeyExchangeContents) (t : List ℕ) → handshake_text s (ClientKeyExchange k) ≡ accepted t
      → (b : List ℕ) × (exchange_text s k ≡ accepted b) × Found 0x10 b (accepted (ClientKeyExchange (Unknown (whole_of b)))) t rest
  -- as its form reads the body
  pub client_hello : (c : TlsClientHelloContents) (t : List ℕ) → handshake_text s (ClientHello c) ≡ accepted t → ReadsHello client 0x01 (λ d. ClientHello d) s c t rest
  -- as the form reads it that the version announces
  pub server_hello : (hasExt : Bool) (c : TlsServerHelloContents) → c.version < 65536 → lookup c.version server_versions ≡ some (server hasExt) → (t : List ℕ)
      → handshake_text s (ServerHello c) ≡ accepted t → ReadsHello (server hasExt) 0x02 (λ d. ServerHello d) s c t rest
  -- so too at draft 18's version
  pub draft18_hello : (c : TlsServerHelloV13Draft18Contents) → c.version ≡ 0x7f12 → (t : List ℕ)
      → handshake_text s (ServerHelloV13Draft18 c) ≡ accepted t → ReadsHello draft18 0x02 (λ d. ServerHelloV13Draft18 d) s c t rest

-- a record round some bytes, in its text and whatever stands behind that
pub record InRecord (hdr : TlsRecordHeader) (p text rest : List ℕ) : Type 0 where
  -- it ends where the text does
  pub whole : length text ≡ 5 + length p
  -- it has the type and the version written, and the length of the bytes
  pub read : reading raw (text ++ rest) ≡ accepted (record {
    hdr = record { record_type = hdr.record_type; version = hdr.version; len = length p };
    «data» = record { start = 5; len = length p };
    next = 5 + length p;
  })
  -- its content has the bytes written
  pub bytes : part_of (text ++ rest) (record { start = 5; len = length p }) ≡ p

-- a record of a type and a version whose content of n bytes is one message
abbrev pub one_in : ℕ → ℕ → ℕ → TlsPlaintext
one_in t v n = record { hdr = record { record_type = t; version = v; len = n }; msg = record { start = 5; len = n }; count = 1; dropped = 0; next = 5 + n }

-- bytes that begin with such a record are opened as that message alone, and no byte is dropped
pub record Alone (t v n : ℕ) (m : TlsMessage) (s : List ℕ) : Type 0 where
  pub counted : plaintext s ≡ accepted (one_in t v n)
  pub opened : opened_first s ≡ accepted (record { «record» = one_in t v n; body = record { start = 0; len = n }; message = m })

-- RULES 7.13 to 7.15: messages of every record type, written, and whatever stands behind
pub record Contents (s rest : List ℕ) : Type 0 where
  -- a handshake message has the text that it has by itself, so that `Messages` tells what is read
  pub handshake : (m : TlsMessageHandshake) → content_text s (Handshake m) ≡ handshake_text s m
  -- a ChangeCipherSpec is one byte, and is read
  pub cipher_spec : (t : List ℕ) → content_text s ChangeCipherSpec ≡ accepted t → (length t ≡ 1) × (change_cipher_spec_of (t ++ rest) ≡ accepted ChangeCipherSpec)
  -- an alert is two, and is read with its level and its description
  pub alert : (a : TlsMessageAlert) (t : List ℕ) → content_text s (Alert a) ≡ accepted t → (length t ≡ 2) × (alert_first (t ++ rest) ≡ accepted (Alert a))
  -- so too in a record of its type
  pub cipher_spec_in : (hdr : TlsRecordHeader) (p t : List ℕ) → hdr.record_type ≡ 0x14 → hdr.version < 65536 → Bytes rest
      → content_text s ChangeCipherSpec ≡ accepted p → record_text hdr p ≡ accepted t → Alone 0x14 hdr.version 1 ChangeCipherSpec (t ++ rest)
  pub alert_in : (hdr : TlsRecordHeader) (a : TlsMessageAlert) (p t : List ℕ) → hdr.record_type ≡ 0x15 → hdr.version < 65536 → a.code < 256 → Bytes rest
      → content_text s (Alert a) ≡ accepted p → record_text hdr p ≡ accepted t → Alone 0x15 hdr.version 2 (Alert a) (t ++ rest)

pub record WayBack : Type 0 where
  -- a message of any type and of any body that three bytes can count
  pub every : (msgType : ℕ) (b rest : List ℕ) → msgType < 256 → length b < 16777216 → Found msgType b (by_type_in 0 4 msgType b) (framed msgType b) rest
  -- every text of a message is type, length and a body that three bytes can count
  pub texts : (msgType : ℕ) (body : Answer (List ℕ)) (t : List ℕ) → message_text (head_text msgType) body ≡ accepted t
      → (b : List ℕ) × (body ≡ accepted b) × (length b < 16777216) × (framed msgType b ≡ t)
  -- the kinds that are written
  pub messages : (s rest : List ℕ) → Bytes s → Messages s rest
  -- and the messages of every record type
  pub contents : (s rest : List ℕ) → Contents s rest
  -- the view of a whole body names its bytes
  pub all : (b : List ℕ) → part_of b (whole_of b) ≡ b
  -- RULES 7.11: it copies type, version and content
  pub records : (hdr : TlsRecordHeader) (p t rest : List ℕ) → hdr.record_type < 256 → hdr.version < 65536 → Bytes p → Bytes rest → record_text hdr p ≡ accepted t → InRecord hdr p t rest
