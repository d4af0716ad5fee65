-- When each reader refuses, said a second time: RULES 1.2, and the rules and sections of RFC 5246
-- that the cases name. For each reader the table's number, by places and lengths in the bytes lent,
-- with no field, rule, grammar or step in it; `places` alone, of any field's items, takes their
-- count from `items`. At the end, `Readers`, a table: each reader, its case, its refusals. Shown by
-- `proofs/Table.antt`.
use Rattle.std.specs.Prelude.{◌+◌, ◌/◌, ◌%◌, ◌≤◌, ◌≡◌, ◌∷◌, ◌||◌}
use Rattle.refusal.specs.{ℕ, zero, suc, List, [], Bool, true, false, length, take, drop, leb, ltb, eqb, Answer, number_in, number_of, Reason, Incomplete, Complete, Verify, LengthValue, Tag, Switch, TooLarge, NoSuch, OneOf}
use Rattle.wire.specs.{pick, be, number_at, View}
use Rattle.field.specs.{Field, sized}
use Rattle.grammar.specs.{reading, by_version}
use Rattle.list.specs.{items, place, item_from, number_place}
use Rattle.read_start.specs.Start.{hello_start}
use Rattle.read_client.specs.{client, strict_client}
use Rattle.read_server.specs.{server, server_versions, draft18}
use Rattle.read_certs.specs.{certificate, certificate_request, status}
use Rattle.read_others.specs.Body.{retry, session_ticket, next_protocol}
use Rattle.message.specs.{TlsMessageHandshake}
use Rattle.open_hellos.specs.HelloMessages.{server_message}
use Rattle.open_whole.specs.Whole.{whole_body}
use Rattle.envelope.specs.{head_at, opened, by_type, met_at, message}
use Rattle.content.specs.{cipher_spec_at, alert_at, heartbeat, heartbeat_in, change_cipher_spec_of, alert_first, application_data, heartbeat_of}
use Rattle.record_walk.specs.{met_head, next_message, TlsHandshakeWalk}
use Rattle.content_walk.specs.{found_at, past_at, TlsRecordWalk}
use Rattle.content_walk.specs.ContentWalks.{next_message as nextByType}
use Rattle.record.specs.{header, raw, encrypted}
use Rattle.record_open.specs.{first_of, plaintext, opened_first, with_header, record_met}
use Rattle.record_many.specs.{plaintext_from, many, next_record, TlsRecordsWalk}
use Rattle.record_joined.specs.Joined.{record_from}

-- a check: where it holds, this is the refusal
abbrev pub Check : Type 0
Check = Bool × Reason

-- RULES 3.1: the number of the first that holds; where none does, what is left to say
unfoldable pub in_order : List Check → ℕ → ℕ
in_order [] k = k
in_order ((holds, why) ∷ checks) k = pick holds (number_of why) (in_order checks k)

-- the bytes are under n
abbrev pub under : List ℕ → ℕ → Reason → Check
under s n why = (ltb (length s) n, why)

-- a number is less than n
abbrev pub less : ℕ → ℕ → Reason → Check
less x n why = (ltb x n, why)

-- it is over n
abbrev pub over : ℕ → ℕ → Reason → Check
over x n why = (ltb n x, why)

-- it is n
abbrev pub is : ℕ → ℕ → Reason → Check
is x n why = (eqb x n, why)

-- it is another than n
abbrev pub other : ℕ → ℕ → Reason → Check
other x n why = (pick (eqb x n) false true, why)

-- it is neither m nor n
abbrev pub neither : ℕ → ℕ → ℕ → Reason → Check
neither x m n why = (pick (eqb x m || eqb x n) false true, why)

-- RULES 3.2, RFC 5246 7.4.1.2. ClientHello: version 2, random 32, length 1 and id, length 2 and
-- ciphers, length 1 and methods
unfoldable pub client_case : List ℕ → ℕ
client_case s =
    let id = be 1 s 34 in
    let cs = be 2 s (35 + id) in
    let ms = be 1 s (37 + id + cs) in
    in_order
    (under s 35 Incomplete
    ∷ over id 32 Verify
    ∷ under s (37 + id) Incomplete
    ∷ is (cs % 2) 1 LengthValue
    ∷ under s (37 + id + cs) LengthValue
    ∷ under s (38 + id + cs) Incomplete
    ∷ under s (38 + id + cs + ms) LengthValue
    ∷ [])
    0

-- what is left to say where there is no refusal yet
abbrev pub if_accepted : ℕ → ℕ → ℕ
if_accepted c k = pick (eqb c 0) k c

-- RULES 3.14, RFC 5246 7.4.1.2. The strict ClientHello: after all refusals of the plain one no
-- ciphers, no methods, or bytes behind the methods that are not a length of 2 and as many bytes
unfoldable pub strict_case : List ℕ → ℕ
strict_case s =
    let id = be 1 s 34 in
    let cs = be 2 s (35 + id) in
    let ms = be 1 s (37 + id + cs) in
    let end = 38 + id + cs + ms in
    if_accepted (client_case s)
    (in_order (is cs 0 LengthValue ∷ is ms 0 LengthValue ∷ neither (length s) end (end + 2 + be 2 s end) LengthValue ∷ []) 0)

-- RULES 3.2, 3.3: what both hellos begin with, version 2, random 32, length 1 and id
unfoldable pub start_case : List ℕ → ℕ
start_case s =
    let id = be 1 s 34 in
    in_order (under s 35 Incomplete ∷ over id 32 Verify ∷ under s (35 + id) Incomplete ∷ []) 0

-- RULES 3.3, RFC 5246 7.4.1.3. ServerHello, whatever its version: version 2, random 32, length 1
-- and id, cipher 2, compression 1
unfoldable pub server_case : List ℕ → ℕ
server_case s =
    let id = be 1 s 34 in
    in_order (under s 35 Incomplete ∷ over id 32 Verify ∷ under s (38 + id) Incomplete ∷ []) 0

-- RULES 3.10: the version before all else; Tag for one not listed
unfoldable pub by_version_case : List ℕ → ℕ
by_version_case s =
    let v = be 2 s 0 in
    in_order (under s 2 Incomplete ∷ less v 0x0300 Tag ∷ over v 0x0303 Tag ∷ []) (server_case s)

-- RULES 3.5, draft-ietf-tls-tls13-18 4.1.3. Draft 18: version 2, random 32, cipher 2
unfoldable pub draft18_case : List ℕ → ℕ
draft18_case s = in_order (under s 36 Incomplete ∷ []) 0

-- RULES 3.6: a ServerHello or draft 18's, which this reader alone opens
unfoldable pub server_message_case : List ℕ → ℕ
server_message_case s = in_order (under s 2 Incomplete ∷ []) (pick (eqb (be 2 s 0) 0x7f12) (draft18_case s) (by_version_case s))

-- RULES 4.3, draft-ietf-tls-tls13-18 4.1.4. HelloRetryRequest: version 2, cipher 2
unfoldable pub retry_case : List ℕ → ℕ
retry_case s = in_order (under s 4 Incomplete ∷ []) 0

-- RULES 4.2, 4.14, RFC 5077 3.3. NewSessionTicket of a given length: Verify comes first; then
-- lifetime 4, length 2 and as many bytes as it says, to the last one
unfoldable pub ticket_case : ℕ → List ℕ → ℕ
ticket_case n s = in_order (less n 4 Verify ∷ under s n Incomplete ∷ less n 6 LengthValue ∷ other n (6 + be 2 s 4) LengthValue ∷ []) 0

-- RULES 4.4, RFC 5246 7.4.2. Certificate: length 3, then a list
unfoldable pub certificate_case : List ℕ → ℕ
certificate_case s = in_order (under s 3 Incomplete ∷ under s (3 + be 3 s 0) Incomplete ∷ []) 0

-- RULES 4.9, RFC 5246 7.4.4. CertificateRequest, Complete where both forms are refused: length 1
-- and types, length 2 and names. What holds the long form holds the short one too
unfoldable pub request_case : List ℕ → ℕ
request_case s =
    let types = be 1 s 0 in
    let names = be 2 s (1 + types) in
    in_order (under s 1 Complete ∷ under s (3 + types) Complete ∷ under s (3 + types + names) Complete ∷ []) 0

-- RULES 4.10, RFC 6066 8. CertificateStatus: type 1, length 3 and that many bytes
unfoldable pub status_case : List ℕ → ℕ
status_case s = in_order (under s 4 Incomplete ∷ under s (4 + be 3 s 1) Incomplete ∷ []) 0

-- RULES 4.11. NextProtocol: two parts, a length of 1 before each
unfoldable pub next_protocol_case : List ℕ → ℕ
next_protocol_case s =
    let protocol = be 1 s 0 in
    let padding = be 1 s (1 + protocol) in
    in_order (under s 1 Incomplete ∷ under s (2 + protocol) Incomplete ∷ under s (2 + protocol + padding) Incomplete ∷ []) 0

-- RULES 4.12, RFC 8446 4.6.3. KeyUpdate: one byte
unfoldable pub key_update_case : List ℕ → ℕ
key_update_case s = in_order (under s 1 Incomplete ∷ []) 0

-- RULES 4.14: a body handed out whole, Incomplete if the length is more than the bytes
unfoldable pub whole_case : ℕ → List ℕ → ℕ
whole_case n s = in_order (under s n Incomplete ∷ []) 0

-- what stands beside a number in a table, or else
unfoldable pub beside : ℕ → List (ℕ × ℕ) → ℕ → ℕ
beside k [] other = other
beside k ((t, c) ∷ rest) other = pick (eqb k t) c (beside k rest other)

-- RULES 5.4, 5.5, RFC 5246 7.4: a body by its type k; n is the length where one is handed over
unfoldable pub opened_case : ℕ → ℕ → List ℕ → ℕ
opened_case k n s =
    beside k
    ((0x00, 0)
    ∷ (0x05, 0)
    ∷ (0x01, client_case s)
    ∷ (0x02, server_message_case s)
    ∷ (0x04, ticket_case n s)
    ∷ (0x06, retry_case s)
    ∷ (0x0b, certificate_case s)
    ∷ (0x0c, whole_case n s)
    ∷ (0x0e, whole_case n s)
    ∷ (0x0f, whole_case n s)
    ∷ (0x14, whole_case n s)
    ∷ (0x10, whole_case n s)
    ∷ (0x0d, request_case s)
    ∷ (0x16, status_case s)
    ∷ (0x43, next_protocol_case s)
    ∷ (0x18, key_update_case s)
    ∷ [])
    (number_of Switch)

-- a body of its own length
unfoldable pub body_case : ℕ → List ℕ → ℕ
body_case k s = opened_case k (length s) s

-- RULES 5.1, RFC 5246 7.4: a message at a place, type 1, length 3, body
abbrev pub head_checks : ℕ → List ℕ → List Check
head_checks at s = under s (at + 4) Incomplete ∷ under s (at + 4 + be 3 s (at + 1)) Incomplete ∷ []

-- its head alone
unfoldable pub head_case : ℕ → List ℕ → ℕ
head_case at s = in_order (head_checks at s) 0

-- RULES 5.2: the message, its length and body before its type
unfoldable pub met_case : ℕ → List ℕ → ℕ
met_case at s = in_order (head_checks at s) (body_case (be 1 s at) (take (be 3 s (at + 1)) (drop (at + 4) s)))

-- RULES 6.1, RFC 5246 6.2.1: a record's header, type 1, version 2, length 2
unfoldable pub header_case : List ℕ → ℕ
header_case s = in_order (under s 5 Incomplete ∷ []) 0

-- RULES 6.2: a record, its header, then its length, then its content
abbrev pub record_checks : List ℕ → List Check
record_checks s = under s 5 Incomplete ∷ over (be 2 s 3) 16640 TooLarge ∷ under s (5 + be 2 s 3) Incomplete ∷ []

-- RULES 6.3: of any type
unfoldable pub raw_case : List ℕ → ℕ
raw_case s = in_order (record_checks s) 0

-- RULES 6.5: Incomplete from the first message becomes Complete
abbrev pub of_first : ℕ → ℕ
of_first c = pick (eqb c (number_of Incomplete)) (number_of Complete) c

-- RULES 6.15, RFC 5246 7.1. The ChangeCipherSpec at a place: a byte of value 1
unfoldable pub cipher_spec_case : ℕ → List ℕ → ℕ
cipher_spec_case at s =
    let value = be 1 s at in
    in_order (under s (at + 1) Incomplete ∷ less value 1 LengthValue ∷ over value 1 LengthValue ∷ []) 0

-- RULES 6.16, RFC 5246 7.2. The alert at a place: level 1, of value 1 or 2, and description 1
unfoldable pub alert_case : ℕ → List ℕ → ℕ
alert_case at s =
    let level = be 1 s at in
    in_order
    (under s (at + 1) Incomplete
    ∷ less level 1 LengthValue
    ∷ over level 2 LengthValue
    ∷ under s (at + 2) Incomplete
    ∷ [])
    0

-- RULES 6.17: application data is never refused
unfoldable pub application_case : List ℕ → ℕ
application_case s = 0

-- RULES 6.18, RFC 6520 4. The heartbeat that all the bytes are: type 1, of value 1 or 2, length 2,
-- payload, and 16 bytes of padding at least
unfoldable pub heartbeat_case : List ℕ → ℕ
heartbeat_case s =
    let kind = be 1 s 0 in
    in_order
    (under s 3 Incomplete
    ∷ less kind 1 LengthValue
    ∷ over kind 2 LengthValue
    ∷ under s (3 + be 2 s 1 + 16) LengthValue
    ∷ [])
    0

-- RULES 4.14: the one of a given length
unfoldable pub heartbeat_in_case : ℕ → List ℕ → ℕ
heartbeat_in_case n s = in_order (under s n Incomplete ∷ []) (heartbeat_case (take n s))

-- RULES 6.9: the message at a place by the type of its record; of application data and of a
-- heartbeat it is the whole content, whatever the place. Every other type is Switch
unfoldable pub found_case : ℕ → ℕ → List ℕ → ℕ
found_case t at s =
    beside t
    ((0x14, cipher_spec_case at s)
    ∷ (0x15, alert_case at s)
    ∷ (0x16, met_case at s)
    ∷ (0x17, application_case s)
    ∷ (0x18, heartbeat_case s)
    ∷ [])
    (number_of Switch)

-- RULES 6.5, 6.9: the content of a record by its type, Switch for one that is not from 0x14 to
-- 0x18. The first message decides, and where it is not all there it is Complete, but Incomplete for
-- a heartbeat. What is left is 0x17, application data, which may be empty
unfoldable pub record_type_case : ℕ → List ℕ → ℕ
record_type_case t content =
    let first = be 1 content 0 in
    in_order (less t 0x14 Switch ∷ over t 0x18 Switch ∷ [])
    (beside t
    ((0x14, in_order (under content 1 Complete ∷ less first 1 LengthValue ∷ over first 1 LengthValue ∷ []) 0)
    ∷ (0x15, in_order (under content 1 Complete ∷ less first 1 LengthValue ∷ over first 2 LengthValue ∷ under content 2 Complete ∷ []) 0)
    ∷ (0x16, of_first (met_case 0 content))
    ∷ (0x18, heartbeat_case content)
    ∷ [])
    0)

-- RULES 6.2: a plaintext record, whose type decides at last
unfoldable pub plaintext_case : List ℕ → ℕ
plaintext_case s = in_order (record_checks s) (record_type_case (be 1 s 0) (take (be 2 s 3) (drop 5 s)))

-- RULES 6.20: joined records, the refusal of the first, Complete where it is Incomplete
unfoldable pub many_case : List ℕ → ℕ
many_case s = of_first (plaintext_case s)

-- RULES 2.8: NoSuch from the count on
unfoldable pub place_case : ℕ → ℕ → ℕ
place_case k count = in_order ((leb count k, NoSuch) ∷ []) 0

-- the item (length w, bytes) that begins at a place, where one fits
unfoldable pub item_case : ℕ → ℕ → List ℕ → ℕ
item_case w at s = in_order (under s (at + w) NoSuch ∷ under s (at + w + be w s at) NoSuch ∷ []) 0

-- RULES 2.7: how many of them stand from a place on, up to the first that does not fit; `most` is a
-- bound for the recursion
unfoldable pub item_count_of : ℕ → ℕ → ℕ → List ℕ → ℕ
item_count_of zero w at s = 0
item_count_of (suc most) w at s = pick (eqb (item_case w at s) 0) (suc (item_count_of most w (at + w + be w s at) s)) 0

-- where there is none, whatever the refusal, NoSuch
abbrev pub or_none : ℕ → ℕ
or_none c = pick (eqb c 0) 0 (number_of NoSuch)

-- RULES 6.8: the walk at a place, NoSuch past the last message
unfoldable pub walk_case : ℕ → List ℕ → ℕ
walk_case at s = or_none (met_case at s)

-- the same by the record's type; behind a message that is the whole content it is ended
unfoldable pub walk_by_type_case : TlsRecordWalk → List ℕ → ℕ
walk_by_type_case w s = in_order ((w.ended, NoSuch) ∷ []) (or_none (found_case w.record_type w.next s))

-- RULES 6.20: the walk over joined records, NoSuch at the first that is refused
unfoldable pub walk_records_case : ℕ → List ℕ → ℕ
walk_records_case at s = or_none (plaintext_case (drop at s))

infixr 60 ◌&◌
-- of each of a list, in order
pub data All {A : Type 0} (P : A → Type 0) : List A → Type 0 where
  end : All P []
  ◌&◌ : {x : A} {xs : List A} → P x → All P xs → All P (x ∷ xs)

-- a reader, its case, its refusals: whatever is lent, its number is that of the case and it gives
-- no other refusal; and it gives each of them
pub record Gives {L A : Type 0} (reader : L → Answer A) (case : L → ℕ) (whys : List Reason) : Type 0 where
  pub equal : (lent : L) → number_in (reader lent) ≡ case lent
  pub only : (lent : L) → OneOf whys (number_in (reader lent))
  pub each : All (λ why. (lent : L) × (number_in (reader lent) ≡ number_of why)) whys

-- a reader that is told something besides the bytes: a length, a type, a place
abbrev pub GivesTold : {P A : Type 0} → (P → List ℕ → Answer A) → (P → List ℕ → ℕ) → List Reason → Type 0
GivesTold {P} reader case whys = Gives (λ (lent : P × List ℕ). reader lent.0 lent.1) (λ lent. case lent.0 lent.1) whys

-- the refusals of a message: Complete is a CertificateRequest's; in a record also of a first
-- message that is not all there
abbrev pub of_message : List Reason
of_message = Incomplete ∷ Complete ∷ Verify ∷ LengthValue ∷ Tag ∷ Switch ∷ []

-- every reader, its case, its refusals
pub record Readers : Type 0 where
  -- the hellos, and what two of them begin with
  pub hello_start : Gives (reading hello_start) start_case (Incomplete ∷ Verify ∷ [])
  pub client_hello : Gives (reading client) client_case (Incomplete ∷ Verify ∷ LengthValue ∷ [])
  pub strict_hello : Gives strict_client strict_case (Incomplete ∷ Verify ∷ LengthValue ∷ [])
  pub server_hello : (hasExt : Bool) → Gives (reading (server hasExt)) server_case (Incomplete ∷ Verify ∷ [])
  pub server_by_version : Gives (by_version server_versions) by_version_case (Incomplete ∷ Verify ∷ Tag ∷ [])
  pub draft18_hello : Gives (reading draft18) draft18_case (Incomplete ∷ [])
  -- the other bodies
  pub of_retry : Gives (reading retry) retry_case (Incomplete ∷ [])
  pub of_ticket : GivesTold session_ticket ticket_case (Incomplete ∷ Verify ∷ LengthValue ∷ [])
  pub of_certificate : Gives (reading certificate) certificate_case (Incomplete ∷ [])
  pub of_request : Gives certificate_request request_case (Complete ∷ [])
  pub of_status : Gives (reading status) status_case (Incomplete ∷ [])
  pub of_next_protocol : Gives (reading next_protocol) next_protocol_case (Incomplete ∷ [])
  pub key_update : Gives (λ s. number_at 1 s 0) key_update_case (Incomplete ∷ [])
  -- the same as messages: the ServerHello of either kind, bodies handed out whole; every other is a
  -- row of `opened_case`
  pub server_as : Gives server_message server_message_case (Incomplete ∷ Verify ∷ Tag ∷ [])
  pub whole_as : (make : View → TlsMessageHandshake) → GivesTold (whole_body make) whole_case (Incomplete ∷ [])
  -- a body by its type, of every type; a message and its head
  pub opens : (n : ℕ) → GivesTold (λ k. opened k n) (λ k. opened_case k n) of_message
  pub opens_all : GivesTold by_type body_case of_message
  pub heads : (at : ℕ) → Gives (λ s. head_at s at) (head_case at) (Incomplete ∷ [])
  pub meets : GivesTold (λ at s. met_at s at) met_case of_message
  pub meets_head : GivesTold (λ at s. met_head s at) met_case of_message
  pub message_first : Gives message (met_case 0) of_message
  -- the messages of other records, at a place and at the front; application data gives no refusal
  pub cipher_specs : GivesTold (λ at s. cipher_spec_at s at) cipher_spec_case (Incomplete ∷ LengthValue ∷ [])
  pub cipher_spec_first : Gives change_cipher_spec_of (cipher_spec_case 0) (Incomplete ∷ LengthValue ∷ [])
  pub alerts : GivesTold (λ at s. alert_at s at) alert_case (Incomplete ∷ LengthValue ∷ [])
  pub alerts_first : Gives alert_first (alert_case 0) (Incomplete ∷ LengthValue ∷ [])
  pub application : Gives application_data application_case []
  pub heartbeats : Gives heartbeat heartbeat_case (Incomplete ∷ LengthValue ∷ [])
  pub heartbeats_in : GivesTold heartbeat_in heartbeat_in_case (Incomplete ∷ LengthValue ∷ [])
  pub heartbeats_of : GivesTold heartbeat_of heartbeat_in_case (Incomplete ∷ LengthValue ∷ [])
  -- the message at a place by the type of its record, and where it ends
  pub meets_by_type : GivesTold (λ (told : ℕ × ℕ) s. found_at told.0 s told.1) (λ told. found_case told.0 told.1) of_message
  pub meets_end : GivesTold (λ (told : ℕ × ℕ) s. past_at told.0 s told.1) (λ told. found_case told.0 told.1) of_message
  -- records
  pub record_header : Gives header header_case (Incomplete ∷ [])
  pub raw_record : Gives (reading raw) raw_case (Incomplete ∷ TooLarge ∷ [])
  pub encrypted_record : Gives encrypted raw_case (Incomplete ∷ TooLarge ∷ [])
  pub record_at : GivesTold (λ at s. record_from s at) (λ at s. raw_case (drop at s)) (Incomplete ∷ TooLarge ∷ [])
  -- the content of a record by its type, whatever the place where it begins; and by a header
  pub content_first : (at : ℕ) → GivesTold (λ t. first_of t at) record_type_case of_message
  pub content_of : GivesTold with_header (λ hdr. record_type_case hdr.record_type) of_message
  pub plaintext_record : Gives plaintext plaintext_case (TooLarge ∷ of_message)
  pub plaintext_opened : Gives opened_first plaintext_case (TooLarge ∷ of_message)
  pub plaintext_met : Gives record_met plaintext_case (TooLarge ∷ of_message)
  -- joined ones: the record at a place, and all of them
  pub plaintext_at : GivesTold (λ at s. plaintext_from s at) (λ at s. plaintext_case (drop at s)) (TooLarge ∷ of_message)
  pub plaintext_many : Gives many many_case (TooLarge ∷ Complete ∷ Verify ∷ LengthValue ∷ Tag ∷ Switch ∷ [])
  -- list places: of any field's items, of items (length w, bytes), of numbers of w bytes
  pub places : (f : Field) (k : ℕ) → Gives (λ s. place k (items f s)) (λ s. place_case k (length (items f s))) (NoSuch ∷ [])
  pub item_places : (w k : ℕ) → Gives (λ s. place k (items (sized w) s)) (λ s. place_case k (item_count_of (length s) w 0 s)) (NoSuch ∷ [])
  pub number_places : (w k : ℕ) → 1 ≤ w → Gives (number_place k w) (λ s. place_case k (length s / w)) (NoSuch ∷ [])
  -- the item (length w, bytes) and the number of w bytes at a place of the bytes
  pub items_from_place : (w : ℕ) → GivesTold (λ at s. item_from (sized w) s at) (item_case w) (NoSuch ∷ [])
  pub numbers : (w : ℕ) → GivesTold (λ at s. number_at w s at) (λ at. whole_case (at + w)) (Incomplete ∷ [])
  -- the walk over a handshake record's content, over one of any type, and over joined records
  pub walks : (w : TlsHandshakeWalk) → Gives (λ s. next_message s w) (walk_case w.next) (NoSuch ∷ [])
  pub walks_by_type : GivesTold (λ w s. nextByType s w) walk_by_type_case (NoSuch ∷ [])
  pub walks_records : (w : TlsRecordsWalk) → Gives (λ s. next_record s w) (walk_records_case w.next) (NoSuch ∷ [])
  -- the refusals alone, of numbers of any width and of any field's items
  pub any_number_place : (w k : ℕ) (s : List ℕ) → OneOf (NoSuch ∷ []) (number_in (number_place k w s))
  pub any_item_from : (f : Field) (at : ℕ) (s : List ℕ) → OneOf (NoSuch ∷ []) (number_in (item_from f s at))
