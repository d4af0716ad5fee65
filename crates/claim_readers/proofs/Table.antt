-- The table of `specs/Readers.antt`, a row each: the law of its numbers, which refusals its case
-- gives, and some bytes for each of them. Assumes nothing.
use Prim.Native.Nat.{ℕ, zero, suc, ◌+◌, ◌≤◌}
use mathlib.Core.Path.{◌≡◌, refl, ap, sym, ◌∙◌}
use mathlib.Core.List.{List, [], ◌∷◌, ◌++◌}
use mathlib.Core.Bool.{true}
use native.Mathlib.Omega.{arith}
use borrow.Author.Tests.{le-leb, lt-ltb}
use lib.ListN.{length, replicate, drop}
use Rattle.refusal.specs.Answers.{Answer, number_in}
use Rattle.refusal.specs.Refusals.{number_of}
use Rattle.refusal.specs.declared.Reason.{Reason}
use Rattle.refusal.specs.declared.Reason.TheVariants.{Incomplete, Complete, Verify, LengthValue, Tag, Switch}
use Rattle.refusal.specs.declared.Reason.TheVariants.{TooLarge, NoSuch}
use Rattle.wire.specs.Numbers.{be}
use Rattle.field.specs.Fields.{step}
use Rattle.list.specs.Items.{items, items_from, item_from}
use Rattle.list.proofs.Fixed.{count_of}
use Rattle.content_walk.specs.declared.TlsRecordWalk.{TlsRecordWalk}
use Rattle.record.specs.declared.TlsRecordHeader.{TlsRecordHeader}
use Rattle.claim_readers.specs.Readers.{Check, in_order, under, beside, start_case, client_case, strict_case, server_case}
use Rattle.claim_readers.specs.Readers.{by_version_case, draft18_case, server_message_case, retry_case, ticket_case}
use Rattle.claim_readers.specs.Readers.{certificate_case, request_case, status_case, next_protocol_case}
use Rattle.claim_readers.specs.Readers.{key_update_case, whole_case, opened_case, body_case, head_case, met_case}
use Rattle.claim_readers.specs.Readers.{header_case, raw_case, cipher_spec_case, alert_case, application_case}
use Rattle.claim_readers.specs.Readers.{heartbeat_case, heartbeat_in_case, found_case, record_type_case}
use Rattle.claim_readers.specs.Readers.{plaintext_case, many_case, place_case, item_case, item_count_of, or_none}
use Rattle.claim_readers.specs.Readers.{walk_case, walk_by_type_case, walk_records_case, All, ◌&◌, end, Gives, of_message}
use Rattle.claim_readers.specs.Readers.{Readers}
use Rattle.claim_readers.proofs.Readers.{client_hello_lem, start_hello, server_hello_lem, server_by_version_lem}
use Rattle.claim_readers.proofs.Strict.{strict_hello_lem}
use Rattle.claim_readers.proofs.Readers.{draft18_hello_lem, of_retry_lem, of_ticket_lem, of_certificate_lem, of_request_lem}
use Rattle.claim_readers.proofs.Readers.{of_status_lem, of_next_protocol_lem, server_as_lem, key_update_lem, whole_as_lem, opens}
use Rattle.claim_readers.proofs.Readers.{opens_all_lem, heads, meets, meets_head_lem, message_first_lem, record_header_lem}
use Rattle.claim_readers.proofs.Readers.{raw_record_lem, encrypted_record_lem, record_at_lem, cipher_specs_lem}
use Rattle.claim_readers.proofs.Readers.{cipher_spec_first_lem, alerts, alerts_first_lem, application, heartbeats}
use Rattle.claim_readers.proofs.Readers.{heartbeats_in_lem, heartbeats_of_lem, meets_by_type_lem, meets_end_lem, content_first_lem}
use Rattle.claim_readers.proofs.Readers.{content_of_lem, plaintext_record_lem, plaintext_opened_lem, plaintext_met_lem}
use Rattle.claim_readers.proofs.Readers.{plaintext_at_lem, plaintext_many_lem, number_place_lem, items_from_place_lem}
use Rattle.claim_readers.proofs.Readers.{item_places_lem, number_places_lem, any_number_place_lem, numbers, walks}
use Rattle.claim_readers.proofs.Readers.{walks_by_type_lem, walks_records_lem}
use Rattle.claim_readers.proofs.Only.{Only, none_refused, checks_only, only_order, strict_only, server_message_only, opened_only}
use Rattle.claim_readers.proofs.Only.{met_only, heartbeat_in_only, found_only, content_only, plaintext_only, many_only}
use Rattle.claim_readers.proofs.Only.{place_only, walk_only, walk_by_type_only, walk_records_only, no_such}

-- a ClientHello with a cipher length of 1
abbrev odd_ciphers : List ℕ
odd_ciphers = replicate 34 0 ++ (0x00 ∷ 0x00 ∷ 0x01 ∷ [])

-- a ServerHello with a session id of 33 bytes
abbrev long_id : List ℕ
long_id = 0x03 ∷ 0x03 ∷ (replicate 32 0 ++ (0x21 ∷ []))

-- a ServerHello of a version that is not listed
abbrev version0400 : List ℕ
version0400 = 0x04 ∷ 0x00 ∷ []

-- messages: an empty CertificateRequest, an empty ticket, a ClientHello, a ServerHello of version
-- 0x0400, one of type 0x03
abbrev empty_request : List ℕ
empty_request = 0x0d ∷ 0x00 ∷ 0x00 ∷ 0x00 ∷ []

abbrev empty_ticket : List ℕ
empty_ticket = 0x04 ∷ 0x00 ∷ 0x00 ∷ 0x00 ∷ []

abbrev odd_hello : List ℕ
odd_hello = 0x01 ∷ 0x00 ∷ 0x00 ∷ 0x25 ∷ odd_ciphers

abbrev later_hello : List ℕ
later_hello = 0x02 ∷ 0x00 ∷ 0x00 ∷ 0x02 ∷ version0400

abbrev no_type : List ℕ
no_type = 0x03 ∷ 0x00 ∷ 0x00 ∷ 0x00 ∷ []

-- a handshake record of under 256 bytes
abbrev handshake : List ℕ → List ℕ
handshake content = 0x16 ∷ 0x03 ∷ 0x01 ∷ 0x00 ∷ length content ∷ content

-- a record whose length is 16,641
abbrev too_large : List ℕ
too_large = 0x16 ∷ 0x03 ∷ 0x01 ∷ 0x41 ∷ 0x01 ∷ []

-- a walk behind a message that is the whole content
abbrev behind_all : TlsRecordWalk
behind_all = record { record_type = 0x17; body = record { start = 0; len = 0 }; next = 0; ended = true }

-- no bytes from any place on
drop_none : (n : ℕ) → ◌≡◌ {A = List ℕ} (drop n []) []
drop_none zero = refl
drop_none (suc n) = refl

-- something lent for each of these numbers
abbrev Lent : {L : Type 0} → (L → ℕ) → List Reason → Type 0
Lent {L} number whys = All (λ why. (lent : L) × (number lent ≡ number_of why)) whys

-- the same for other numbers, where they are these
lent_too : {L M : Type 0} (f : L → M) (number : L → ℕ) (other : M → ℕ) → ((lent : L) → other (f lent) ≡ number lent)
    → (whys : List Reason)
    → Lent number whys → Lent other whys
lent_too f number other e [] end = end
lent_too f number other e (why ∷ whys) (x & xs) = (f x.0, e x.0 ∙ x.1) & lent_too f number other e whys xs

-- a row: the law of its numbers, which refusals its case gives, and something lent for each of them
row : {L A : Type 0} {reader : L → Answer A} {case : L → ℕ} {whys : List Reason}
    → ((lent : L) → number_in (reader lent) ≡ case lent)
    → ((lent : L) → Only whys (case lent)) → Lent case whys → Gives reader case whys
row {reader} {case} {whys} e o x = record {
  equal = e;
  only = λ lent. rw (e lent) (o lent).given;
  each = lent_too (λ lent. lent) case (λ lent. number_in (reader lent)) e whys x;
}

-- no bytes are under one and more
none_under : (n : ℕ) (why : Reason) (rest : List Check) (k : ℕ) → 1 ≤ n
    → in_order (under [] n why ∷ rest) k ≡ number_of why
unfolding in_order
none_under n why rest k h = rw (lt-ltb 0 n h)

-- an empty list has no place
none_there : (k : ℕ) → place_case k 0 ≡ number_of NoSuch
unfolding place_case in_order
none_there k = rw (le-leb 0 k (omega arith))

-- a message for each of its refusals
messages : Lent (met_case 0) of_message
unfolding met_case body_case opened_case client_case server_message_case by_version_case ticket_case request_case in_order beside be
messages = ([], refl) & (empty_request, refl) & (empty_ticket, refl) & (odd_hello, refl) & (later_hello, refl)
    & (no_type, refl) & end

-- at a place that is told, the front
messages_at : Lent (λ (lent : ℕ × List ℕ). met_case lent.0 lent.1) of_message
messages_at = lent_too (λ s. (0, s)) (met_case 0) (λ lent. met_case lent.0 lent.1) (λ s. refl) of_message messages

-- and by the type of a handshake record
messages_by_type : Lent (λ (lent : (ℕ × ℕ) × List ℕ). found_case lent.0.0 lent.0.1 lent.1) of_message
unfolding found_case beside
messages_by_type =
    lent_too (λ s. ((0x16, 0), s)) (met_case 0)
    (λ (lent : (ℕ × ℕ) × List ℕ). found_case lent.0.0 lent.0.1 lent.1)
    (λ s. refl) of_message messages

-- the content of a handshake record for each of its refusals; Incomplete is a heartbeat's
contents : Lent (λ (lent : ℕ × List ℕ). record_type_case lent.0 lent.1) of_message
unfolding record_type_case heartbeat_case met_case body_case opened_case client_case server_message_case by_version_case ticket_case in_order beside be
contents =
    ((0x18, []), refl)
    & ((0x16, []), refl)
    & ((0x16, empty_ticket), refl)
    & ((0x16, odd_hello), refl)
    & ((0x16, later_hello), refl)
    & ((0x16, no_type), refl)
    & end

-- by a header
contents_of_lem : Lent (λ (lent : TlsRecordHeader × List ℕ). record_type_case lent.0.record_type lent.1) of_message
contents_of_lem =
    lent_too (λ (lent : ℕ × List ℕ). (record { record_type = lent.0; version = 0x0303; len = 0 }, lent.1))
    (λ lent. record_type_case lent.0 lent.1) (λ lent. record_type_case lent.0.record_type lent.1)
    (λ lent. refl) of_message contents

-- a plaintext record for each of its refusals
records : Lent plaintext_case (TooLarge ∷ of_message)
unfolding plaintext_case record_type_case met_case body_case opened_case client_case server_message_case by_version_case ticket_case in_order beside be
records =
    (too_large, refl)
    & ([], refl)
    & (handshake [], refl)
    & (handshake empty_ticket, refl)
    & (handshake odd_hello, refl)
    & (handshake later_hello, refl)
    & (handshake no_type, refl)
    & end

-- at a place that is told, the front
records_at : Lent (λ (lent : ℕ × List ℕ). plaintext_case (drop lent.0 lent.1)) (TooLarge ∷ of_message)
records_at =
    lent_too (λ s. (0, s)) plaintext_case (λ lent. plaintext_case (drop lent.0 lent.1)) (λ s. refl)
    (TooLarge ∷ of_message) records

-- joined ones, the first alone
joined : Lent many_case (TooLarge ∷ Complete ∷ Verify ∷ LengthValue ∷ Tag ∷ Switch ∷ [])
unfolding many_case plaintext_case record_type_case met_case body_case opened_case client_case server_message_case by_version_case ticket_case in_order beside be
joined =
    (too_large, refl)
    & ([], refl)
    & (handshake empty_ticket, refl)
    & (handshake odd_hello, refl)
    & (handshake later_hello, refl)
    & (handshake no_type, refl)
    & end

pub every_reading : Readers
unfolding start_case client_case strict_case server_case by_version_case draft18_case server_message_case retry_case ticket_case certificate_case request_case status_case next_protocol_case key_update_case whole_case opened_case body_case
    head_case met_case header_case raw_case cipher_spec_case alert_case application_case heartbeat_case heartbeat_in_case
    found_case many_case item_case walk_case walk_by_type_case walk_records_case item_from
every_reading = record {
  hello_start = row start_hello (λ s. checks_only _ refl) (unfold in_order be in ([], refl) & (long_id, refl) & end);
  client_hello =
      row client_hello_lem (λ s. checks_only _ refl)
      (unfold in_order be in ([], refl) & (long_id, refl) & (odd_ciphers, refl) & end);
  strict_hello =
      row strict_hello_lem strict_only
      (unfold in_order be in ([], refl) & (long_id, refl) & (odd_ciphers, refl) & end);
  server_hello =
      λ hasExt. row (server_hello_lem hasExt) (λ s. checks_only _ refl)
      (unfold in_order be in ([], refl) & (long_id, refl) & end);
  server_by_version =
      row server_by_version_lem (λ s. only_order _ refl (checks_only _ refl))
      (unfold in_order be in ([], refl) & (long_id, refl) & (version0400, refl) & end);
  draft18_hello = row draft18_hello_lem (λ s. checks_only _ refl) (unfold in_order in ([], refl) & end);
  of_retry = row of_retry_lem (λ s. checks_only _ refl) (unfold in_order in ([], refl) & end);
  of_ticket =
      row (λ (n, s). of_ticket_lem n s) (λ (n, s). checks_only _ refl)
      (unfold in_order in ((4, []), refl) & ((0, []), refl) & ((4, replicate 4 0), refl) & end);
  of_certificate = row of_certificate_lem (λ s. checks_only _ refl) (unfold in_order in ([], refl) & end);
  of_request = row of_request_lem (λ s. checks_only _ refl) (unfold in_order in ([], refl) & end);
  of_status = row of_status_lem (λ s. checks_only _ refl) (unfold in_order in ([], refl) & end);
  of_next_protocol = row of_next_protocol_lem (λ s. checks_only _ refl) (unfold in_order in ([], refl) & end);
  key_update = row key_update_lem (λ s. checks_only _ refl) (unfold in_order in ([], refl) & end);
  server_as =
      row server_as_lem server_message_only (unfold in_order be in ([], refl) & (long_id, refl) & (version0400, refl) & end);
  whole_as =
      λ make. row (λ (n, s). whole_as_lem make n s) (λ (n, s). checks_only _ refl)
      (unfold in_order in ((1, []), refl) & end);
  opens =
      λ n. row (λ (k, s). opens n k s) (λ (k, s). opened_only n k s)
      (unfold in_order beside be in
      ((0x01, []), refl) & ((0x0d, []), refl) & ((0x01, long_id), refl) & ((0x01, odd_ciphers), refl)
      & ((0x02, version0400), refl) & ((0x03, []), refl) & end);
  opens_all =
      row (λ (k, s). opens_all_lem k s) (λ (k, s). opened_only (length s) k s)
      (unfold in_order beside be in
      ((0x01, []), refl) & ((0x0d, []), refl) & ((0x01, long_id), refl) & ((0x01, odd_ciphers), refl)
      & ((0x02, version0400), refl) & ((0x03, []), refl) & end);
  heads = λ at. row (heads at) (λ s. checks_only _ refl) (([], none_under (at + 4) Incomplete _ 0 (omega arith)) & end);
  meets = row (λ (at, s). meets at s) (λ (at, s). met_only at s) messages_at;
  meets_head = row (λ (at, s). meets_head_lem at s) (λ (at, s). met_only at s) messages_at;
  message_first = row message_first_lem (met_only 0) messages;
  cipher_specs =
      row (λ (at, s). cipher_specs_lem at s) (λ (at, s). checks_only _ refl)
      (unfold in_order be in ((0, []), refl) & ((0, 0x00 ∷ []), refl) & end);
  cipher_spec_first =
      row cipher_spec_first_lem (λ s. checks_only _ refl) (unfold in_order be in ([], refl) & (0x00 ∷ [], refl) & end);
  alerts =
      row (λ (at, s). alerts at s) (λ (at, s). checks_only _ refl)
      (unfold in_order be in ((0, []), refl) & ((0, 0x00 ∷ []), refl) & end);
  alerts_first = row alerts_first_lem (λ s. checks_only _ refl) (unfold in_order be in ([], refl) & (0x00 ∷ [], refl) & end);
  application = row application (λ s. none_refused) end;
  heartbeats =
      row heartbeats (λ s. checks_only _ refl)
      (unfold in_order be in ([], refl) & (0x00 ∷ 0x00 ∷ 0x00 ∷ [], refl) & end);
  heartbeats_in =
      row (λ (n, s). heartbeats_in_lem n s) (λ (n, s). heartbeat_in_only n s)
      (unfold in_order be in ((1, []), refl) & ((3, 0x00 ∷ 0x00 ∷ 0x00 ∷ []), refl) & end);
  heartbeats_of =
      row (λ (n, s). heartbeats_of_lem n s) (λ (n, s). heartbeat_in_only n s)
      (unfold in_order be in ((1, []), refl) & ((3, 0x00 ∷ 0x00 ∷ 0x00 ∷ []), refl) & end);
  meets_by_type = row (λ ((t, at), s). meets_by_type_lem t at s) (λ ((t, at), s). found_only t at s) messages_by_type;
  meets_end = row (λ ((t, at), s). meets_end_lem t at s) (λ ((t, at), s). found_only t at s) messages_by_type;
  record_header = row record_header_lem (λ s. checks_only _ refl) (unfold in_order in ([], refl) & end);
  raw_record = row raw_record_lem (λ s. checks_only _ refl) (unfold in_order be in ([], refl) & (too_large, refl) & end);
  encrypted_record =
      row encrypted_record_lem (λ s. checks_only _ refl) (unfold in_order be in ([], refl) & (too_large, refl) & end);
  record_at =
      row (λ (at, s). record_at_lem at s) (λ (at, s). checks_only _ refl)
      (unfold in_order be in ((0, []), refl) & ((0, too_large), refl) & end);
  content_first = λ at. row (λ (t, s). content_first_lem at t s) (λ (t, s). content_only t s) contents;
  content_of =
      row (λ (hdr, s). content_of_lem hdr s) (λ (hdr, s). content_only hdr.record_type s) contents_of_lem;
  plaintext_record = row plaintext_record_lem plaintext_only records;
  plaintext_opened = row plaintext_opened_lem plaintext_only records;
  plaintext_met = row plaintext_met_lem plaintext_only records;
  plaintext_at = row (λ (at, s). plaintext_at_lem at s) (λ (at, s). plaintext_only (drop at s)) records_at;
  plaintext_many = row plaintext_many_lem many_only joined;
  places = λ f k. row (λ s. number_place_lem k (items f s)) (λ s. place_only k _)
      (unfold items_from in ([], none_there k) & end);
  item_places = λ w k. row (item_places_lem w k) (λ s. place_only k _) (unfold item_count_of in ([], none_there k) & end);
  number_places =
      λ w k one. row (number_places_lem w k one) (λ s. place_only k _)
      (unfold items_from in ([], sym (ap (place_case k) (count_of w one [])) ∙ none_there k) & end);
  items_from_place =
      λ w. row (λ (at, s). items_from_place_lem w at s) (λ (at, s). checks_only _ refl)
      (((1, []), none_under (1 + w) NoSuch _ 0 (omega arith)) & end);
  numbers =
      λ w. row (λ (at, s). numbers w at s) (λ (at, s). checks_only _ refl)
      (((1, []), none_under (1 + w) Incomplete [] 0 (omega arith)) & end);
  walks =
      λ w. row (walks w) (walk_only w.next)
      (([], ap or_none (none_under (w.next + 4) Incomplete _ _ (omega arith))) & end);
  walks_by_type =
      row (λ (w, s). walks_by_type_lem w s) (λ (w, s). walk_by_type_only w s)
      (unfold in_order in ((behind_all, []), refl) & end);
  walks_records =
      λ w. row (walks_records_lem w) (walk_records_only w.next)
      (unfold plaintext_case in_order in ([], ap (λ (s : List ℕ). or_none (plaintext_case s)) (drop_none w.next)) & end);
  any_number_place = λ w k s. rw (any_number_place_lem w k s) (place_only k _).given;
  any_item_from = λ f at s. (no_such (step f s at)).given;
}
