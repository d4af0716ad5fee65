-- The readers' numbers are the cases of `specs/Readers.antt`: a law for each row of its table.
-- Assumes nothing.
use Prim.Native.Nat.{ℕ, zero, suc, ◌+◌, ◌-◌, ◌%◌, ◌/◌, ◌≤◌, ◌<◌}
use native.Mathlib.Nat.{zero-add, add-zero}
use mathlib.Core.Path.{◌≡◌, refl, ap, sym, ◌∙◌}
use mathlib.Core.List.{List, [], ◌∷◌}
use mathlib.Core.Bool.{Bool, true, false}
use mathlib.Core.Option.{Option, none, some}
use native.Mathlib.Omega.{arith}
use borrow.Author.Tests.{leb-true, leb-false, eqb-true, eqb-false, eq-eqb, ne_eqb, lt-ltb, le-ltb, ltb-true}
use lib.ListN.{length, drop}
use lib.Dec.{leb, ltb, eqb}
use Rattle.refusal.specs.Answers.{Answer, accepted, refused, then, giving, within, number_in}
use Rattle.refusal.specs.Refusals.{number_of, refusal, unplaced}
use Rattle.refusal.specs.declared.Reason.TheVariants.{Incomplete, Complete, Verify, LengthValue, Tag, Switch}
use Rattle.refusal.specs.declared.Reason.TheVariants.{TooLarge, NoSuch}
use Rattle.refusal.specs.declared.Refusal.{Refusal}
use Rattle.refusal.proofs.Told.{its_reason, unplaced_reason, inside_reason}
use Rattle.refusal.proofs.Then.{then_accepted}
use Rattle.wire.specs.Parts.{pick, if_some, lookup, part_of}
use Rattle.wire.specs.Numbers.{be, number_at}
use Rattle.wire.specs.declared.view.View.{View}
use Rattle.wire.specs.declared.view.Part.{Part}
use Rattle.wire.proofs.Parts.{fits}
use Rattle.wire.proofs.Numbers.{number_is}
use Rattle.field.specs.Fields.{Field, sized, rule_of, step, ruled}
use Rattle.field.specs.declared.RuleName.TheVariants.{Plain}
use Rattle.field.proofs.Rules.{ruled_accepted}
use Rattle.grammar.specs.Forms.{reading, by_version, if_listed}
use Rattle.list.specs.Items.{items, items_from, place, item_from, number_place, or_no_such}
use Rattle.list.proofs.Walk.{place_past, place_below}
use Rattle.list.proofs.Fixed.{count_of}
use Rattle.read_start.specs.Start.{hello_start}
use Rattle.read_client.specs.Client.{client}
use Rattle.read_server.specs.Server.{server, server_versions, draft18}
use Rattle.read_certs.specs.Certs.{certificate, request, certificate_request, status}
use Rattle.read_others.specs.Body.{retry, session_ticket, next_protocol}
use Rattle.read_others.proofs.Tickets.{under_4, past_end, too_few, missing, unlike, like, which}
use Rattle.read_others.proofs.Tickets.{Which, short, past, lacking, wrong, right}
use Rattle.message.specs.declared.handshake.TlsMessageHandshake.{TlsMessageHandshake}
use Rattle.message.specs.declared.handshake.TlsMessageHandshake.TheVariants.{ServerHello, ServerHelloV13Draft18}
use Rattle.open_hellos.specs.HelloMessages.{server_message}
use Rattle.open_whole.specs.Whole.{whole_body}
use Rattle.envelope.specs.declared.TlsMessageHead.{TlsMessageHead}
use Rattle.envelope.specs.Opening.{head_at, Met, openings, opened, by_type, by_type_in, met_at, message}
use Rattle.content.specs.Contents.{one_or_two, cipher_spec_at, alert_at, heartbeat, heartbeat_in, change_cipher_spec_of}
use Rattle.content.specs.Contents.{alert_first, application_data, heartbeat_of}
use Rattle.content.specs.declared.TlsMessage.TheVariants.{Alert, ChangeCipherSpec, Heartbeat}
use Rattle.record_walk.specs.Walks.{met_head, next_message}
use Rattle.record_walk.specs.declared.TlsHandshakeWalk.{TlsHandshakeWalk}
use Rattle.content_walk.specs.ContentWalks.{cipher_spec_found, alert_found, handshake_found, application_found}
use Rattle.content_walk.specs.ContentWalks.{heartbeat_found, found_at, past_at, is_single, next_message as nextByType}
use Rattle.content_walk.specs.declared.TlsFound.{TlsFound}
use Rattle.content_walk.specs.declared.TlsRecordWalk.{TlsRecordWalk}
use Rattle.record.specs.Records.{header, raw, encrypted}
use Rattle.record.specs.declared.TlsRecordHeader.{TlsRecordHeader}
use Rattle.record.specs.declared.TlsRawRecord.{TlsRawRecord}
use Rattle.record_open.specs.Plaintext.{first_refusal, as_first, of_content, as_content, first_of, contents}
use Rattle.record_open.specs.Plaintext.{plain_record, opened_first, plaintext, with_header, record_met}
use Rattle.record_many.specs.Many.{plaintext_from, many, records_told, next_record}
use Rattle.record_many.specs.declared.TlsRecordsWalk.{TlsRecordsWalk}
use Rattle.record_joined.specs.Joined.{record_from}
use Rattle.claim_readers.specs.Readers.{◌&◌, end, in_order, less, over, beside, client_case, start_case, server_case}
use Rattle.claim_readers.specs.Readers.{by_version_case, draft18_case, server_message_case, retry_case, ticket_case}
use Rattle.claim_readers.specs.Readers.{certificate_case, request_case, status_case, next_protocol_case}
use Rattle.claim_readers.specs.Readers.{key_update_case, whole_case, opened_case, body_case, head_checks, head_case}
use Rattle.claim_readers.specs.Readers.{met_case, cipher_spec_case, alert_case, application_case, heartbeat_case}
use Rattle.claim_readers.specs.Readers.{heartbeat_in_case, found_case, header_case, raw_case, of_first, record_type_case}
use Rattle.claim_readers.specs.Readers.{plaintext_case, many_case, place_case, item_case, item_count_of, walk_case}
use Rattle.claim_readers.specs.Readers.{walk_by_type_case, walk_records_case}
use Rattle.claim_readers.proofs.Checks.{number_on, number_within, number_else, number_pick, then_assoc, not_leb}
use Rattle.claim_readers.proofs.Checks.{not_even, by_test, fewer_first, part_taken, number_then, fixed_then}
use Rattle.claim_readers.proofs.Checks.{vector_then, form_then, form_number, by_number, outside, not_between}
use Rattle.claim_readers.proofs.Checks.{between, and_under, value_at}

pub client_hello_lem : (s : List ℕ) → number_in (reading client s) ≡ client_case s
unfolding client_case in_order
client_hello_lem s =
    let id = be 1 s 34 in
    let cs = be 2 s (35 + id) in
    let a : 35 + id + 2 ≡ 37 + id = omega arith in
    let b : 37 + id + cs + 1 ≡ 38 + id + cs = omega arith in
    let verify = by_test (leb id 32) (λ at behind. refusal Verify at 0) 34 35 (its_reason Verify 34 0) in
    let even =
    by_test (eqb (cs % 2) 0) (λ at behind. refusal LengthValue behind 0) (35 + id) (37 + id)
    (its_reason LengthValue (37 + id) 0) in
    rw (form_number client s, a, b, verify, even, not_leb, not_even)

pub start_hello : (s : List ℕ) → number_in (reading hello_start s) ≡ start_case s
unfolding start_case in_order
start_hello s =
    rw (
      form_number hello_start s,
      by_test (leb (be 1 s 34) 32) (λ at behind. refusal Verify at 0) 34 35 (its_reason Verify 34 0),
      not_leb,
    )

pub server_hello_lem : (hasExt : Bool) (s : List ℕ) → number_in (reading (server hasExt) s) ≡ server_case s
unfolding server_case in_order
server_hello_lem hasExt s =
    let e : 35 + be 1 s 34 + 2 + 1 ≡ 38 + be 1 s 34 = omega arith in
    rw (
      form_number (server hasExt) s,
      e,
      by_test (leb (be 1 s 34) 32) (λ at behind. refusal Verify at 0) 34 35 (its_reason Verify 34 0),
      not_leb,
    )

-- a version from 0x0300 to 0x0303 is listed, and no other
abbrev Listed : List ℕ → ℕ → Type 0
Listed s v =
    number_in (if_listed (lookup v server_versions) s) ≡ in_order (less v 0x0300 Tag ∷ over v 0x0303 Tag ∷ [])
    (server_case s)

listed : (s : List ℕ) (v : ℕ) → Listed s v
unfolding in_order
listed s v =
    by_number (Listed s) (0x0300 ∷ 0x0301 ∷ 0x0302 ∷ 0x0303 ∷ [])
    (server_hello_lem false s & server_hello_lem true s & server_hello_lem true s & server_hello_lem true s & end) v
    (λ (a, (b, (c, (d, _)))).
    let f : 0x0300 ≤ v → 0x0303 < v = λ h. omega (
      arith,
      eqb-false v 0x0300 a,
      eqb-false v 0x0301 b,
      eqb-false v 0x0302 c,
      eqb-false v 0x0303 d,
    ) in
    rw (a, b, c, d, its_reason Tag 0 0) (sym (outside 0x0300 0x0303 v (number_of Tag) (server_case s) f)))

pub server_by_version_lem : (s : List ℕ) → number_in (by_version server_versions s) ≡ by_version_case s
unfolding by_version by_version_case in_order
server_by_version_lem s = rw (number_then, listed s (be 2 s 0))

pub draft18_hello_lem : (s : List ℕ) → number_in (reading draft18 s) ≡ draft18_case s
unfolding draft18_case in_order
draft18_hello_lem s = form_number draft18 s

pub of_retry_lem : (s : List ℕ) → number_in (reading retry s) ≡ retry_case s
unfolding retry_case in_order
of_retry_lem s = form_number retry s

pub of_ticket_lem : (n : ℕ) (s : List ℕ) → number_in (session_ticket n s) ≡ ticket_case n s
unfolding ticket_case in_order
of_ticket_lem n s = go (which n s)
  where
    go : Which n s → number_in (session_ticket n s) ≡ ticket_case n s
    go (short h) = rw (lt-ltb n 4 h, under_4 n s h) (ap number_of (its_reason Verify 0 0))
    go (past h i) =
        rw (le-ltb n 4 h, lt-ltb (length s) n i, past_end n s h (too_few n s i))
        (ap number_of (its_reason Incomplete 0 (n - (length s - 0))))
    go (lacking h u i) =
        rw (le-ltb n 4 h, le-ltb (length s) n i, lt-ltb n 6 u, missing n s h u i)
        (ap number_of (its_reason LengthValue 4 0))
    go (wrong h i not) =
        rw (
          le-ltb n 4 (omega arith),
          le-ltb (length s) n i,
          le-ltb n 6 h,
          ne_eqb n (6 + be 2 s 4) (λ e. not (omega (arith, e))),
          unlike n s h i not,
        )
        (ap number_of (its_reason LengthValue 4 0))
    go (right h i q) =
        rw (
          le-ltb n 4 (omega arith),
          le-ltb (length s) n i,
          le-ltb n 6 h,
          eq-eqb n (6 + be 2 s 4) (omega (arith, q)),
          like n s h i q,
        )

pub of_certificate_lem : (s : List ℕ) → number_in (reading certificate s) ≡ certificate_case s
unfolding certificate_case in_order
of_certificate_lem s = form_number certificate s

-- two forms that ask for a and b bytes, then the first for d and e, the second for c: both lack
-- just where the second does, c being no more than d
abbrev EitherForm : ℕ → ℕ → ℕ → ℕ → ℕ → ℕ → Type 0
EitherForm l a b c d e =
    ◌≡◌ {A = ℕ}
    (pick (eqb (pick (ltb l a) 1 (pick (ltb l b) 1 (pick (ltb l d) 1 (pick (ltb l e) 1 0)))) 0) 0
    (pick (eqb (pick (ltb l a) 1 (pick (ltb l b) 1 (pick (ltb l c) 1 0))) 0) 0 2))
    (pick (ltb l a) 2 (pick (ltb l b) 2 (pick (ltb l c) 2 0)))

other_form : (l a b c d e : ℕ) → c ≤ d → EitherForm l a b c d e
other_form l a b c d e h = go (ltb l a) (ltb l b) (ltb l c) refl refl refl
  where
    same : (t : Bool) → ◌≡◌ {A = ℕ} (pick t 0 0) 0
    same true = refl
    same false = refl

    go : (t u v : Bool) → ltb l a ≡ t → ltb l b ≡ u → ltb l c ≡ v → EitherForm l a b c d e
    go true u v p q r = rw p
    go false true v p q r = rw (p, q)
    go false false true p q r = rw (p, q, r, lt-ltb l d (omega (arith, ltb-true l c r)))
    go false false false p q r = rw (p, q, r) (same (eqb (pick (ltb l d) 1 (pick (ltb l e) 1 0)) 0))

pub of_request_lem : (s : List ℕ) → number_in (certificate_request s) ≡ request_case s
unfolding certificate_request request_case in_order
of_request_lem s =
    let types = be 1 s 0 in
    let names = be 2 s (1 + types) in
    let e : 1 + types + 2 ≡ 3 + types = omega arith in
    rw (
      number_else,
      number_else,
      form_number (request true) s,
      form_number (request false) s,
      its_reason Complete 0 0,
      add-zero (1 + types),
      e,
    )
    (other_form (length s) 1 (3 + types) (3 + types + names) (3 + types + names + 2) _ (omega arith))

pub of_status_lem : (s : List ℕ) → number_in (reading status s) ≡ status_case s
unfolding status_case in_order
of_status_lem s = form_number status s

pub of_next_protocol_lem : (s : List ℕ) → number_in (reading next_protocol s) ≡ next_protocol_case s
unfolding next_protocol_case in_order
of_next_protocol_lem s =
    let e : 1 + be 1 s 0 + 1 ≡ 2 + be 1 s 0 = omega arith in
    rw (form_number next_protocol s, e)

as_message : {A : Type 0} (make : A → TlsMessageHandshake) (a : Answer A) → number_in (giving make a) ≡ number_in a
as_message make a = number_on a make

pub server_as_lem : (s : List ℕ) → number_in (server_message s) ≡ server_message_case s
unfolding server_message server_message_case in_order
server_as_lem s =
    let d = number_on (reading draft18 s) (λ c. ServerHelloV13Draft18 c) in
    let e = number_on (by_version server_versions s) (λ c. ServerHello c) in
    rw (number_then, number_pick, d, draft18_hello_lem s, e, server_by_version_lem s)

pub numbers : (w at : ℕ) (s : List ℕ) → number_in (number_at w s at) ≡ whole_case (at + w) s
unfolding whole_case
numbers w at s = sym (number_on (number_at w s at) (λ n. n)) ∙ number_then w s at (λ n. accepted n)

pub key_update_lem : (s : List ℕ) → number_in (number_at 1 s 0) ≡ key_update_case s
unfolding key_update_case whole_case
key_update_lem s = numbers 1 0 s

pub whole_as_lem : (make : View → TlsMessageHandshake) (n : ℕ) (s : List ℕ) → number_in (whole_body make n s) ≡ whole_case n s
unfolding whole_body whole_case in_order
whole_as_lem make n s = rw (fixed_then, zero-add)

pub opens : (n k : ℕ) (s : List ℕ) → number_in (opened k n s) ≡ opened_case k n s
unfolding opened opened_case beside
opens n k s =
    by_number (λ j. number_in (opened j n s) ≡ opened_case j n s)
    (0x00 ∷ 0x01 ∷ 0x02 ∷ 0x04 ∷ 0x05 ∷ 0x06 ∷ 0x0b ∷ 0x0c ∷ 0x0d ∷ 0x0e ∷ 0x0f ∷ 0x10 ∷ 0x14 ∷ 0x16 ∷ 0x18 ∷ 0x43 ∷ [])
    (refl
    & (as_message _ (reading client s) ∙ client_hello_lem s)
    & server_as_lem s
    & (as_message _ (session_ticket n s) ∙ of_ticket_lem n s)
    & refl
    & (as_message _ (reading retry s) ∙ of_retry_lem s)
    & (as_message _ (reading certificate s) ∙ of_certificate_lem s)
    & whole_as_lem _ n s
    & (as_message _ (certificate_request s) ∙ of_request_lem s)
    & whole_as_lem _ n s
    & whole_as_lem _ n s
    & whole_as_lem _ n s
    & whole_as_lem _ n s
    & (as_message _ (reading status s) ∙ of_status_lem s)
    & (as_message _ (number_at 1 s 0) ∙ key_update_lem s)
    & (as_message _ (reading next_protocol s) ∙ of_next_protocol_lem s)
    & end) k
    (λ (a, (b, (c, (d, (e, (f, (g, (h, (i, (j, (l, (m, (o, (p, (q, (r, _)))))))))))))))).
    rw (a, b, c, d, e, f, g, h, i, j, l, m, o, p, q, r, unplaced_reason Switch))

pub opens_all_lem : (k : ℕ) (s : List ℕ) → number_in (by_type k s) ≡ body_case k s
unfolding by_type body_case
opens_all_lem k s = opens (length s) k s

-- in its message it has the same number
opens_in : (at start k : ℕ) (s : List ℕ) → number_in (by_type_in at start k s) ≡ body_case k s
unfolding by_type_in by_type opened
opens_in at start k s = go (lookup k (openings (length s) s)) ∙ opens_all_lem k s
  where
    go : (o : Option (Answer TlsMessageHandshake))
        → number_in (if_some o (within start) (refused (refusal Switch at 0))) ≡ number_in
        (if_some o (λ a. a) (refused (unplaced Switch)))
    go none = ap number_of (its_reason Switch at 0 ∙ sym (unplaced_reason Switch))
    go (some a) = number_within start a

-- the head of a message at a place, where it is there
abbrev head_there : List ℕ → ℕ → TlsMessageHead
head_there s at =
    record {
      msg_type = be 1 s at;
      body = record { start = at + 4; len = be 3 s (at + 1) };
      next = at + 4 + be 3 s (at + 1);
    }

-- a message's head, and what follows
head_then : {B : Type 0} (s : List ℕ) (at : ℕ) (k : TlsMessageHead → Answer B)
    → number_in (then (head_at s at) k) ≡ in_order (head_checks at s) (number_in (k (head_there s at)))
unfolding head_at in_order
head_then s at k =
    let e : at + 1 + 3 ≡ at + 4 = omega arith in
    rw (then_assoc, number_then, then_assoc, vector_then, e, fewer_first (length s) (at + 1) (at + 4) _ _ (omega arith))

pub heads : (at : ℕ) (s : List ℕ) → number_in (head_at s at) ≡ head_case at s
unfolding head_case
heads at s = sym (number_on (head_at s at) (λ h. h)) ∙ head_then s at (λ h. accepted h)

abbrev met_there : List ℕ → ℕ → TlsMessageHandshake → Met
met_there s at m = record { head = head_there s at; says = m }

pub meets : (at : ℕ) (s : List ℕ) → number_in (met_at s at) ≡ met_case at s
unfolding met_at met_case in_order
meets at s =
    let msgType = be 1 s at in
    let m = number_on (by_type_in at (at + 4) msgType (part_of s (head_there s at).body)) (met_there s at) in
    rw (
      head_then,
      m,
      opens_in at (at + 4) msgType (part_of s (head_there s at).body),
      part_taken s (at + 4) (be 3 s (at + 1)) 1 (body_case msgType),
    )

pub meets_head_lem : (at : ℕ) (s : List ℕ) → number_in (met_head s at) ≡ met_case at s
unfolding met_head
meets_head_lem at s = number_on (met_at s at) (λ x. x.head) ∙ meets at s

pub message_first_lem : (s : List ℕ) → number_in (message s) ≡ met_case 0 s
unfolding message
message_first_lem s = number_on (met_at s 0) (λ x. x.says) ∙ meets 0 s

pub record_header_lem : (s : List ℕ) → number_in (header s) ≡ header_case s
unfolding header header_case in_order
record_header_lem s =
    let a : 1 ≤ 3 = omega arith in
    let b : 3 ≤ 5 = omega arith in
    rw (number_then, number_then, number_then, fewer_first (length s) 1 3, fewer_first (length s) 3 5)

pub raw_record_lem : (s : List ℕ) → number_in (reading raw s) ≡ raw_case s
unfolding raw_case in_order
raw_record_lem s =
    rw (
      form_number raw s,
      by_test (leb (be 2 s 3) 16640) (λ at behind. refusal TooLarge at 0) 3 5 (its_reason TooLarge 3 0),
      not_leb,
    )

pub encrypted_record_lem : (s : List ℕ) → number_in (encrypted s) ≡ raw_case s
unfolding encrypted
encrypted_record_lem s =
    number_on (reading raw s) (λ r. record { hdr = r.hdr; msg = record { blob = r.«data» }; next = r.next })
    ∙ raw_record_lem s

pub record_at_lem : (at : ℕ) (s : List ℕ) → number_in (record_from s at) ≡ raw_case (drop at s)
unfolding record_from
record_at_lem at s =
    number_on (reading raw (drop at s))
    (λ r. record {
      hdr = r.hdr;
      «data» = record { start = at + r.«data».start; len = r.«data».len };
      next = at + r.next;
    })
    ∙ raw_record_lem (drop at s)

-- a number that is 1, and one that is 1 or 2
just_one : {A : Type 0} (v : ℕ) (x y : A) → pick (eqb v 1) x y ≡ pick (ltb v 1) y (pick (ltb 1 v) y x)
just_one v x y =
    between 1 1 v (eqb v 1) x y
    (λ q. let e : v ≡ 1 = eqb-true v 1 q in (omega (arith, e), omega (arith, e)))
    (λ q h. omega (arith, eqb-false v 1 q))

one_of_two : {A : Type 0} (v : ℕ) (x y : A) → pick (one_or_two v) x y ≡ pick (ltb v 1) y (pick (ltb 2 v) y x)
one_of_two v x y =
    by_number (λ n. pick (one_or_two n) x y ≡ pick (ltb n 1) y (pick (ltb 2 n) y x)) (1 ∷ 2 ∷ []) (refl & refl & end) v
    (λ (a, (b, _)).
    let f : 1 ≤ v → 2 < v = λ h. omega (arith, eqb-false v 1 a, eqb-false v 2 b) in
    rw (a, b) (sym (outside 1 2 v y x f)))

pub cipher_specs_lem : (at : ℕ) (s : List ℕ) → number_in (cipher_spec_at s at) ≡ cipher_spec_case at s
unfolding cipher_spec_at cipher_spec_case in_order
cipher_specs_lem at s = rw (number_then, number_pick, its_reason LengthValue at 0, just_one (be 1 s at))

pub cipher_spec_first_lem : (s : List ℕ) → number_in (change_cipher_spec_of s) ≡ cipher_spec_case 0 s
unfolding change_cipher_spec_of
cipher_spec_first_lem s = number_on (cipher_spec_at s 0) (λ n. ChangeCipherSpec) ∙ cipher_specs_lem 0 s

pub alerts : (at : ℕ) (s : List ℕ) → number_in (alert_at s at) ≡ alert_case at s
unfolding alert_at alert_case in_order
alerts at s =
    let level = be 1 s at in
    let e : at + 1 + 1 ≡ at + 2 = omega arith in
    rw (number_then, number_pick, number_then, its_reason LengthValue at 0, one_of_two level, e)

pub alerts_first_lem : (s : List ℕ) → number_in (alert_first s) ≡ alert_case 0 s
unfolding alert_first
alerts_first_lem s = number_on (alert_at s 0) Alert ∙ alerts 0 s

pub application : (s : List ℕ) → number_in (application_data s) ≡ application_case s
unfolding application_data application_case
application s = refl

pub heartbeats : (s : List ℕ) → number_in (heartbeat s) ≡ heartbeat_case s
unfolding heartbeat heartbeat_case in_order
heartbeats s =
    let a : 1 ≤ 3 = omega arith in
    rw (
      number_then,
      number_then,
      fewer_first (length s) 1 3,
      number_pick,
      and_under,
      its_reason LengthValue 0 0,
      one_of_two (be 1 s 0),
    )

pub heartbeats_in_lem : (n : ℕ) (s : List ℕ) → number_in (heartbeat_in n s) ≡ heartbeat_in_case n s
unfolding heartbeat_in heartbeat_in_case in_order
heartbeats_in_lem n s =
    rw (fixed_then, number_within, heartbeats, part_taken s 0 n 1 heartbeat_case, zero-add)

pub heartbeats_of_lem : (n : ℕ) (s : List ℕ) → number_in (heartbeat_of n s) ≡ heartbeat_in_case n s
unfolding heartbeat_of
heartbeats_of_lem n s = number_on (heartbeat_in n s) Heartbeat ∙ heartbeats_in_lem n s

pub meets_by_type_lem : (t at : ℕ) (s : List ℕ) → number_in (found_at t s at) ≡ found_case t at s
unfolding found_at cipher_spec_found alert_found handshake_found application_found heartbeat_found found_case beside
meets_by_type_lem t at s =
    by_number (λ k. number_in (found_at k s at) ≡ found_case k at s) (0x14 ∷ 0x15 ∷ 0x16 ∷ 0x17 ∷ 0x18 ∷ [])
    ((number_on (cipher_spec_at s at) _ ∙ cipher_specs_lem at s)
    & (number_on (alert_at s at) _ ∙ alerts at s)
    & (number_on (met_at s at) _ ∙ meets at s)
    & (number_on (application_data s) _ ∙ application s)
    & (number_on (heartbeat s) _ ∙ heartbeats s)
    & end) t
    (λ (a, (b, (c, (d, (e, _))))). rw (a, b, c, d, e, its_reason Switch 0 0))

pub meets_end_lem : (t at : ℕ) (s : List ℕ) → number_in (past_at t s at) ≡ found_case t at s
unfolding past_at
meets_end_lem t at s = number_on (found_at t s at) (λ x. x.next) ∙ meets_by_type_lem t at s

-- Incomplete from the first message becomes Complete
first_reason : (at : ℕ) (r : Refusal) → number_of (first_refusal at r).reason ≡ of_first (number_of r.reason)
first_reason at r = go (eqb (number_of r.reason) 1) refl
  where
    go : (t : Bool) → eqb (number_of r.reason) 1 ≡ t
        → number_of (first_refusal at r).reason ≡ of_first (number_of r.reason)
    go true q = rw q (ap number_of (its_reason Complete at 0))
    go false q = rw q (ap number_of (inside_reason at r))

first_number : {A : Type 0} (at : ℕ) (x : Answer A) → number_in (as_first at x) ≡ of_first (number_in x)
first_number at (accepted a) = refl
first_number at (refused r) = first_reason at r

-- but stays where the content is one message
content_number : {A : Type 0} (t at : ℕ) (x : Answer A)
    → number_in (as_content t at x) ≡ pick (is_single t) (number_in x) (of_first (number_in x))
content_number t at (accepted a) = go (is_single t)
  where
    go : (b : Bool) → ◌≡◌ {A = ℕ} 0 (pick b 0 0)
    go true = refl
    go false = refl
content_number t at (refused r) = go (is_single t) refl
  where
    go : (b : Bool) → is_single t ≡ b
        → number_of (of_content t at r).reason
        ≡ pick (is_single t) (number_of r.reason) (of_first (number_of r.reason))
    go true q = rw q (ap number_of (inside_reason at r))
    go false q = rw q (first_reason at r)

-- a first message that is not all there, of the two kinds that have no length
spec_first : (a b c : Bool)
    → of_first (pick a 1 (pick b 4 (pick c 4 0))) ≡ pick a 2 (pick b 4 (pick c 4 0))
spec_first true b c = refl
spec_first false true c = refl
spec_first false false true = refl
spec_first false false false = refl

alert_first_lem : (a b c d : Bool)
    → of_first (pick a 1 (pick b 4 (pick c 4 (pick d 1 0)))) ≡ pick a 2 (pick b 4 (pick c 4 (pick d 2 0)))
alert_first_lem true b c d = refl
alert_first_lem false true c d = refl
alert_first_lem false false true d = refl
alert_first_lem false false false true = refl
alert_first_lem false false false false = refl

pub content_first_lem : (at t : ℕ) (content : List ℕ) → number_in (first_of t at content) ≡ record_type_case t content
unfolding first_of record_type_case found_case cipher_spec_case alert_case application_case in_order beside
content_first_lem at t content =
    let l = length content in
    let v = be 1 content 0 in
    let found : (k : ℕ) → number_in (as_content k at (found_at k content 0))
    ≡ pick (is_single k) (found_case k 0 content) (of_first (found_case k 0 content))
    = λ k. rw (content_number k at (found_at k content 0), meets_by_type_lem k 0 content) in
    by_number (λ k. number_in (first_of k at content) ≡ record_type_case k content) (0x14 ∷ 0x15 ∷ 0x16 ∷ 0x17 ∷ 0x18 ∷ [])
    ((found 0x14 ∙ spec_first (ltb l 1) (ltb v 1) (ltb 1 v))
    & (found 0x15 ∙ alert_first_lem (ltb l 1) (ltb v 1) (ltb 2 v) (ltb l 2))
    & found 0x16
    & found 0x17
    & found 0x18
    & end) t
    (λ (a, (b, (c, (d, (e, _))))).
    let f : 0x14 ≤ t → 0x18 < t = λ h. omega (
      arith,
      eqb-false t 0x14 a,
      eqb-false t 0x15 b,
      eqb-false t 0x16 c,
      eqb-false t 0x17 d,
      eqb-false t 0x18 e,
    ) in
    rw (not_between 0x14 0x18 t f, its_reason Switch 0 0) (sym (outside 0x14 0x18 t (number_of Switch) _ f)))

pub content_of_lem : (hdr : TlsRecordHeader) (s : List ℕ)
    → number_in (with_header hdr s) ≡ record_type_case hdr.record_type s
unfolding with_header contents
content_of_lem hdr s = number_on (first_of hdr.record_type 0 s) _ ∙ content_first_lem 0 hdr.record_type s

-- a record, and what its content is by its type
record_then : {B : Type 0} (s : List ℕ) (f : TlsRawRecord → TlsFound → B)
    → number_in (then (reading raw s)
    (λ r. giving (f r) (first_of r.hdr.record_type r.«data».start (part_of s r.«data»))))
    ≡ plaintext_case s
unfolding plaintext_case in_order
record_then s f =
    let large = by_test (leb (be 2 s 3) 16640) (λ at behind. refusal TooLarge at 0) 3 5 (its_reason TooLarge 3 0) in
    rw (
      form_then,
      number_on (first_of (be 1 s 0) 5 (part_of s (record { start = 5; len = be 2 s 3 }))) (f (value_at raw s)),
      content_first_lem 5 (be 1 s 0),
      part_taken s 5 (be 2 s 3) 1 (record_type_case (be 1 s 0)),
      large,
      not_leb,
    )

pub plaintext_opened_lem : (s : List ℕ) → number_in (opened_first s) ≡ plaintext_case s
unfolding opened_first contents
plaintext_opened_lem s =
    record_then s (λ r x. record {
      «record» = plain_record r (part_of s r.«data»);
      body = x.body;
      message = x.message;
    })

pub plaintext_record_lem : (s : List ℕ) → number_in (plaintext s) ≡ plaintext_case s
unfolding plaintext
plaintext_record_lem s = number_on (opened_first s) (λ x. x.«record») ∙ plaintext_opened_lem s

pub plaintext_met_lem : (s : List ℕ) → number_in (record_met s) ≡ plaintext_case s
unfolding record_met
plaintext_met_lem s = record_then s (λ r x. r)

pub plaintext_at_lem : (at : ℕ) (s : List ℕ) → number_in (plaintext_from s at) ≡ plaintext_case (drop at s)
unfolding plaintext_from
plaintext_at_lem at s =
    number_on (within at (plaintext (drop at s))) _ ∙ number_within at (plaintext (drop at s))
    ∙ plaintext_record_lem (drop at s)

pub plaintext_many_lem : (s : List ℕ) → number_in (many s) ≡ many_case s
unfolding many many_case
plaintext_many_lem s =
    number_on (as_first 0 (plaintext_from s 0)) (λ p. records_told s 0)
    ∙ first_number 0 (plaintext_from s 0) ∙ ap of_first (plaintext_at_lem 0 s)

pub number_place_lem : {A : Type 0} (k : ℕ) (xs : List A) → number_in (place k xs) ≡ place_case k (length xs)
unfolding place_case in_order
number_place_lem k xs = go (leb (length xs) k) refl
  where
    go : (t : Bool) → leb (length xs) k ≡ t → number_in (place k xs) ≡ place_case k (length xs)
    go true q =
        rw (place_past k xs (leb-true _ _ q))
        (ap number_of (its_reason NoSuch 0 0) ∙ sym (ap (λ (u : Bool). pick u (number_of NoSuch) 0) q))
    go false q = rw (place_below k xs (leb-false _ _ q)).1 (sym (ap (λ (u : Bool). pick u (number_of NoSuch) 0) q))

pub items_from_place_lem : (w at : ℕ) (s : List ℕ) → number_in (item_from (sized w) s at) ≡ item_case w at s
unfolding item_from item_case in_order
items_from_place_lem w at s =
    rw (number_else, ← number_on (step (sized w) s at) (λ p. p), vector_then, its_reason NoSuch 0 0)
    (none (ltb (length s) (at + w)) (ltb (length s) (at + w + be w s at)))
  where
    none : (t u : Bool) → ◌≡◌ {A = ℕ} (pick (eqb (pick t 1 (pick u 1 0)) 0) 0 11) (pick t 11 (pick u 11 0))
    none true u = refl
    none false true = refl
    none false false = refl

-- where the item that was found lies
item_found : (s : List ℕ) (w at : ℕ) {p : Part} → step (sized w) s at ≡ accepted p → p.next ≡ at + w + be w s at
unfolding step
item_found s w at e =
    let t = then_accepted (number_at w s at) (λ l. ruled (rule_of Plain) s at l.next l.value) e in
    let u = ruled_accepted (rule_of Plain) s at (at + w) (be w s at) (rw (number_is w s at t.1).is at t.2) in
    ap (λ (p : Part). p.next) (fits Incomplete s (at + w) (be w s at) u.1).is

item_case_lem : (s : List ℕ) (w at : ℕ) {a : Answer Part} → step (sized w) s at ≡ a
    → item_case w at s ≡ number_in (or_no_such a)
unfolding item_from
item_case_lem s w at e = sym (items_from_place_lem w at s) ∙ rw e

item_count : (s : List ℕ) (w n at : ℕ)
    → length (items_from n (step (sized w) s) (λ (p : Part). p.next) at) ≡ item_count_of n w at s
unfolding items_from item_count_of
item_count s w zero at = refl
item_count s w (suc n) at = go (step (sized w) s at) refl (λ p. item_count s w n p)
  where
    go : (a : Answer Part) → step (sized w) s at ≡ a
        → ((p : ℕ) → length (items_from n (step (sized w) s) (λ (p : Part). p.next) p) ≡ item_count_of n w p s)
        → length (items_from (suc n) (step (sized w) s) (λ (p : Part). p.next) at) ≡ item_count_of (suc n) w at s
    go (accepted p) e ih = rw (e, item_case_lem s w at e, ih p.next, item_found s w at e)
    go (refused r) e ih = rw (e, item_case_lem s w at e, its_reason NoSuch 0 0)

pub item_places_lem : (w k : ℕ) (s : List ℕ)
    → number_in (place k (items (sized w) s)) ≡ place_case k (item_count_of (length s) w 0 s)
item_places_lem w k s = rw (← item_count s w (length s) 0) (number_place_lem k (items (sized w) s))

pub any_number_place_lem : (w k : ℕ) (s : List ℕ)
    → number_in (number_place k w s) ≡ place_case k (length (items (Field.fixed w) s))
any_number_place_lem w k s =
    number_on (place k (items (Field.fixed w) s)) (λ p. record { value = be w s p.view.start; next = p.next })
    ∙ number_place_lem k (items (Field.fixed w) s)

pub number_places_lem : (w k : ℕ) → 1 ≤ w → (s : List ℕ) → number_in (number_place k w s) ≡ place_case k (length s / w)
number_places_lem w k one s = rw (← count_of w one s) (any_number_place_lem w k s)

pub walks : (w : TlsHandshakeWalk) (s : List ℕ) → number_in (next_message s w) ≡ walk_case w.next s
unfolding next_message walk_case
walks w s = rw (number_on _ (λ (x : Met). x.says), number_else, meets w.next s, its_reason NoSuch 0 0)

pub walks_by_type_lem : (w : TlsRecordWalk) (s : List ℕ) → number_in (nextByType s w) ≡ walk_by_type_case w s
unfolding nextByType walk_by_type_case in_order
walks_by_type_lem w s =
    rw (
      number_on _ (λ (x : TlsFound). x.message),
      number_pick,
      number_else,
      meets_by_type_lem w.record_type w.next s,
      its_reason NoSuch 0 0,
    )

pub walks_records_lem : (w : TlsRecordsWalk) (s : List ℕ) → number_in (next_record s w) ≡ walk_records_case w.next s
unfolding next_record walk_records_case
walks_records_lem w s = rw (number_else, plaintext_at_lem w.next s, its_reason NoSuch 0 0)
