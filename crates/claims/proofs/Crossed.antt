-- The header and the raw record agree, a body that is opened tells its type, and a message that is
-- written begins with it. Assumes nothing.
use Prim.Native.Nat.{ℕ, ◌+◌, ◌-◌, ◌%◌, ◌≤◌, ◌<◌}
use mathlib.Core.Path.{◌≡◌, refl, sym, ap, ◌∙◌}
use mathlib.Core.Bool.{Bool, true, false}
use mathlib.Core.List.{List, []}
use mathlib.Core.Option.{none}
use native.Mathlib.Omega.{arith}
use borrow.Author.Tests.{leb-true, leb-false}
use lib.ListN.{length, get_or}
use lib.Dec.{eqb, leb}
use Rattle.refusal.specs.Answers.{Answer, accepted, refused, then}
use Rattle.refusal.specs.Refusals.{refusal, unplaced}
use Rattle.refusal.specs.declared.Reason.TheVariants.{Incomplete, Switch}
use Rattle.refusal.specs.declared.Refusal.{Refusal}
use Rattle.refusal.proofs.Then.{not_both, then_accepted}
use Rattle.wire.specs.Parts.{pick, if_some}
use Rattle.wire.specs.Numbers.{be, bytes_of, number_at}
use Rattle.wire.specs.declared.view.Part.{Part}
use Rattle.wire.proofs.Parts.{fits, part_in, part_out}
use Rattle.wire.proofs.Numbers.{number_got, number_no}
use Rattle.field.specs.Fields.{fixed, rule_of, ruled, step}
use Rattle.field.specs.declared.RuleName.TheVariants.{Fragment}
use Rattle.field.proofs.Rules.{ruled_accepted, unless_none}
use Rattle.grammar.specs.Reading.{fields_at, read}
use Rattle.grammar.specs.Forms.{reading, by_version}
use Rattle.read_client.specs.Client.{client}
use Rattle.read_server.specs.Server.{server, server_versions, draft18}
use Rattle.record.specs.Records.{header, raw}
use Rattle.record.specs.declared.TlsRawRecord.{TlsRawRecord}
use Rattle.record.specs.declared.TlsRecordHeader.{TlsRecordHeader}
use Rattle.read_certs.specs.Certs.{certificate, certificate_request, status}
use Rattle.read_others.specs.Body.{retry, session_ticket, next_protocol}
use Rattle.open_hellos.specs.HelloMessages.{server_message}
use Rattle.open_whole.specs.Whole.{whole_body}
use Rattle.message.specs.declared.handshake.TlsMessageHandshake.{TlsMessageHandshake}
use Rattle.message.specs.declared.handshake.TlsMessageHandshake.TheVariants.{HelloRequest, ClientHello, ServerHello}
use Rattle.message.specs.declared.handshake.TlsMessageHandshake.TheVariants.{ServerHelloV13Draft18, NewSessionTicket}
use Rattle.message.specs.declared.handshake.TlsMessageHandshake.TheVariants.{EndOfEarlyData, HelloRetryRequest}
use Rattle.message.specs.declared.handshake.TlsMessageHandshake.TheVariants.{Certificate, ServerKeyExchange}
use Rattle.message.specs.declared.handshake.TlsMessageHandshake.TheVariants.{CertificateRequest, ServerDone}
use Rattle.message.specs.declared.handshake.TlsMessageHandshake.TheVariants.{CertificateVerify, ClientKeyExchange}
use Rattle.message.specs.declared.handshake.TlsMessageHandshake.TheVariants.{Finished, CertificateStatus}
use Rattle.message.specs.declared.handshake.TlsMessageHandshake.TheVariants.{NextProtocol, KeyUpdate}
use Rattle.message.proofs.Lookup.{◌&◌, by_rows}
use Rattle.message.specs.declared.keyexchange.TlsClientKeyExchangeContents.TheVariants.{Unknown}
use Rattle.envelope.specs.Opening.{openings, opened}
use Rattle.write_rules.specs.HelloTexts.{hello_text}
use Rattle.write_rules.specs.MessageTexts.{head_text, message_text, view_text}
use Rattle.write_others.specs.Exchange.{exchange_text}
use Rattle.message.specs.Messages.{kind_number, type_of, WrittenBody, no_body, client_body, server_body, draft18_body}
use Rattle.message.specs.Messages.{exchange_body}
use Rattle.message.specs.Messages.{finished_body, body_written, not_written_of}
use Rattle.message.proofs.Written.{message_of, Apart, by_written}
use Rattle.write_message.specs.Written.{handshake_text}
use Rattle.claim_wayback.proofs.Wrote.{message_wrote}
use Rattle.claims.specs.Crossed.{HeaderAndRecord, is_written}

module _ (s : List ℕ) where
  number_in : (w at : ℕ) → at + w ≤ length s → number_at w s at ≡ accepted (record { value = be w s at; next = at + w })
  number_in w at h = number_got w s at (part_in Incomplete s at w h)

  -- the header's numbers, where its five bytes are there
  header_in : 5 ≤ length s
      → header s ≡ accepted (record { record_type = be 1 s 0; version = be 2 s 1; len = be 2 s 3 })
  unfolding header
  header_in h = rw (number_in 1 0 (omega arith), number_in 2 1 (omega arith), number_in 2 3 (omega arith))

  -- and the record, by what its length allows
  abbrev behind : Answer Part → Answer TlsRawRecord
  behind a =
      then a (λ p. accepted
      (record {
        hdr = record { record_type = be 1 s 0; version = be 2 s 1; len = p.view.len };
        «data» = p.view;
        next = p.next;
      }))

  raw_in : 5 ≤ length s → reading raw s ≡ behind (ruled (rule_of Fragment) s 3 5 (be 2 s 3))
  unfolding reading read fields_at step
  raw_in h = go (ruled (rule_of Fragment) s 3 5 (be 2 s 3)) refl
    where
      go : (a : Answer Part) → ruled (rule_of Fragment) s 3 5 (be 2 s 3) ≡ a
          → reading raw s ≡ behind (ruled (rule_of Fragment) s 3 5 (be 2 s 3))
      go (accepted p) e =
          rw (
            part_in Incomplete s 0 1 (omega arith),
            part_in Incomplete s 1 2 (omega arith),
            number_in 2 3 (omega arith),
            e,
          )
      go (refused r) e =
          rw (
            part_in Incomplete s 0 1 (omega arith),
            part_in Incomplete s 1 2 (omega arith),
            number_in 2 3 (omega arith),
            e,
          )

  -- without them both are refused at the first number that is not there
  record BothRefused : Type 0 where
    why : Refusal
    no_header : header s ≡ refused why
    no_record : reading raw s ≡ refused why

  both_refused : length s < 5 → BothRefused
  unfolding header reading read fields_at step
  both_refused h = go (leb 1 (length s)) refl (leb 3 (length s)) refl
    where
      go : (a : Bool) → leb 1 (length s) ≡ a → (b : Bool) → leb 3 (length s) ≡ b → BothRefused
      go false p b q =
          let l : length s < 1 = leb-false 1 (length s) p in
          let z = part_out Incomplete s 0 1 (omega arith) in
          record {
            why = refusal Incomplete 0 (1 - (length s - 0));
            no_header = rw (number_no 1 s 0 z);
            no_record = rw z;
          }
      go true p false q =
          let g : 1 ≤ length s = leb-true 1 (length s) p in
          let l : length s < 3 = leb-false 3 (length s) q in
          let z = part_out Incomplete s 1 2 (omega arith) in
          record {
            why = refusal Incomplete 1 (2 - (length s - 1));
            no_header = rw (number_in 1 0 (omega arith), number_no 2 s 1 z);
            no_record =
                rw (part_in Incomplete s 0 1 (omega arith), z);
          }
      go true p true q =
          let g : 3 ≤ length s = leb-true 3 (length s) q in
          let z = number_no 2 s 3 (part_out Incomplete s 3 2 (omega arith)) in
          record {
            why = refusal Incomplete 3 (2 - (length s - 3));
            no_header = rw (number_in 1 0 (omega arith), number_in 2 1 (omega arith), z);
            no_record = rw (part_in Incomplete s 0 1 (omega arith), part_in Incomplete s 1 2 (omega arith), z);
          }

  record_has : (x : TlsRawRecord) → reading raw s ≡ accepted x
      → (header s ≡ accepted x.hdr) × (x.«data» ≡ record { start = 5; len = x.hdr.len })
      × (x.next ≡ 5 + x.hdr.len) × (x.hdr.len ≤ 16640)
  record_has x e = go (leb 5 (length s)) refl
    where
      go : (t : Bool) → leb 5 (length s) ≡ t → (header s ≡ accepted x.hdr)
          × (x.«data» ≡ record { start = 5; len = x.hdr.len }) × (x.next ≡ 5 + x.hdr.len) × (x.hdr.len ≤ 16640)
      go true q =
          let h : 5 ≤ length s = leb-true 5 (length s) q in
          let t = then_accepted (ruled (rule_of Fragment) s 3 5 (be 2 s 3)) _ (sym (raw_in h) ∙ e) in
          let u = ruled_accepted (rule_of Fragment) s 3 5 (be 2 s 3) t.1 in
          let p = (fits Incomplete s 5 (be 2 s 3) u.1).is in
          let d : record {
            hdr = record { record_type = be 1 s 0; version = be 2 s 1; len = t.0.view.len };
            «data» = t.0.view;
            next = t.0.next;
          } ≡ x = cc t.2 in
          rw (← d, p) (header_in h, refl, refl, leb-true (be 2 s 3) 16640 (unless_none _ _ u.0))
      go false q = absurd (not_both e (both_refused (leb-false 5 (length s) q)).no_record)

  refused_alike : (r : Refusal) → header s ≡ refused r → reading raw s ≡ refused r
  refused_alike r e = go (leb 5 (length s)) refl
    where
      go : (t : Bool) → leb 5 (length s) ≡ t → reading raw s ≡ refused r
      go true q = absurd (not_both (header_in (leb-true 5 (length s) q)) e)
      go false q =
          let b = both_refused (leb-false 5 (length s) q) in
          let y : ◌≡◌ {A = Answer TlsRecordHeader} (refused b.why) (refused r) = sym b.no_header ∙ e in
          let d : b.why ≡ r = cc in
          b.no_record ∙ ap refused d

pub header_and_record : (s : List ℕ) → HeaderAndRecord s
header_and_record s =
    record {
      same_header = λ x e. (record_has s x e).0;
      same_length_of = λ x e. let h = record_has s x e in (h.1, h.2, h.3);
      same_refusal = refused_alike s;
    }

-- what is accepted tells of a type
abbrev Tells : ℕ → Answer TlsMessageHandshake → Type 0
Tells msgType a = (m : TlsMessageHandshake) → a ≡ accepted m → type_of m ≡ msgType

none_told : (msgType : ℕ) {r : Refusal} → Tells msgType (refused r)
none_told msgType m e = absurd (not_both e refl)

told : (msgType : ℕ) (x : TlsMessageHandshake) → type_of x ≡ msgType → Tells msgType (accepted x)
told msgType x t m e = let d : accepted x ≡ accepted m = e in let y : x ≡ m = cc in rw (← y) t

-- a message made of what was read
made : {A : Type 0} (msgType : ℕ) (a : Answer A) (make : A → TlsMessageHandshake)
    → ((x : A) → type_of (make x) ≡ msgType) → Tells msgType (then a (λ x. accepted (make x)))
made msgType (accepted x) make t m e = let d : make x ≡ m = cc e in rw (← d) (t x)
made msgType (refused r) make t m e = absurd (not_both e refl)

-- at a type what holds of its row
at_row : {msgType of : ℕ} {a : Answer TlsMessageHandshake} → Tells of a → msgType ≡ of → Tells msgType a
at_row f q m e = f m e ∙ sym q

either_hello : (t : Bool) {a b : Answer TlsMessageHandshake} → Tells 0x02 a → Tells 0x02 b → Tells 0x02 (pick t a b)
either_hello true f g = f
either_hello false f g = g

server_told_lem : (s : List ℕ) → Tells 0x02 (server_message s)
unfolding server_message
server_told_lem s m e =
    let t = then_accepted (number_at 2 s 0) _ e in
    either_hello (eqb t.0.value 0x7f12) (made 0x02 (reading draft18 s) (λ c. ServerHelloV13Draft18 c) (λ c. refl))
    (made 0x02 (by_version server_versions s) (λ c. ServerHello c) (λ c. refl)) m t.2

pub tells_its_type : (msgType n : ℕ) (s : List ℕ) (m : TlsMessageHandshake) → opened msgType n s ≡ accepted m
    → type_of m ≡ msgType
unfolding opened whole_body
tells_its_type msgType n s =
    by_rows (λ o. Tells msgType (if_some o (λ a. a) (refused (unplaced Switch)))) msgType (openings n s)
    (at_row (told 0x00 HelloRequest refl)
    & at_row (made 0x01 (reading client s) (λ c. ClientHello c) (λ c. refl))
    & at_row (server_told_lem s)
    & at_row (made 0x04 (session_ticket n s) (λ c. NewSessionTicket c) (λ c. refl))
    & at_row (told 0x05 EndOfEarlyData refl)
    & at_row (made 0x06 (reading retry s) (λ c. HelloRetryRequest c) (λ c. refl))
    & at_row (made 0x0b (reading certificate s) (λ c. Certificate c) (λ c. refl))
    & at_row (made 0x0c (step (fixed n) s 0) (λ c. ServerKeyExchange (record { parameters = c.view })) (λ c. refl))
    & at_row (made 0x0d (certificate_request s) (λ c. CertificateRequest c) (λ c. refl))
    & at_row (made 0x0e (step (fixed n) s 0) (λ c. ServerDone c.view) (λ c. refl))
    & at_row (made 0x0f (step (fixed n) s 0) (λ c. CertificateVerify c.view) (λ c. refl))
    & at_row (made 0x10 (step (fixed n) s 0) (λ c. ClientKeyExchange (Unknown c.view)) (λ c. refl))
    & at_row (made 0x14 (step (fixed n) s 0) (λ c. Finished c.view) (λ c. refl))
    & at_row (made 0x16 (reading status s) (λ c. CertificateStatus c) (λ c. refl))
    & at_row (made 0x18 (number_at 1 s 0) (λ c. KeyUpdate c.value) (λ c. refl))
    & at_row (made 0x43 (reading next_protocol s) (λ c. NextProtocol c) (λ c. refl))
    & tt)
    (none_told msgType)

-- the first byte of a message
begins : (msgType : ℕ) (body : Answer (List ℕ)) (t : List ℕ) → message_text (head_text msgType) body ≡ accepted t
    → get_or t 0 0 ≡ msgType % 256
unfolding bytes_of
begins msgType body t e = ap (λ (x : List ℕ). get_or x 0 0) (sym (message_wrote msgType body e).whole)

-- of each kind that is written, and of every other
type_written : (s : List ℕ) (b : WrittenBody) (t : List ℕ) → handshake_text s (message_of b) ≡ accepted t
    → get_or t 0 0 ≡ type_of (message_of b)
unfolding handshake_text
type_written s no_body t e = begins 0x00 (accepted []) t e
type_written s (client_body c) t e = begins 0x01 (hello_text client s c) t e
type_written s (server_body c) t e = begins 0x02 (hello_text (server true) s c) t e
type_written s (draft18_body c) t e = begins 0x02 (hello_text draft18 s c) t e
type_written s (exchange_body k) t e = begins 0x10 (exchange_text s k) t e
type_written s (finished_body v) t e = begins 0x14 (view_text s v) t e

none_written : (s : List ℕ) (m : TlsMessageHandshake) → body_written m ≡ none → handshake_text s m ≡ not_written_of
unfolding handshake_text
none_written s m e = rw e

pub every_type : (s : List ℕ) (m : TlsMessageHandshake) (t : List ℕ) → handshake_text s m ≡ accepted t
    → get_or t 0 0 ≡ type_of m
every_type s =
    by_written (λ m. (t : List ℕ) → handshake_text s m ≡ accepted t → get_or t 0 0 ≡ type_of m) (type_written s)
    (λ m e a t w. absurd (not_both w (none_written s m e)))

-- the kinds that are written are those six
which_written : (b : WrittenBody)
    → if_some (body_written (message_of b)) (λ x. true) false ≡ is_written (kind_number (message_of b))
which_written no_body = refl
which_written (client_body c) = refl
which_written (server_body c) = refl
which_written (draft18_body c) = refl
which_written (exchange_body k) = refl
which_written (finished_body v) = refl

no_others : (m : TlsMessageHandshake) → body_written m ≡ none → Apart (kind_number m)
    → if_some (body_written m) (λ x. true) false ≡ is_written (kind_number m)
no_others m e (a, b, c, d, f, g) = rw (e, a, b, c, d, f, g)

pub these_written : (m : TlsMessageHandshake) → if_some (body_written m) (λ x. true) false ≡ is_written (kind_number m)
these_written =
    by_written (λ m. if_some (body_written m) (λ x. true) false ≡ is_written (kind_number m)) which_written no_others
