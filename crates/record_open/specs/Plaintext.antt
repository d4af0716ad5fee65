-- The plaintext record, opened by its type: RULES 6.2, 6.4 to 6.6, 6.9, 6.19; RFC 5246 6.2.1.
use Rattle.std.specs.Prelude.{◌&&◌}
use Rattle.refusal.specs.{ℕ, Bool, List, length, eqb, leb, number_of, refusal, inside, Answer, accepted, refused, then, Complete, Switch, Refusal, giving, Incomplete}
use Rattle.registry.specs.Types.{change_cipher_spec_record, heartbeat_record}
use Rattle.wire.specs.{pick, part_of}
use Rattle.grammar.specs.{reading}
use Rattle.content_walk.specs.{found_at, is_single, messages_of, dropped_of, TlsFound}
use Rattle.record.specs.{raw, TlsRawRecord, TlsRecordHeader}
use Rattle.record_open.specs.declared.{TlsPlaintext.TlsPlaintext, TlsPlaintextOpened.TlsPlaintextOpened}

-- RULES 6.5: the first message's refusal is the record's, but Incomplete becomes Complete; in
-- content that begins at a place
abbrev pub first_refusal : ℕ → Refusal → Refusal
first_refusal at r = pick (eqb (number_of r.reason) (number_of Incomplete)) (refusal Complete at 0) (inside at r)

-- the answer of the first message, as the record's
abbrev pub as_first : {A : Type 0} → ℕ → Answer A → Answer A
as_first at (accepted x) = accepted x
as_first at (refused r) = refused (first_refusal at r)

-- by the record's type: where the content is one message, as a heartbeat is, Incomplete stays
abbrev pub of_content : ℕ → ℕ → Refusal → Refusal
of_content t at r = pick (is_single t) (inside at r) (first_refusal at r)

abbrev pub as_content : {A : Type 0} → ℕ → ℕ → Answer A → Answer A
as_content t at (accepted x) = accepted x
as_content t at (refused r) = refused (of_content t at r)

-- RULES 6.9: the types that are opened
abbrev pub is_opened : ℕ → Bool
is_opened t = leb change_cipher_spec_record t && leb t heartbeat_record

-- RULES 6.4: the first message of a record of type t whose content begins at a place. All other
-- types are Switch
unfoldable pub first_of : ℕ → ℕ → List ℕ → Answer TlsFound
first_of t at content = pick (is_opened t) (as_content t at (found_at t content 0)) (refused (refusal Switch 0 0))

-- the record with its content: the number of its messages, and of the bytes that are dropped
unfoldable pub plain_record : TlsRawRecord → List ℕ → TlsPlaintext
plain_record r content =
    record {
      hdr = r.hdr;
      msg = r.«data»;
      count = length (messages_of r.hdr.record_type content);
      dropped = dropped_of r.hdr.record_type content;
      next = r.next;
    }

-- the record with its first message, which must open. Its body is a view of the content, and the
-- message's views are of that body
unfoldable pub contents : TlsRawRecord → List ℕ → Answer TlsPlaintextOpened
contents r content =
    giving (λ x. record { «record» = plain_record r content; body = x.body; message = x.message })
    (first_of r.hdr.record_type r.«data».start content)

-- RULES 6.2: the record, and the type at last
unfoldable pub opened_first : List ℕ → Answer TlsPlaintextOpened
opened_first s = then (reading raw s) (λ r. contents r (part_of s r.«data»))

-- the record alone
unfoldable pub plaintext : List ℕ → Answer TlsPlaintext
plaintext s = giving (λ x. x.«record») (opened_first s)

-- RULES 6.19: bytes that are the content of a record of that header. The header's own length is
-- not looked at
unfoldable pub with_header : TlsRecordHeader → List ℕ → Answer TlsPlaintextOpened
with_header hdr s = contents (record { hdr = hdr; «data» = record { start = 0; len = length s }; next = length s }) s

-- the record that is opened, without its counts
unfoldable pub record_met : List ℕ → Answer TlsRawRecord
record_met s = then (reading raw s) (λ r. giving (λ x. r) (first_of r.hdr.record_type r.«data».start (part_of s r.«data»)))
