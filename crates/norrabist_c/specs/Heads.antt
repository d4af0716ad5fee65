-- What is told of records and messages before their bodies are read: RULES 1.7, 5.1, 5.5, 6.1 to
-- 6.5, 6.9.
use Rattle.refusal.specs.{ℕ, Bool, true, false, List, [], length, refusal, Answer, accepted, refused, number_of, then, giving, Switch}
use Rattle.registry.specs.Types.{handshake_record}
use Rattle.refusal.specs.{eqb}
use Rattle.wire.specs.{pick, part_of, lookup, if_some}
use Rattle.grammar.specs.{reading}
use Rattle.envelope.specs.{Met, head_at, TlsMessageHead}
use Rattle.envelope.specs.Opening.{openings}
use Rattle.record.specs.{raw, TlsRawRecord, TlsRecordHeader}
use Rattle.list.specs.{end_of}
use Rattle.content_walk.specs.{TlsFound}
use Rattle.record_open.specs.{as_first, first_of}
use Rattle.list.specs.declared.steps.Counted.{Counted as TlsRecords}
use Rattle.record_walk.specs.Walks.{past_all}
use Rattle.norrabist_c.specs.declared.{messages.MessageHeadTold.MessageHeadTold, messages.TallyTold.TallyTold, records.RecordHeadTold.RecordHeadTold, records.PlaintextHeadTold.PlaintextHeadTold, records.ContentHeadTold.ContentHeadTold, records.RecordsTold.RecordsTold}

-- RULES 5.4, 5.5: a type of which a body is opened
unfoldable pub is_listed : ℕ → Bool
is_listed k = if_some (lookup k (openings 0 [])) (λ a. true) false

-- the head of the message that begins at a place, Switch where its type is not listed
unfoldable pub listed_head : List ℕ → ℕ → Answer TlsMessageHead
listed_head s at = then (head_at s at) (λ h. pick (is_listed h.msg_type) (accepted h) (refused (refusal Switch at 0)))

abbrev pub head_told : Answer TlsMessageHead → MessageHeadTold
head_told (accepted h) = record { next = h.next; body = h.body.len; msg_type = h.msg_type; number = 0 }
head_told (refused r) = record { next = 0; body = 0; msg_type = 0; number = number_of r.reason }

-- messages, the first beginning at a place: how many, and where the last one ends
abbrev pub tally_told : List Met → ℕ → TallyTold
tally_told xs from = record { count = length xs; end = past_all xs from }

abbrev pub header_told : Answer TlsRecordHeader → RecordHeadTold
header_told (accepted h) = record { version = h.version; len = h.len; record_type = h.record_type; number = 0 }
header_told (refused r) = record { version = 0; len = 0; record_type = 0; number = number_of r.reason }

abbrev pub raw_told : Answer TlsRawRecord → RecordHeadTold
raw_told a = header_told (giving (λ x. x.hdr) a)

-- a record whose first message can be opened; of a handshake record only the head of that is read
pub record PlainHead : Type 0 where
  pub outer : TlsRawRecord
  pub head : TlsMessageHead

-- the head of what is not a handshake message
abbrev pub no_head : TlsMessageHead
no_head = record { msg_type = 0; body = record { start = 0; len = 0 }; next = 0 }

-- RULES 6.4, 6.5, 6.9: the first message of a record of type t whose content begins at a place, up
-- to the body of a handshake message
unfoldable pub content_head : ℕ → ℕ → List ℕ → Answer TlsMessageHead
content_head t at content = pick (eqb t handshake_record) (as_first at (listed_head content 0)) (giving (λ x. no_head) (first_of t at content))

-- RULES 6.2: the record, its type at last, and its first message
unfoldable pub plain_head : List ℕ → Answer PlainHead
plain_head s =
    then (reading raw s) (λ r.
    giving (λ h. record { outer = r; head = h }) (content_head r.hdr.record_type r.«data».start (part_of s r.«data»)))

abbrev pub plaintext_told : Answer PlainHead → PlaintextHeadTold
plaintext_told (accepted x) =
    record {
      version = x.outer.hdr.version;
      len = x.outer.hdr.len;
      body = x.head.body.len;
      record_type = x.outer.hdr.record_type;
      msg_type = x.head.msg_type;
      number = 0;
    }
plaintext_told (refused r) = record { version = 0; len = 0; body = 0; record_type = 0; msg_type = 0; number = number_of r.reason }

abbrev pub content_told : Answer TlsMessageHead → ContentHeadTold
content_told (accepted h) = record { body = h.body.len; msg_type = h.msg_type; number = 0 }
content_told (refused r) = record { body = 0; msg_type = 0; number = number_of r.reason }

-- messages of a record of any type: how many, and where the last one ends
abbrev pub contents_told : List TlsFound → TallyTold
contents_told xs = record { count = length xs; end = end_of (λ x. x.next) xs 0 }

-- RULES 6.20: joined records; a count of 0 is a refusal
abbrev pub many_told : Answer TlsRecords → RecordsTold
many_told (accepted x) = record { count = x.count; end = x.end }
many_told (refused r) = record { count = 0; end = 0 }
