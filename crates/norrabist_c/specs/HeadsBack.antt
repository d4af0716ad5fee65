-- Records and messages from what is told of their heads: RULES 1.7. Where content and body lie
-- follows from the told numbers, and a message or a record is opened where its head is told and the
-- body of a handshake message is opened by the type. Shown by `proofs/HeadsBack.antt`.
use Rattle.std.specs.Prelude.{◌+◌, ◌≤◌, ◌≡◌}
use Rattle.refusal.specs.{ℕ, List, length, eqb, Answer, accepted, then, giving}
use Rattle.registry.specs.Types.{handshake_record}
use Rattle.wire.specs.{pick, part_of}
use Rattle.grammar.specs.{reading}
use Rattle.list.specs.{place}
use Rattle.envelope.specs.{TlsMessageHead, by_type_in, met_at}
use Rattle.content.specs.{Handshake}
use Rattle.content_walk.specs.{TlsFound, messages_of}
use Rattle.record.specs.{raw, TlsRawRecord, TlsRecordHeader}
use Rattle.record_open.specs.{as_first, opened_first, with_header}
use Rattle.record_open.specs.Plaintext.{plain_record}
use Rattle.record_open.specs.declared.TlsPlaintextOpened.{TlsPlaintextOpened}
use Rattle.norrabist_c.specs.Heads.{PlainHead, content_head, head_told, listed_head, plain_head, raw_told}
use Rattle.norrabist_c.specs.declared.{messages.MessageHeadTold.MessageHeadTold, records.RecordHeadTold.RecordHeadTold}

-- the content stands behind the five bytes of the header, and the next record behind it
abbrev pub raw_from : RecordHeadTold → TlsRawRecord
raw_from t = record { hdr = record { record_type = t.record_type; version = t.version; len = t.len }; «data» = record { start = 5; len = t.len }; next = 5 + t.len }

-- the body stands behind the four bytes of the head, which begins at a place
abbrev pub head_from : ℕ → MessageHeadTold → TlsMessageHead
head_from at t = record { msg_type = t.msg_type; body = record { start = at + 4; len = t.body }; next = t.next }

-- the first message of a content: of a handshake record it is opened by the type that its head
-- tells, and its refusal is the record's; of any other record it is the first of the messages
abbrev pub first_from : List ℕ → PlainHead → Answer TlsFound
first_from content x =
    pick (eqb x.outer.hdr.record_type handshake_record)
    (giving (λ m. record { body = x.head.body; next = x.head.next; message = Handshake m })
    (as_first x.outer.«data».start (by_type_in 0 x.head.body.start x.head.msg_type (part_of content x.head.body))))
    (place 0 (messages_of x.outer.hdr.record_type content))

-- a record with its content and that message
abbrev pub opened_from : List ℕ → PlainHead → Answer TlsPlaintextOpened
opened_from content x =
    giving (λ y. record { «record» = plain_record x.outer content; body = y.body; message = y.message }) (first_from content x)

pub record HeadsBack (s : List ℕ) : Type 0 where
  pub raw_record : (r : TlsRawRecord) → reading raw s ≡ accepted r → r ≡ raw_from (raw_told (accepted r))
  pub head : (at : ℕ) (h : TlsMessageHead) → listed_head s at ≡ accepted h
      → h ≡ head_from at (head_told (accepted h)) × (h.next ≡ at + 4 + h.body.len)
  -- the first message's body stands at byte 9 of a handshake record
  pub first : (x : PlainHead) → plain_head s ≡ accepted x → x.outer.hdr.record_type ≡ handshake_record
      → (x.outer.«data».start ≡ 5) × (x.head.body.start ≡ 4) × (x.head.next ≡ 4 + x.head.body.len)
  -- dispatch by type: the head's refusals come first, then the body's
  pub met : (at : ℕ) → met_at s at ≡ then (listed_head s at) (λ h. giving (λ m. record { head = h; says = m }) (by_type_in at h.body.start h.msg_type (part_of s h.body)))
  -- and of a record, whose first message's refusal is the record's
  pub opened : opened_first s ≡ then (plain_head s) (λ x. opened_from (part_of s x.outer.«data») x)
  -- where that is no handshake message, none is refused behind the head: there is a first
  pub others : (x : PlainHead) → plain_head s ≡ accepted x → (x.outer.hdr.record_type ≡ handshake_record → ⊥)
      → 1 ≤ length (messages_of x.outer.hdr.record_type (part_of s x.outer.«data»))
  -- the same of bytes that are the content of a record of that header
  pub content : (hdr : TlsRecordHeader) → with_header hdr s
      ≡ then (content_head hdr.record_type 0 s) (λ h. opened_from s
      (record { outer = record { hdr = hdr; «data» = record { start = 0; len = length s }; next = length s }; head = h }))
  pub content_others : (t at : ℕ) (h : TlsMessageHead) → content_head t at s ≡ accepted h → (t ≡ handshake_record → ⊥)
      → 1 ≤ length (messages_of t s)
