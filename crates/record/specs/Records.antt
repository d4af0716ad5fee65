-- Records that are not opened: RULES 6.1 to 6.3; RFC 5246 6.2.1. The rule of the length is
-- `Fragment` of `field/specs/Fields.antt`.
use Rattle.std.specs.Prelude.{◌∷◌}
use Rattle.refusal.specs.{ℕ, List, [], none, Answer, then, giving}
use Rattle.wire.specs.{number_at, None}
use Rattle.field.specs.{Field, fixed, vector, rule_of, Fragment}
use Rattle.grammar.specs.{as_view, as_number, Form, reading}
use Rattle.record.specs.declared.{TlsEncrypted.TlsEncrypted, TlsRawRecord.TlsRawRecord, TlsRecordHeader.TlsRecordHeader}

-- type 1, version 2, length 2. The length is told as it stands: TooLarge is given by the readers of
-- a record
unfoldable pub header : List ℕ → Answer TlsRecordHeader
header s =
    then (number_at 1 s 0) (λ t.
    then (number_at 2 s t.next) (λ v.
    giving (λ n. record { record_type = t.value; version = v.value; len = n.value }) (number_at 2 s v.next)))

-- length 2 and content
abbrev pub fragment : Field
fragment = vector 2 (rule_of Fragment)

-- RULES 6.3: of any type
abbrev pub raw : Form TlsRawRecord
raw = record {
  grammar = record { rows = (fixed 1, as_number 1) ∷ (fixed 2, as_number 2) ∷ (fragment, as_view) ∷ []; block = none };
  value = λ (t, (v, (d, _))) e n. record { hdr = record { record_type = t; version = v; len = d.len }; «data» = d; next = n };
  handed = λ r. (r.hdr.record_type, (r.hdr.version, (r.«data», tt)));
  block = λ r. None;
  tail = λ r. r.next;
}

unfoldable pub encrypted : List ℕ → Answer TlsEncrypted
encrypted s = giving (λ r. record { hdr = r.hdr; msg = record { blob = r.«data» }; next = r.next }) (reading raw s)
