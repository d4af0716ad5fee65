-- A record written: RULES 7.10, 7.11; RFC 5246 6.2.1. The bytes are the fields by which a raw
-- record is read, joined.
use Rattle.refusal.specs.{ℕ, List, length, unplaced, Answer, accepted, refused, TooLarge}
use Rattle.wire.specs.{pick, bytes_of}
use Rattle.field.specs.{allowed}
use Rattle.grammar.specs.{join}
use Rattle.record.specs.{fragment, raw, TlsRecordHeader}

-- the header's own length is not looked at: the content's is written
abbrev pub record_bytes : TlsRecordHeader → List ℕ → List ℕ
record_bytes hdr p = join raw.grammar.rows (bytes_of 1 hdr.record_type, (bytes_of 2 hdr.version, (p, tt)))

unfoldable pub record_text : TlsRecordHeader → List ℕ → Answer (List ℕ)
record_text hdr p = pick (allowed fragment (length p)) (accepted (record_bytes hdr p)) (refused (unplaced TooLarge))
