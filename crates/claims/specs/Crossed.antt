-- Rules said a second time over definitions that stand apart, so that a slip in one of them is
-- refused by a proof even where the code has it too: RULES 0.5, 6.1. Shown by
-- `proofs/Crossed.antt`.
use Rattle.std.specs.Prelude.{◌+◌, ◌≤◌, ◌≡◌, ◌||◌}
use Rattle.refusal.specs.{ℕ, Bool, eqb, List, accepted, refused, Refusal}
use Rattle.grammar.specs.{reading}
use Rattle.record.specs.{header, raw, TlsRawRecord}

-- the record header by itself, and the raw record that begins with it: RFC 5246 6.2.1
pub record HeaderAndRecord (s : List ℕ) : Type 0 where
  -- a raw record has the header that stands by itself
  pub same_header : (x : TlsRawRecord) → reading raw s ≡ accepted x → header s ≡ accepted x.hdr
  -- its content lies behind the five bytes, as long as the header says and at most 16,640, and the
  -- next record behind the content
  pub same_length_of : (x : TlsRawRecord) → reading raw s ≡ accepted x → (x.«data» ≡ record { start = 5; len = x.hdr.len }) × (x.next ≡ 5 + x.hdr.len) × (x.hdr.len ≤ 16640)
  -- without a header there is no record, for the same reason
  pub same_refusal : (r : Refusal) → header s ≡ refused r → reading raw s ≡ refused r

-- RULES 0.5: the kinds that are written, by their numbers
abbrev pub is_written : ℕ → Bool
is_written k = eqb k 0x00 || eqb k 0x01 || eqb k 0x02 || eqb k 0x10 || eqb k 0x14 || eqb k 0x7f12
