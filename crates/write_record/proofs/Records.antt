-- A record written: a content that may not stand in one, and type, version and content put in one
-- behind the other. Assumes nothing.
use Prim.Native.Nat.{ℕ, ◌+◌, ◌<◌, ◌≤◌}
use mathlib.Core.Path.{◌≡◌, sym}
use mathlib.Core.List.{List, ◌++◌, append-nil}
use mathlib.Core.Bool.{true, false}
use native.Mathlib.Omega.{arith}
use lib.ListN.{length, length-append}
use Rattle.refusal.specs.Answers.{accepted, refused}
use Rattle.refusal.specs.Refusals.{unplaced}
use Rattle.refusal.specs.declared.Reason.TheVariants.{TooLarge}
use Rattle.wire.specs.Numbers.{bytes_of, number_text}
use Rattle.wire.specs.Puts.{put, written}
use Rattle.wire.proofs.Numbers.{length_bytes}
use Rattle.wire.proofs.Puts.{number_accepted}
use Rattle.field.specs.Standing.{field_bytes}
use Rattle.field.specs.Texts.{allowed, field_text}
use Rattle.field.proofs.Texts.{text_may}
use Rattle.grammar.specs.Splits.{join}
use Rattle.write_rules.proofs.Fields.{begin, next, end}
use Rattle.record.specs.declared.TlsRecordHeader.{TlsRecordHeader}
use Rattle.record.specs.Records.{fragment}
use Rattle.write_record.specs.RecordTexts.{record_bytes, record_text}

-- the fields joined, with no list behind the last
abbrev whole : TlsRecordHeader → List ℕ → List ℕ
whole hdr p = bytes_of 1 hdr.record_type ++ (bytes_of 2 hdr.version ++ field_bytes fragment p)

module _ (hdr : TlsRecordHeader) (p : List ℕ) where
  length_whole : length (whole hdr p) ≡ 5 + length p
  length_whole = simp (length-append, length_bytes) (omega arith)

  bytes_are : record_bytes hdr p ≡ whole hdr p
  unfolding join
  bytes_are = rw append-nil

  pub record_not : allowed fragment (length p) ≡ false → record_text hdr p ≡ refused (unplaced TooLarge)
  unfolding record_text
  record_not e = rw e

  pub record_may : allowed fragment (length p) ≡ true → record_text hdr p ≡ accepted (record_bytes hdr p)
  unfolding record_text
  record_may e = rw e

  pub record_long : 5 + length p ≡ length (record_bytes hdr p)
  record_long = rw bytes_are (sym length_whole)

  pub record_put : (d o o' o'' : List ℕ) → allowed fragment (length p) ≡ true → 5 + length p ≤ length d
      → hdr.record_type < 256 → hdr.version < 65536
      → o ≡ written (number_text 1 hdr.record_type) 0 d → o' ≡ written (number_text 2 hdr.version) 1 o
      → o'' ≡ written (field_text fragment p) 3 o' → o'' ≡ put d 0 (record_bytes hdr p)
  record_put d o o' o'' e f t v e₁ e₂ e₃ =
      let a = begin d (whole hdr p) (omega (arith, length_whole, f)) in
      let b = next (bytes_of 1 hdr.record_type) (bytes_of 2 hdr.version ++ field_bytes fragment p) a
      (number_accepted 1 _ t) o 1 e₁ (omega (arith, length_bytes 1 hdr.record_type)) in
      let g = next (bytes_of 2 hdr.version) (field_bytes fragment p) b (number_accepted 2 _ v) o' 3 e₂
      (omega (arith, length_bytes 2 hdr.version)) in
      rw bytes_are (end g (text_may fragment p e) o'' e₃)
