-- How long a ServerHello of TLS 1.3 draft 18 that may be written is, and the most that its parts
-- can be: of parts that are handed over apart, and of those that a value names. Assumes nothing.
use Prim.Native.Nat.{ℕ, ◌+◌, ◌≤◌}
use mathlib.Core.Path.{◌≡◌, sym, ◌∙◌}
use mathlib.Core.List.{List}
use mathlib.Core.Bool.{Bool, true}
use native.Mathlib.Omega.{arith}
use lib.ListN.{length, length-append}
use Rattle.wire.specs.Parts.{part_of, opt_part_of}
use Rattle.wire.proofs.Numbers.{length_bytes}
use Rattle.read_server.specs.Server.{draft18}
use Rattle.read_server.specs.declared.tlsv13draft18.TlsServerHelloV13Draft18Contents.{TlsServerHelloV13Draft18Contents}
use Rattle.write_rules.specs.HelloTexts.{hello_bytes}
use Rattle.write_rules.specs.JoinTexts.{may_join, join_bytes, join_text}
use Rattle.write_rules.specs.MessageTexts.{head_text}
use Rattle.write_rules.proofs.Hellos.{Obeyed}
use Rattle.write_rules.proofs.Joins.{Joined, joined, in_row, row_join, join_message}
use Rattle.write_rules.proofs.Messages.{Message}
use Rattle.write_draft18.specs.Slices.{draft18_rows, draft18_parts}

pub record Draft18Bounds (e : List ℕ) : Type 0 where
  pub ext : length e ≤ 65535

module _ (v : ℕ) (random : List ℕ) (c : ℕ) (ext : List ℕ) (h : Joined draft18_rows (draft18_parts v random c) ext) where
  row_length_lem : length (in_row draft18_rows (draft18_parts v random c) ext) ≡ 38 + length ext
  row_length_lem = simp (length-append, length_bytes, h.fields.1.0) (omega arith)

  pub parts_length : length (join_bytes draft18_rows (draft18_parts v random c) ext) ≡ 38 + length ext
  parts_length = rw (row_join draft18_rows (draft18_parts v random c) ext) row_length_lem

  pub parts_bounds : Draft18Bounds ext
  parts_bounds = record { ext = omega (arith, h.last.0) }

-- the same of parts that were found to be writable, whatever the numbers are
module _ (random ext : List ℕ) {t : Bool} (w : (v c : ℕ) → t ≡ may_join draft18_rows (draft18_parts v random c) ext)
    (m : t ≡ true) where
  pub may_write : (v c : ℕ) → may_join draft18_rows (draft18_parts v random c) ext ≡ true
  may_write v c = sym (w v c) ∙ m

  pub may_bounds : Draft18Bounds ext
  may_bounds = parts_bounds 0 random 0 ext (joined _ _ _ (may_write 0 0))

  pub may_length : (v c : ℕ) → 38 + length ext ≡ length (join_bytes draft18_rows (draft18_parts v random c) ext)
  may_length v c = sym (parts_length v random c ext (joined _ _ _ (may_write v c)))

  -- the message round them
  pub may_message : (v c : ℕ) → Message (head_text 0x02) 4 (join_text draft18_rows (draft18_parts v random c) ext)
      (join_bytes draft18_rows (draft18_parts v random c) ext) (38 + length ext)
  may_message v c =
      join_message draft18_rows (draft18_parts v random c) ext 0x02 _ (may_write v c) (may_length v c)
      (omega (arith, may_bounds))

module _ (s : List ℕ) (m : TlsServerHelloV13Draft18Contents) (h : Obeyed draft18 s m) where
  pub draft18_length : length (hello_bytes draft18 s m) ≡ 38 + length (opt_part_of s m.ext)
  unfolding hello_bytes
  draft18_length =
      row_length_lem m.version (part_of s m.random) m.cipher (opt_part_of s m.ext)
      h

  pub draft18_bounds : Draft18Bounds (opt_part_of s m.ext)
  draft18_bounds =
      parts_bounds m.version (part_of s m.random) m.cipher (opt_part_of s m.ext)
      h
