-- How long a ServerHello that may be written is, and the most that its parts can be: of parts that
-- are handed over apart, and of those that a value names. Assumes nothing.
use Prim.Native.Nat.{ℕ, ◌+◌, ◌≤◌}
use mathlib.Core.Path.{◌≡◌, sym, ◌∙◌}
use mathlib.Core.List.{List}
use mathlib.Core.Bool.{Bool, true}
use native.Mathlib.Omega.{arith}
use borrow.Author.Tests.{leb-true}
use lib.ListN.{length, length-append}
use Rattle.wire.specs.Parts.{part_of, opt_part_of}
use Rattle.wire.proofs.Numbers.{length_bytes}
use Rattle.field.proofs.Rules.{unless_none}
use Rattle.read_server.specs.Server.{server}
use Rattle.read_server.specs.declared.tlsv12.TlsServerHelloContents.{TlsServerHelloContents}
use Rattle.write_rules.specs.HelloTexts.{hello_bytes}
use Rattle.write_rules.specs.JoinTexts.{may_join, join_bytes, join_text}
use Rattle.write_rules.specs.MessageTexts.{head_text}
use Rattle.write_rules.proofs.Hellos.{Obeyed}
use Rattle.write_rules.proofs.Joins.{Joined, joined, in_row, row_join, join_message}
use Rattle.write_rules.proofs.Messages.{Message}
use Rattle.write_server.specs.Slices.{server_rows, server_parts}

pub record ServerBounds (i e : List ℕ) : Type 0 where
  pub id : length i ≤ 32
  pub ext : length e ≤ 65535

module _ (v : ℕ) (random id : List ℕ) (c k : ℕ) (ext : List ℕ)
    (h : Joined server_rows (server_parts v random id c k) ext) where
  row_length_lem : length (in_row server_rows (server_parts v random id c k) ext) ≡ 40 + length id + length ext
  row_length_lem = simp (length-append, length_bytes, h.fields.1.0) (omega arith)

  pub parts_length : length (join_bytes server_rows (server_parts v random id c k) ext) ≡ 40 + length id + length ext
  parts_length = rw (row_join server_rows (server_parts v random id c k) ext) row_length_lem

  pub parts_bounds : ServerBounds id ext
  parts_bounds =
      record { id = leb-true _ _ (unless_none _ _ h.fields.1.1.0.1); ext = omega (arith, h.last.0) }

-- the same of parts that were found to be writable, whatever the numbers are
module _ (random id ext : List ℕ) {t : Bool} (w : (v c k : ℕ) → t ≡ may_join server_rows (server_parts v random id c k) ext)
    (m : t ≡ true) where
  pub may_write : (v c k : ℕ) → may_join server_rows (server_parts v random id c k) ext ≡ true
  may_write v c k = sym (w v c k) ∙ m

  pub may_bounds : ServerBounds id ext
  may_bounds = parts_bounds 0 random id 0 0 ext (joined _ _ _ (may_write 0 0 0))

  pub may_length : (v c k : ℕ) → 40 + length id + length ext ≡ length (join_bytes server_rows (server_parts v random id c k) ext)
  may_length v c k = sym (parts_length v random id c k ext (joined _ _ _ (may_write v c k)))

  -- the message round them
  pub may_message : (v c k : ℕ) → Message (head_text 0x02) 4 (join_text server_rows (server_parts v random id c k) ext)
      (join_bytes server_rows (server_parts v random id c k) ext) (40 + length id + length ext)
  may_message v c k =
      join_message server_rows (server_parts v random id c k) ext 0x02 _ (may_write v c k) (may_length v c k)
      (omega (arith, may_bounds))

module _ (s : List ℕ) (m : TlsServerHelloContents) (h : Obeyed (server true) s m) where
  pub server_length : length (hello_bytes (server true) s m)
      ≡ 40 + length (opt_part_of s m.session_id) + length (opt_part_of s m.ext)
  unfolding hello_bytes
  server_length =
      row_length_lem m.version (part_of s m.random) (opt_part_of s m.session_id) m.cipher m.compression
      (opt_part_of s m.ext) h

  pub server_bounds : ServerBounds (opt_part_of s m.session_id) (opt_part_of s m.ext)
  server_bounds =
      parts_bounds m.version (part_of s m.random) (opt_part_of s m.session_id) m.cipher m.compression
      (opt_part_of s m.ext) h
