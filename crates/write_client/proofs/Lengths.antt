-- How long a ClientHello that may be written is, and the most that its parts can be: of parts that
-- are handed over apart, and of those that a value names. Assumes nothing.
use Prim.Native.Nat.{ℕ, ◌+◌, ◌%◌, ◌≤◌}
use mathlib.Core.Path.{◌≡◌, sym, ◌∙◌}
use mathlib.Core.List.{List}
use mathlib.Core.Bool.{Bool, true}
use native.Mathlib.Omega.{arith}
use borrow.Author.Tests.{eqb-true, leb-true}
use lib.ListN.{length, length-append}
use Rattle.wire.specs.Parts.{part_of, opt_part_of}
use Rattle.wire.proofs.Numbers.{length_bytes}
use Rattle.field.proofs.Rules.{unless_none}
use Rattle.read_client.specs.Client.{client}
use Rattle.read_client.specs.declared.TlsClientHelloContents.{TlsClientHelloContents}
use Rattle.write_rules.specs.HelloTexts.{hello_bytes}
use Rattle.write_rules.specs.JoinTexts.{may_join, join_bytes, join_text}
use Rattle.write_rules.specs.MessageTexts.{head_text}
use Rattle.write_rules.proofs.Hellos.{Obeyed}
use Rattle.write_rules.proofs.Joins.{Joined, joined, in_row, row_join, join_message}
use Rattle.write_rules.proofs.Messages.{Message}
use Rattle.write_client.specs.Slices.{client_rows, client_parts}

pub record ClientBounds (i c m e : List ℕ) : Type 0 where
  pub id : length i ≤ 32
  pub ciphers : length c ≤ 65534
  pub comp : length m ≤ 255
  pub ext : length e ≤ 65535

module _ (v : ℕ) (random id ciphers comp ext : List ℕ)
    (h : Joined client_rows (client_parts v random id ciphers comp) ext) where
  row_length_lem : length (in_row client_rows (client_parts v random id ciphers comp) ext)
      ≡ 40 + length id + length ciphers + length comp + length ext
  row_length_lem = simp (length-append, length_bytes, h.fields.1.0) (omega arith)

  pub parts_length : length (join_bytes client_rows (client_parts v random id ciphers comp) ext)
      ≡ 40 + length id + length ciphers + length comp + length ext
  parts_length = rw (row_join client_rows (client_parts v random id ciphers comp) ext) row_length_lem

  pub parts_bounds : ClientBounds id ciphers comp ext
  parts_bounds =
      let f = h.fields.1.1 in
      let even : length ciphers % 2 ≡ 0 = eqb-true _ _ (unless_none _ _ f.1.0.1) in
      record {
        id = leb-true _ _ (unless_none _ _ f.0.1);
        ciphers = omega (arith, f.1.0.0);
        comp = omega (arith, f.1.1.0.0);
        ext = omega (arith, h.last.0);
      }

-- the same of parts that were found to be writable at any version
module _ (random id ciphers comp ext : List ℕ) {t : Bool}
    (w : (v : ℕ) → t ≡ may_join client_rows (client_parts v random id ciphers comp) ext) (m : t ≡ true) where
  pub may_write : (v : ℕ) → may_join client_rows (client_parts v random id ciphers comp) ext ≡ true
  may_write v = sym (w v) ∙ m

  pub may_bounds : ClientBounds id ciphers comp ext
  may_bounds = parts_bounds 0 random id ciphers comp ext (joined _ _ _ (may_write 0))

  pub may_length : (v : ℕ) → 40 + length id + length ciphers + length comp + length ext
      ≡ length (join_bytes client_rows (client_parts v random id ciphers comp) ext)
  may_length v = sym (parts_length v random id ciphers comp ext (joined _ _ _ (may_write v)))

  -- the message round them
  pub may_message : (v : ℕ) → Message (head_text 0x01) 4 (join_text client_rows (client_parts v random id ciphers comp) ext)
      (join_bytes client_rows (client_parts v random id ciphers comp) ext) (40 + length id + length ciphers + length comp + length ext)
  may_message v =
      join_message client_rows (client_parts v random id ciphers comp) ext 0x01 _ (may_write v) (may_length v)
      (omega (arith, may_bounds))

module _ (s : List ℕ) (m : TlsClientHelloContents) (h : Obeyed client s m) where
  pub client_length : length (hello_bytes client s m)
      ≡ 40 + length (opt_part_of s m.session_id) + length (part_of s m.ciphers) + length (part_of s m.comp)
      + length (opt_part_of s m.ext)
  unfolding hello_bytes
  client_length =
      row_length_lem m.version (part_of s m.random) (opt_part_of s m.session_id) (part_of s m.ciphers)
      (part_of s m.comp) (opt_part_of s m.ext) h

  pub client_bounds : ClientBounds (opt_part_of s m.session_id) (part_of s m.ciphers) (part_of s m.comp)
      (opt_part_of s m.ext)
  client_bounds =
      parts_bounds m.version (part_of s m.random) (opt_part_of s m.session_id) (part_of s m.ciphers)
      (part_of s m.comp) (opt_part_of s m.ext) h
