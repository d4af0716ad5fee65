-- When an extension block is refused and with which index, and when an extension or a list is not
-- written, said a second time: RULES 1.2, 11.3 to 11.6, 11.11, 11.12; RFC 5246 7.4.1.4, RFC 6066 3
-- and 4, RFC 8422 5.1.1. By places and lengths in the bytes lent, with no field, kind, item or step
-- in it. Shown by `proofs/Cases.antt`.
use Rattle.std.specs.Prelude.{◌+◌, ◌*◌, ◌%◌, ◌≡◌, ◌∷◌, ◌&&◌, ◌||◌}
use Rattle.refusal.specs.{ℕ, zero, suc, List, [], Bool, true, false, length, get_or, leb, eqb, number_of, Answer, accepted, refused, LengthValue, BadLength, NotYetImplemented}
use Rattle.wire.specs.{pick}
use Rattle.read_ext.specs.Extensions.{InBlock, sound, damaged, extensions}
use Rattle.write_ext.specs.ExtTexts.{ext_text, list_text, name_text}

-- the number of the two bytes from a place on
abbrev pub two : List ℕ → ℕ → ℕ
two s at = get_or s at 0 * 256 + get_or s (at + 1) 0

-- names from a place on fill the bytes up to an end, at most n of them: each a type, a length of
-- two bytes and that many bytes
unfoldable pub names_case : ℕ → List ℕ → ℕ → ℕ → Bool
names_case zero s at end = eqb at end
names_case (suc n) s at end = eqb at end || (leb (at + 3) end && (leb (at + 3 + two s (at + 1)) end && names_case n s (at + 3 + two s (at + 1)) end))

-- the n bytes from a place on are the data of a type: 0, server names; 1, a fragment length; 10,
-- groups; any other, whatever it is
unfoldable pub data_case : List ℕ → ℕ → ℕ → ℕ → Bool
data_case s t at n =
    pick (eqb t 0) (leb 2 n && (eqb (two s at + 2) n && names_case n s (at + 2) (at + n)))
    (pick (eqb t 1) (eqb n 1)
    (pick (eqb t 10) (leb 2 n && (eqb (two s at + 2) n && eqb (n % 2) 0))
    true))

-- the block from a place on, k items before it, at most n more: the table's number, and how many
-- items there are or the index of the first bad one
unfoldable pub block_case : ℕ → List ℕ → ℕ → ℕ → ℕ × ℕ
block_case zero s at k = pick (eqb at (length s)) (0, k) (number_of LengthValue, k)
block_case (suc n) s at k =
    pick (eqb at (length s)) (0, k)
    (pick (leb (at + 4) (length s) && (leb (at + 4 + two s (at + 2)) (length s) && data_case s (two s at) (at + 4) (two s (at + 2))))
    (block_case n s (at + 4 + two s (at + 2)) (suc k))
    (number_of LengthValue, k))

abbrev pub block_says : InBlock ℕ → ℕ × ℕ
block_says (sound n) = (0, n)
block_says (damaged n r) = (number_of r.reason, n)

-- every block
abbrev pub BlockCases : Type 0
BlockCases = (s : List ℕ) → block_says (extensions s) ≡ block_case (length s) s 0 0

-- what writing gives: the table's number, and where it is 0 the length of the text
abbrev pub text_says : Answer (List ℕ) → ℕ × ℕ
text_says (accepted b) = (0, length b)
text_says (refused r) = (number_of r.reason, 0)

-- an extension of a type with content c: names that fill it, up to 65,533 bytes; one byte; an even
-- number of bytes, up to 65,533; any other type is not written
unfoldable pub ext_case : ℕ → List ℕ → ℕ × ℕ
ext_case t c =
    pick (eqb t 0) (pick (leb (length c) 65533 && names_case (length c) c 0 (length c)) (0, 6 + length c) (number_of BadLength, 0))
    (pick (eqb t 1) (pick (eqb (length c) 1) (0, 5) (number_of BadLength, 0))
    (pick (eqb t 10) (pick (leb (length c) 65533 && eqb (length c % 2) 0) (0, 6 + length c) (number_of BadLength, 0))
    (number_of NotYetImplemented, 0)))

-- a list: NotYetImplemented where one of another type is anywhere; then BadLength where one is not
-- written or they are over 65,535 bytes in all; n bytes of them stand before these
unfoldable pub raw_case : List (ℕ × List ℕ) → Bool
raw_case [] = false
raw_case ((t, c) ∷ xs) = pick (eqb t 0 || (eqb t 1 || eqb t 10)) (raw_case xs) true

unfoldable pub sum_case : List (ℕ × List ℕ) → ℕ → ℕ × ℕ
sum_case [] n = pick (leb n 65535) (0, 2 + n) (number_of BadLength, 0)
sum_case ((t, c) ∷ xs) n = pick (eqb (ext_case t c).0 0) (sum_case xs (n + (ext_case t c).1)) (number_of BadLength, 0)

abbrev pub list_case : List (ℕ × List ℕ) → ℕ × ℕ
list_case xs = pick (raw_case xs) (number_of NotYetImplemented, 0) (sum_case xs 0)

-- every extension, every list, every entry of a list of names
pub record WriteCases : Type 0 where
  pub one : (t : ℕ) (c : List ℕ) → text_says (ext_text t c) ≡ ext_case t c
  pub list : (xs : List (ℕ × List ℕ)) → text_says (list_text xs) ≡ list_case xs
  pub name : (t : ℕ) (n : List ℕ) → text_says (name_text t n) ≡ pick (leb (length n) 65535) (0, 3 + length n) (number_of BadLength, 0)
