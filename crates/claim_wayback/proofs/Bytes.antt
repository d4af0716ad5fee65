-- Bytes made of bytes: those of a number, of a part, and of one text behind the other; so the text
-- of a hello is of bytes where those lent with the value are. Assumes nothing.
use Prim.Native.Nat.{ℕ, zero, suc, ◌+◌, ◌/◌, ◌%◌}
use mathlib.Core.List.{List, [], ◌∷◌, ◌++◌}
use mathlib.Core.Bool.{Bool, true, false}
use native.Mathlib.Omega.{arith}
use lib.ListN.{length, take, drop}
use lib.Seq.{get_or-drop}
use lib.Dec.{leb}
use Rattle.std.specs.Prelude.{Some, None}
use Rattle.wire.specs.Numbers.{Bytes, bytes_of}
use Rattle.wire.specs.Parts.{pick, part_of, opt_part_of, OptView}
use Rattle.wire.specs.declared.view.View.{View}
use Rattle.wire.proofs.Numbers.{bytes_take}
use Rattle.field.specs.Fields.{Field, fixed, vector}
use Rattle.field.specs.Standing.{field_bytes}
use Rattle.grammar.specs.Grammars.{How, as_view, as_opt, as_number, Row, gather}
use Rattle.grammar.specs.Hellos.{extensions}
use Rattle.grammar.specs.Forms.{Form, Out, Outs, named}
use Rattle.write_rules.specs.HelloTexts.{hello_bytes}

no_bytes : Bytes []
no_bytes i = omega arith

pub bytes_append : (xs ys : List ℕ) → Bytes xs → Bytes ys → Bytes (xs ++ ys)
bytes_append [] ys a b i = b i
bytes_append (x ∷ xs) ys a b zero = a 0
bytes_append (x ∷ xs) ys a b (suc i) = bytes_append xs ys (λ j. a (suc j)) b i

one_byte : (n : ℕ) → Bytes (n % 256 ∷ [])
one_byte n zero = omega arith
one_byte n (suc i) = omega arith

pub bytes_number : (w n : ℕ) → Bytes (bytes_of w n)
unfolding bytes_of
bytes_number zero n = no_bytes
bytes_number (suc w) n = bytes_append (bytes_of w (n / 256)) (n % 256 ∷ []) (bytes_number w (n / 256)) (one_byte n)

bytes_part : (s : List ℕ) (v : View) → Bytes s → Bytes (part_of s v)
bytes_part s v b = go (leb (v.start + v.len) (length s))
  where
    go : (t : Bool) → Bytes (pick t (take v.len (drop v.start s)) [])
    go true = bytes_take v.len (drop v.start s) (λ i. rw get_or-drop (b (v.start + i)))
    go false = no_bytes

bytes_opt : (s : List ℕ) (o : OptView) → Bytes s → Bytes (opt_part_of s o)
bytes_opt s None b = no_bytes
bytes_opt s (Some v) b = bytes_part s v b

bytes_named : (m : How) (s : List ℕ) (o : Out m) → Bytes s → Bytes (named m s o)
bytes_named as_view s v b = bytes_part s v b
bytes_named (as_opt empty) s o b = bytes_opt s o b
bytes_named (as_number w) s n b = bytes_number w n

pub bytes_field : (f : Field) (p : List ℕ) → Bytes p → Bytes (field_bytes f p)
bytes_field (fixed n) p b = b
bytes_field (vector w r) p b = bytes_append (bytes_of w (length p)) p (bytes_number w (length p)) b

bytes_rows : (rs : List Row) (s : List ℕ) (os : Outs rs) (z : List ℕ) → Bytes s → Bytes z
    → Bytes (gather (λ (f, m) o rest. field_bytes f (named m s o) ++ rest) z rs os)
bytes_rows [] s os z b y = y
bytes_rows ((f, m) ∷ rs) s (o, os) z b y =
    bytes_append (field_bytes f (named m s o)) _ (bytes_field f (named m s o) (bytes_named m s o b))
    (bytes_rows rs s os z b y)

pub hello_bytes_lem : {C : Type 0} (k : Form C) (s : List ℕ) (c : C) → Bytes s → Bytes (hello_bytes k s c)
unfolding hello_bytes
hello_bytes_lem k s c b =
    bytes_rows k.grammar.rows s (k.handed c) _ b
    (bytes_field extensions (opt_part_of s (k.block c)) (bytes_opt s (k.block c) b))
