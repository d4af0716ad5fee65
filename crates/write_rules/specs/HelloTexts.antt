-- What is written of a hello: RULES 7.2, 7.3, 7.6; RFC 5246 7.4.1.2, 7.4.1.3. A text is the
-- finished bytes, or the refusal to write any. The bytes are the fields by which the hello is read,
-- joined in order, and then the extensions, 00 00 where they are absent. The limits of RULES 7.2
-- are the rules of the fields, `grammar/specs/Hellos.antt`.
use Rattle.std.specs.Prelude.{◌++◌, ◌&&◌}
use Rattle.refusal.specs.{ℕ, List, Bool, true, false, length, unplaced, Answer, accepted, refused, BadLength}
use Rattle.wire.specs.{pick, opt_part_of, None, Some, lies_in}
use Rattle.field.specs.{Field, field_bytes, allowed}
use Rattle.grammar.specs.{How, as_view, as_opt, as_number, gather, extensions, Form, Out, named}

-- what was handed out of a field lies within the bytes lent with the value; in writing it is all
-- one what `as_opt` makes of an empty part
abbrev pub lies : (m : How) → List ℕ → Out m → Bool
lies as_view s v = lies_in s v
lies (as_opt empty) s None = true
lies (as_opt empty) s (Some v) = lies_in s v
lies (as_number w) s n = true

-- and may be written: the part that it names may stand in the field
abbrev pub may_stand : Field → (m : How) → List ℕ → Out m → Bool
may_stand f m s o = lies m s o && allowed f (length (named m s o))

-- a hello may be written where each of its parts may, and its extensions
unfoldable pub may_write : {C : Type 0} → Form C → List ℕ → C → Bool
may_write k s c = gather (λ (f, m) o rest. may_stand f m s o && rest) (may_stand extensions (as_opt false) s (k.block c)) k.grammar.rows (k.handed c)

-- the fields joined, and the extensions
unfoldable pub hello_bytes : {C : Type 0} → Form C → List ℕ → C → List ℕ
hello_bytes k s c = gather (λ (f, m) o rest. field_bytes f (named m s o) ++ rest) (field_bytes extensions (opt_part_of s (k.block c))) k.grammar.rows (k.handed c)

-- the bytes, or BadLength
unfoldable pub hello_text : {C : Type 0} → Form C → List ℕ → C → Answer (List ℕ)
hello_text k s c = pick (may_write k s c) (accepted (hello_bytes k s c)) (refused (unplaced BadLength))
