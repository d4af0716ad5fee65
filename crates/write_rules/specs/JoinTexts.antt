-- What is written of a hello whose parts are handed over apart, each a run of bytes of its own:
-- RULES 7.2, 7.3, 7.6. It is the text of `HelloTexts.antt` where the parts that a value names all
-- lie in the bytes lent with it: `proofs/Joins.antt`.
use Rattle.std.specs.Prelude.{◌++◌, ◌&&◌}
use Rattle.refusal.specs.{ℕ, List, Bool, false, length, unplaced, Answer, accepted, refused, BadLength}
use Rattle.wire.specs.{pick}
use Rattle.field.specs.{field_bytes, allowed}
use Rattle.grammar.specs.{as_opt, gather, join, extensions, Form}
use Rattle.grammar.specs.Grammars.{Row, Parts}
use Rattle.write_rules.specs.HelloTexts.{lies}

-- each part may stand in its field, and the last in that of the extensions
unfoldable pub may_join : (rs : List Row) → Parts rs → List ℕ → Bool
may_join rs ps e = gather (λ (f, m) p rest. allowed f (length p) && rest) (allowed extensions (length e)) rs ps

-- the fields joined, and the extensions
unfoldable pub join_bytes : (rs : List Row) → Parts rs → List ℕ → List ℕ
join_bytes rs ps e = join rs ps ++ field_bytes extensions e

-- the bytes, or BadLength
unfoldable pub join_text : (rs : List Row) → Parts rs → List ℕ → Answer (List ℕ)
join_text rs ps e = pick (may_join rs ps e) (accepted (join_bytes rs ps e)) (refused (unplaced BadLength))

-- all that a value names lies within the bytes lent with it
unfoldable pub all_lie : {C : Type 0} → Form C → List ℕ → C → Bool
all_lie k s c = gather (λ (f, m) o rest. lies m s o && rest) (lies (as_opt false) s (k.block c)) k.grammar.rows (k.handed c)

-- how many bytes a text has: none where none may be written
abbrev pub text_length : Answer (List ℕ) → ℕ
text_length (accepted bs) = length bs
text_length (refused r) = 0
