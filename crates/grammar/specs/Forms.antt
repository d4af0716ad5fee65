-- What is handed out of a body as a value of the code, a hello's contents: RULES 3.9, 3.10, 3.12. A
-- form has its grammar and the value made of what each row hands out; and a value tells what it was
-- made of. From this, and with no reader, the pieces and the views that a value names.
use Rattle.std.specs.Prelude.{◌≤◌, ◌∷◌, ◌≡◌}
use Rattle.refusal.specs.{ℕ, List, [], true, false, drop, length, eqb, Option, none, some, refusal, Answer, then, refused, Tag, giving}
use Rattle.wire.specs.{pick, part_of, opt_part_of, lookup, be, bytes_of, number_at, OptView, None, Some, View}
use Rattle.grammar.specs.Grammars.{How, as_view, as_opt, as_number, Row, Grammar, Each, each, gather, Views, Parts, Handed}
use Rattle.grammar.specs.Splits.{Pieces, block_of}
use Rattle.grammar.specs.Reading.{read}

-- what a field is handed out as
abbrev pub Out : How → Type 0
Out as_view = View
Out (as_opt empty) = OptView
Out (as_number w) = ℕ

-- RULES 3.9: a session id of length 0 is absent
abbrev pub absent_if_empty : View → OptView
absent_if_empty v = pick (eqb v.len 0) None (Some v)

-- what is handed out of the field whose part lies at a view
abbrev pub out : (m : How) → List ℕ → View → Out m
out as_view s v = v
out (as_opt true) s v = Some v
out (as_opt false) s v = absent_if_empty v
out (as_number w) s v = be w s v.start

-- the bytes that a thing handed out names: those of its view, none where it is absent, the bytes of
-- a number
abbrev pub named : (m : How) → List ℕ → Out m → List ℕ
named as_view s v = part_of s v
named (as_opt empty) s o = opt_part_of s o
named (as_number w) s n = bytes_of w n

-- a view, if there is one, before others
abbrev pub if_there : OptView → List View → List View
if_there None vs = vs
if_there (Some v) vs = v ∷ vs

-- the views in a thing handed out, one or none, before those of later rows
abbrev pub seen : (m : How) → Out m → List View → List View
seen as_view v vs = v ∷ vs
seen (as_opt empty) o vs = if_there o vs
seen (as_number w) n vs = vs

-- one thing handed out for each row; and `out`, `named` and `seen` over all rows
abbrev pub Outs : List Row → Type 0
Outs rs = Each (λ (f, m). Out m) rs

abbrev pub outs : (rs : List Row) → List ℕ → Views rs → Outs rs
outs rs s vs = each (λ (f, m) v. out m s v) rs vs

abbrev pub all_named_of : (rs : List Row) → List ℕ → Outs rs → Parts rs
all_named_of rs s os = each (λ (f, m) o. named m s o) rs os

abbrev pub all_seen : (rs : List Row) → Outs rs → List View → List View
all_seen rs os after = gather (λ (f, m) o vs. seen m o vs) after rs os

-- how a body becomes a value: its grammar; the value made of what the rows hand out, the block and
-- where the tail begins; and these three back from a value
pub record Form (C : Type 0) : Type 0 where
  pub grammar : Grammar
  pub value : Outs grammar.rows → OptView → ℕ → C
  pub handed : C → Outs grammar.rows
  pub block : C → OptView
  pub tail : C → ℕ

-- the value of what a grammar hands out of the bytes
abbrev pub value_of : {C : Type 0} (k : Form C) → List ℕ → Handed k.grammar → C
value_of k s h = k.value (outs k.grammar.rows s h.views) h.block h.tail

-- the answer to reading by a form
unfoldable pub reading : {C : Type 0} → Form C → List ℕ → Answer C
reading k s = giving (λ h. value_of k s h) (read k.grammar s)

-- the pieces of the bytes that a value names
abbrev pub pieces : {C : Type 0} (k : Form C) → List ℕ → C → Pieces k.grammar
pieces k s c = record { parts = all_named_of k.grammar.rows s (k.handed c); block = block_of s (k.block c); tail = drop (k.tail c) s }

-- the views in a value, in field order
abbrev pub views : {C : Type 0} (k : Form C) → C → List View
views k c = all_seen k.grammar.rows (k.handed c) (if_there (k.block c) [])

-- the versions listed, and the form of each
abbrev pub Listing : Type 0 → Type 0
Listing C = List (ℕ × Form C)

abbrev pub if_listed : {C : Type 0} → Option (Form C) → List ℕ → Answer C
if_listed (some k) s = reading k s
if_listed none s = refused (refusal Tag 0 0)

-- RULES 3.10: the version comes before all else; with fewer than 2 bytes it is Incomplete, and one
-- that is not listed is Tag
unfoldable pub by_version : {C : Type 0} → Listing C → List ℕ → Answer C
by_version forms s = then (number_at 2 s 0) (λ v. if_listed (lookup v.value forms) s)

-- the body has a version, and it announces the form
abbrev pub Announces : {C : Type 0} → Listing C → List ℕ → Form C → Type 0
Announces forms body k = (2 ≤ length body) × (lookup (be 2 body 0) forms ≡ some k)
