-- Joined records: the record at a place, all of them from the front on, and places counted from
-- there. RULES 6.10. Each is a record of
-- `record/specs/Records.antt`.
use Rattle.std.specs.Prelude.{◌+◌, ◌≤◌, ◌≡◌}
use Rattle.refusal.specs.{ℕ, List, foldl, foldr, length, drop, eqb, Answer, giving}
use Rattle.registry.specs.Types.{handshake_record}
use Rattle.wire.specs.{pick, part_of, View, lies_in}
use Rattle.grammar.specs.{reading}
use Rattle.list.specs.{items_from}
use Rattle.record_walk.specs.{messages}
use Rattle.record.specs.{raw, TlsRawRecord}
use Rattle.record_joined.specs.declared.RecordTally.{RecordTally}

-- a view of the part that an outer view names, as a view of the whole: empty where it lies outside
-- that part
unfoldable pub view_in_of : List ℕ → View → View → View
view_in_of s outer inner =
    pick (lies_in (part_of s outer) inner)
    (record { start = outer.start + inner.start; len = inner.len })
    (record { start = 0; len = 0 })

-- the record that begins at a place
unfoldable pub record_from : List ℕ → ℕ → Answer TlsRawRecord
record_from s at =
    giving (λ r. record { hdr = r.hdr; «data» = record { start = at + r.«data».start; len = r.«data».len }; next = at + r.next })
    (reading raw (drop at s))

-- all of them, until one is refused: each takes five bytes at least, so that the bound never ends
-- them (`NoRecordMore`)
abbrev pub records : List ℕ → List TlsRawRecord
records s = items_from (length s) (record_from s) (λ r. r.next) 0

-- by a larger bound no more are found
abbrev pub NoRecordMore : List ℕ → Type 0
NoRecordMore s = (n : ℕ) → length s ≤ n → items_from n (record_from s) (λ r. r.next) 0 ≡ records s

-- how many messages a record holds: one of another type than 0x16 is not opened and holds none
unfoldable pub messages_in : List ℕ → TlsRawRecord → ℕ
messages_in s r = pick (eqb r.hdr.record_type handshake_record) (length (messages (part_of s r.«data»))) 0

-- how many they are, the sum of their messages, and the place past the last of them
unfoldable pub tallied : List ℕ → RecordTally
tallied s =
    record { «records» = length (records s); messages = foldr (λ r n. messages_in s r + n) 0 (records s); end = foldl (λ at r. r.next) 0 (records s) }
