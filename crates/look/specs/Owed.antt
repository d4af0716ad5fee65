-- A message that is begun in one record and goes on in the next, and how many of its bytes are
-- owed: RULES 6.13.
use Rattle.std.specs.Prelude.{◌-◌}
use Rattle.refusal.specs.{ℕ, Bool, List, length, drop, eqb, ltb}
use Rattle.registry.specs.Types.{handshake_record}
use Rattle.wire.specs.{pick}
use Rattle.record_walk.specs.Walks.{messages, past_all}
use Rattle.record_tally.specs.Tally.{lacking_at}

-- more bytes than this are not believed to be missing of a message
abbrev pub believed : ℕ
believed = 131072

-- of messages, the first beginning at their front: what the last one lacks
abbrev pub begun : List ℕ → ℕ
begun s = pick (ltb believed (lacking_at s (past_all (messages s) 0))) 0 (lacking_at s (past_all (messages s) 0))

-- the bytes of a record of this type that are passed over, of those that are owed
abbrev pub passed : ℕ → ℕ → ℕ
passed recordType owed = pick (eqb recordType handshake_record) owed 0

-- what is owed after a record of this type and content, before which so many were owed; nothing
-- where the record is sealed
abbrev pub owed_after : Bool → ℕ → ℕ → List ℕ → ℕ
owed_after sealed recordType owed content =
    pick sealed 0
    (pick (eqb recordType handshake_record)
    (pick (ltb (length content) owed) (owed - length content) (begun (drop owed content)))
    0)
