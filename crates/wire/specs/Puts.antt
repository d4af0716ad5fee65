-- Writing into a lent buffer: RULES 1.5. A refused write leaves each byte as it was lent; an
-- accepted one puts its text in, tells the place past it, and leaves the others.
use Rattle.std.specs.Prelude.{◌+◌, ◌++◌}
use Rattle.refusal.specs.{ℕ, List, length, take, drop, leb, unplaced, Answer, accepted, refused, NoRoom}
use Rattle.wire.specs.Parts.{pick, part_or}
use Rattle.wire.specs.declared.{view.Part.Part}

-- a buffer with bytes put in from a place on
unfoldable pub put : List ℕ → ℕ → List ℕ → List ℕ
put d at bs = take at d ++ (bs ++ drop (at + length bs) d)

-- the room for n bytes from a place on
unfoldable pub room_at : List ℕ → ℕ → ℕ → Answer Part
room_at d at n = part_or (unplaced NoRoom) d at n

-- the answer to writing a text from a place on: the place past it, or its own refusal, or NoRoom
unfoldable pub room : Answer (List ℕ) → ℕ → List ℕ → Answer ℕ
room (accepted bs) at d = pick (leb (at + length bs) (length d)) (accepted (at + length bs)) (refused (unplaced NoRoom))
room (refused r) at d = refused r

-- the buffer afterwards: the text put in where there is room for it, else the buffer as lent
unfoldable pub written : Answer (List ℕ) → ℕ → List ℕ → List ℕ
written (accepted bs) at d = pick (leb (at + length bs) (length d)) (put d at bs) d
written (refused r) at d = d
