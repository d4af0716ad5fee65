-- Small extension blocks with their answers, and small lists with their texts: RULES 11. Bytes are
-- written by their number. Shown by running the definitions, `proofs/SmallBlocks.antt`.
use Rattle.std.specs.Prelude.{◌≡◌, ◌∷◌, ◌++◌}
use Rattle.refusal.specs.{ℕ, List, [], number_of, LengthValue, BadLength, NotYetImplemented}
use Rattle.wire.specs.{bytes_of}
use Rattle.read_ext.specs.Extensions.{extensions, items_of}
use Rattle.read_ext.specs.Splits.{contents_of}
use Rattle.write_ext.specs.ExtTexts.{list_text}
use Rattle.claim_ext.specs.ExtCases.{block_says, text_says}

-- a block: its bytes, the number and the count or the index; and of a sound one type and content of
-- each
abbrev pub BlockRow : Type 0
BlockRow = List ℕ × (ℕ × ℕ)

abbrev pub refused_at : List ℕ → ℕ → BlockRow
refused_at s k = (s, (number_of LengthValue, k))

unfoldable pub block_rows : List BlockRow
block_rows =
    -- no bytes, one, and a length that runs past the end
    ([], (0, 0))
    ∷ refused_at (bytes_of 1 0) 0
    ∷ refused_at (bytes_of 5 0x00ff_0002_00) 0
    -- server names: no inner length, one that is unlike what follows, an empty list, a name, a name
    -- that is cut, a byte behind a name
    ∷ refused_at (bytes_of 4 0x0000_0000) 0
    ∷ refused_at (bytes_of 6 0x0000_0002_0001) 0
    ∷ (bytes_of 6 0x0000_0002_0000, (0, 1))
    ∷ (bytes_of 10 0x0000_0006_0004_00_0001_61, (0, 1))
    ∷ refused_at (bytes_of 10 0x0000_0006_0004_00_0002_61) 0
    ∷ refused_at (bytes_of 10 0x0000_0006_0004_00_0000_61) 0
    -- a fragment length of no byte, one, any one, and two
    ∷ refused_at (bytes_of 4 0x0001_0000) 0
    ∷ (bytes_of 5 0x0001_0001_01, (0, 1))
    ∷ (bytes_of 5 0x0001_0001_ff, (0, 1))
    ∷ refused_at (bytes_of 6 0x0001_0002_0000) 0
    -- groups: no inner length, an empty list, one group, an odd list, a byte behind it
    ∷ refused_at (bytes_of 4 0x000a_0000) 0
    ∷ (bytes_of 6 0x000a_0002_0000, (0, 1))
    ∷ (bytes_of 8 0x000a_0004_0002_001d, (0, 1))
    ∷ refused_at (bytes_of 7 0x000a_0003_0001_00) 0
    ∷ refused_at (bytes_of 7 0x000a_0003_0000_00) 0
    -- a raw one, and damage behind others, of which the first counts
    ∷ (bytes_of 5 0x0010_0001_00, (0, 1))
    ∷ (bytes_of 9 0x0010_0000_0001_0001_02, (0, 2))
    ∷ refused_at (bytes_of 12 0x0010_0000_0010_0000_0000_0000) 2
    ∷ refused_at (bytes_of 9 0x0010_0000_0001_0000_00) 1
    ∷ []

-- a list of type and content, and its text's number and length
abbrev pub ListRow : Type 0
ListRow = List (ℕ × List ℕ) × (ℕ × ℕ)

unfoldable pub list_rows : List ListRow
list_rows =
    ([], (0, 2))
    ∷ ((1, 2 ∷ []) ∷ [], (0, 7))
    ∷ ((0, bytes_of 4 0x00_0001_61) ∷ (10, bytes_of 2 0x001d) ∷ [], (0, 20))
    -- a raw one anywhere comes before a length that does not fit
    ∷ ((10, 0 ∷ []) ∷ (16, []) ∷ [], (number_of NotYetImplemented, 0))
    ∷ ((10, 0 ∷ []) ∷ [], (number_of BadLength, 0))
    ∷ ((1, []) ∷ [], (number_of BadLength, 0))
    ∷ ((0, bytes_of 4 0x00_0002_61) ∷ [], (number_of BadLength, 0))
    ∷ []

abbrev pub AllBlocks : List BlockRow → Type 0
AllBlocks [] = Unit
AllBlocks ((s, a) ∷ rest) = (block_says (extensions s) ≡ a) × AllBlocks rest

abbrev pub AllLists : List ListRow → Type 0
AllLists [] = Unit
AllLists ((xs, a) ∷ rest) = (text_says (list_text xs) ≡ a) × AllLists rest

-- the contents of a block of all four kinds
abbrev pub OneOfEach : Type 0
OneOfEach =
    contents_of (bytes_of 10 0x0000_0006_0004_00_0001_61 ++ (bytes_of 5 0x0001_0001_02 ++ (bytes_of 8 0x000a_0004_0002_001d ++ bytes_of 6 0x0010_0002_6832)))
    (items_of (bytes_of 10 0x0000_0006_0004_00_0001_61 ++ (bytes_of 5 0x0001_0001_02 ++ (bytes_of 8 0x000a_0004_0002_001d ++ bytes_of 6 0x0010_0002_6832))))
    ≡ (0, bytes_of 4 0x00_0001_61) ∷ (1, 2 ∷ []) ∷ (10, bytes_of 2 0x001d) ∷ (16, bytes_of 2 0x6832) ∷ []

pub record SmallBlocks : Type 0 where
  pub blocks : AllBlocks block_rows
  pub lists : AllLists list_rows
  pub each : OneOfEach
