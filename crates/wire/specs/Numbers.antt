-- Numbers of any width, the highest byte first: RULES 2.1, 2.3. RFC 5246 4.1 gives the sum of the
-- bytes, 4.4 the widths.
use Rattle.std.specs.Prelude.{◌+◌, ◌*◌, ◌/◌, ◌%◌, ◌^◌, ◌<◌, ◌≤◌, ◌≡◌, ◌∷◌, ◌++◌}
use Rattle.refusal.specs.{ℕ, zero, suc, List, [], length, take, get_or, ltb, unplaced, Answer, accepted, refused, Incomplete, BadLength, giving, Refusal, Result, IfOk}
use Rattle.wire.specs.Parts.{pick, part_at}
use Rattle.wire.specs.declared.{number.Number.Number, number.Width.Width}
use Rattle.wire.specs.declared.number.Width.TheVariants.{One, Two, Three, Four}

-- the widths in use: uint8, uint16, uint24, uint32
abbrev pub bytes_in : Width → ℕ
bytes_in One = 1
bytes_in Two = 2
bytes_in Three = 3
bytes_in Four = 4

-- a list of bytes
abbrev pub Bytes : List ℕ → Type 0
Bytes s = (i : ℕ) → get_or s i 0 < 256

-- the number of the w bytes from a place on, the first byte the highest
unfoldable pub be : ℕ → List ℕ → ℕ → ℕ
be zero s at = 0
be (suc w) s at = be w s at * 256 + get_or s (at + w) 0

-- the w bytes of a number, the highest first
unfoldable pub bytes_of : ℕ → ℕ → List ℕ
bytes_of zero n = []
bytes_of (suc w) n = bytes_of w (n / 256) ++ (n % 256 ∷ [])

-- a number and its bytes, shown of every width by `proofs/Numbers.antt`
pub record EachUndoes (w : ℕ) : Type 0 where
  -- as many bytes as the width
  pub long : (n : ℕ) → length (bytes_of w n) ≡ w
  -- a number that w bytes can hold is the number of its bytes, whatever stands behind them
  pub back : (n : ℕ) (rest : List ℕ) → n < 256 ^ w → be w (bytes_of w n ++ rest) 0 ≡ n
  -- w bytes are the bytes of their number, which w bytes can hold
  pub forth : (s : List ℕ) → Bytes s → w ≤ length s → bytes_of w (be w s 0) ≡ take w s
  pub holds : (s : List ℕ) (at : ℕ) → Bytes s → be w s at < 256 ^ w

-- reading: the number at a place, and the place past it
unfoldable pub number_at : ℕ → List ℕ → ℕ → Answer Number
number_at w s at = giving (λ p. record { value = be w s at; next = p.next }) (part_at Incomplete s at w)

-- a number that was found is one of w bytes
abbrev pub Below : ℕ → Result Number Refusal → Type 0
Below w a = IfOk a (λ n. n.value < 256 ^ w)

-- writing: the number's bytes, where w bytes can hold it
unfoldable pub number_text : ℕ → ℕ → Answer (List ℕ)
number_text w n = pick (ltb n (256 ^ w)) (accepted (bytes_of w n)) (refused (unplaced BadLength))
