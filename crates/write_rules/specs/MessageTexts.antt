-- What is written of a message: RULES 5.1, 7.1, 7.3; RFC 5246 7.4. A body that is one part is the
-- part, or the part behind its length.
use Rattle.std.specs.Prelude.{◌++◌}
use Rattle.refusal.specs.{ℕ, List, length, unplaced, Answer, accepted, refused, then, BadLength, giving}
use Rattle.wire.specs.{pick, part_of, bytes_of, number_text, View, lies_in}
use Rattle.field.specs.{sized, field_text}

-- a head: type and length, for a body of n bytes
unfoldable pub head_text : ℕ → ℕ → Answer (List ℕ)
head_text msgType n = giving (λ t. bytes_of 1 msgType ++ t) (number_text 3 n)

-- the head for the body's length, and the body; the head is an argument, since not every one has
-- four bytes
unfoldable pub message_text : (ℕ → Answer (List ℕ)) → Answer (List ℕ) → Answer (List ℕ)
message_text head body = then body (λ b. giving (λ h. h ++ b) (head (length b)))

-- the part that a view names: BadLength where it lies outside the bytes lent with the value
unfoldable pub view_text : List ℕ → View → Answer (List ℕ)
view_text s v = pick (lies_in s v) (accepted (part_of s v)) (refused (unplaced BadLength))

-- the same behind a length of w bytes
unfoldable pub sized_text : ℕ → List ℕ → View → Answer (List ℕ)
sized_text w s v = then (view_text s v) (λ p. field_text (sized w) p)
