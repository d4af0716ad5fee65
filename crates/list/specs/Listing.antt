-- What the bytes of a list are, with no reader in it: the items joined in order with their lengths,
-- then a remainder at whose front no item stands. RULES 2.7, 2.8; RFC 5246 4.3. And what is shown
-- of the items handed out.
use Rattle.std.specs.Prelude.{◌+◌, ◌<◌, ◌≤◌, ◌≡◌, ◌∷◌, ◌++◌}
use Rattle.refusal.specs.{ℕ, suc, List, [], map, length, refusal, accepted, refused, NoSuch}
use Rattle.wire.specs.{part_of, Part}
use Rattle.field.specs.{Field, field_bytes, Obeys, NoneAt, view_of}
use Rattle.list.specs.Items.{items, item_from, place}

abbrev pub EachObeys : Field → List (List ℕ) → Type 0
EachObeys f [] = Unit
EachObeys f (x ∷ xs) = Obeys f x × EachObeys f xs

-- the items' bytes in order
unfoldable pub join_items : Field → List (List ℕ) → List ℕ
join_items f [] = []
join_items f (x ∷ xs) = field_bytes f x ++ join_items f xs

-- the list holds these items, and the remainder is dropped
pub record Holds (f : Field) (s : List ℕ) (xs : List (List ℕ)) (remainder : List ℕ) : Type 0 where
  pub obey : EachObeys f xs
  pub whole : s ≡ join_items f xs ++ remainder
  pub stops : NoneAt f remainder

-- the items where they stand, the first at a place
unfoldable pub standing : Field → ℕ → List (List ℕ) → List Part
standing f at [] = []
standing f at (x ∷ xs) = record { view = view_of f at x; next = at + length (field_bytes f x) } ∷ standing f (at + length (field_bytes f x)) xs

-- the bytes handed out
abbrev pub bytes_handed : List ℕ → List Part → List (List ℕ)
bytes_handed s ps = map (λ (p : Part). part_of s p.view) ps

pub record ByItems (f : Field) (s : List ℕ) : Type 0 where
  -- the list holds the items handed out
  pub holds : (remainder : List ℕ) × Holds f s (bytes_handed s (items f s)) remainder
  -- the items of a list are handed out where they stand
  pub hands : (xs : List (List ℕ)) (remainder : List ℕ) → Holds f s xs remainder → items f s ≡ standing f 0 xs
  -- a list holds its items in one way
  pub only : (xs ys : List (List ℕ)) (r t : List ℕ) → Holds f s xs r → Holds f s ys t → (xs ≡ ys) × (r ≡ t)
  -- there is an item at a place below the count, and at or past the count it is NoSuch
  pub below : (n : ℕ) → n < length (items f s) → (p : Part) × (place n (items f s) ≡ accepted p)
  pub past : (n : ℕ) → length (items f s) ≤ n → place n (items f s) ≡ refused (refusal NoSuch 0 0)
  -- a walk from the front, each time from the place handed out, meets every item in order and then
  -- NoSuch
  pub begins : place 0 (items f s) ≡ item_from f s 0
  pub goes_on_of : (n : ℕ) (p : Part) → place n (items f s) ≡ accepted p → place (suc n) (items f s) ≡ item_from f s p.next
