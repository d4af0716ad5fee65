-- Items with a tag, as extensions and server names are: the tag, a number of w bytes, and then the
-- data behind a length of two bytes. RULES 11.2; RFC 5246 7.4.1.4, RFC 6066 3. Which data a tag may
-- have is an argument, so that what is shown here of the items, and of the bytes that they fill or
-- fail to fill, is shown of all kinds at once.
use Rattle.std.specs.Prelude.{◌+◌, ◌^◌, ◌<◌, ◌≤◌, ◌≡◌, ◌⊎◌, ◌∷◌, ◌++◌}
use Rattle.refusal.specs.{ℕ, List, [], map, Bool, true, false, length, eqb, refusal, Answer, accepted, refused, then, LengthValue, giving, Refusal, Result, IfOk}
use Rattle.wire.specs.{pick, part_of, bytes_of, number_at, Bytes}
use Rattle.field.specs.{sized, step, field_bytes}
use Rattle.list.specs.Items.{items_from}
use Rattle.list.specs.Stopping.{end_of, Stops}
use Rattle.list.specs.declared.{tagged.Tagged.Tagged}

-- the item that begins at a place: its tag, where its data lies, and the place past it
unfoldable pub tagged_at : ℕ → List ℕ → ℕ → Answer Tagged
tagged_at w s at = then (number_at w s at) (λ t. giving (λ p. record { tag = t.value; view = p.view; next = p.next }) (step (sized 2) s t.next))

-- the tag and the data of an item that was found are numbers of their bytes
abbrev pub TaggedBelow : ℕ → Result Tagged Refusal → Type 0
TaggedBelow w a = IfOk a (λ x. (x.tag < 256 ^ w) × (x.view.len < 256 ^ 2))

-- which data stands behind which tag
abbrev pub Fit : Type 0
Fit = ℕ → List ℕ → Bool

-- any data, behind any tag
abbrev pub any_data : Fit
any_data t d = true

-- the item that begins at a place, where its data may stand behind its tag
unfoldable pub fit_at : ℕ → Fit → List ℕ → ℕ → Answer Tagged
fit_at w fit s at = then (tagged_at w s at) (λ x. pick (fit x.tag (part_of s x.view)) (accepted x) (refused (refusal LengthValue at 0)))

-- the items one behind the other, up to the first that cannot be had, and the byte where they end
abbrev pub tagged_in : ℕ → Fit → List ℕ → List Tagged
tagged_in w fit s = items_from (length s) (fit_at w fit s) (λ x. x.next) 0

abbrev pub tagged_end : ℕ → Fit → List ℕ → ℕ
tagged_end w fit s = end_of (λ (x : Tagged). x.next) (tagged_in w fit s) 0

-- they fill the bytes
abbrev pub filled : ℕ → Fit → List ℕ → Bool
filled w fit s = eqb (tagged_end w fit s) (length s)

-- an item as tag and data, and its bytes; no reader in it
abbrev pub tagged_bytes : ℕ → ℕ × List ℕ → List ℕ
tagged_bytes w (t, d) = bytes_of w t ++ field_bytes (sized 2) d

abbrev pub IsTagged : ℕ → Fit → ℕ × List ℕ → Type 0
IsTagged w fit (t, d) = (t < 256 ^ w) × (length d < 256 ^ 2) × (fit t d ≡ true)

abbrev pub EachTagged : ℕ → Fit → List (ℕ × List ℕ) → Type 0
EachTagged w fit [] = Unit
EachTagged w fit (x ∷ xs) = IsTagged w fit x × EachTagged w fit xs

-- the items' bytes in order
unfoldable pub join_tagged : ℕ → List (ℕ × List ℕ) → List ℕ
join_tagged w [] = []
join_tagged w (x ∷ xs) = tagged_bytes w x ++ join_tagged w xs

-- no item stands at the front of the bytes
abbrev pub NoneTagged : ℕ → Fit → List ℕ → Type 0
NoneTagged w fit b = (x : ℕ × List ℕ) (rest : List ℕ) → IsTagged w fit x → b ≡ tagged_bytes w x ++ rest → ⊥

-- the bytes are the join of these items
pub record Fills (w : ℕ) (fit : Fit) (s : List ℕ) (xs : List (ℕ × List ℕ)) : Type 0 where
  pub each : EachTagged w fit xs
  pub whole : s ≡ join_tagged w xs

-- the bytes are these items, and then others at whose front none stands
pub record Breaks (w : ℕ) (fit : Fit) (s : List ℕ) (xs : List (ℕ × List ℕ)) (rest : List ℕ) : Type 0 where
  pub each : EachTagged w fit xs
  pub whole : s ≡ join_tagged w xs ++ rest
  pub left : 1 ≤ length rest
  pub none_had : NoneTagged w fit rest

-- the items where they stand, the first at a place
unfoldable pub stand_tagged : ℕ → ℕ → List (ℕ × List ℕ) → List Tagged
stand_tagged w at [] = []
stand_tagged w at ((t, d) ∷ xs) = record { tag = t; view = record { start = at + w + 2; len = length d }; next = at + length (tagged_bytes w (t, d)) } ∷ stand_tagged w (at + length (tagged_bytes w (t, d))) xs

-- the items handed out, as tag and data
abbrev pub tagged_handed : List ℕ → List Tagged → List (ℕ × List ℕ)
tagged_handed s xs = map (λ (x : Tagged). (x.tag, part_of s x.view)) xs

pub record ByTagged (w : ℕ) (fit : Fit) (s : List ℕ) : Type 0 where
  -- the bytes are filled, or they break
  pub whichever : ((xs : List (ℕ × List ℕ)) × Fills w fit s xs) ⊎ ((xs : List (ℕ × List ℕ)) × (rest : List ℕ) × Breaks w fit s xs rest)
  -- items that fill them are handed out where they stand
  pub fills : (xs : List (ℕ × List ℕ)) → Fills w fit s xs → (filled w fit s ≡ true) × (tagged_in w fit s ≡ stand_tagged w 0 xs)
  -- and what is handed out then fills them
  pub splits : filled w fit s ≡ true → Fills w fit s (tagged_handed s (tagged_in w fit s))
  -- in one way
  pub only : (xs ys : List (ℕ × List ℕ)) → Fills w fit s xs → Fills w fit s ys → xs ≡ ys
  -- bytes that break are not filled, and break behind the items handed out
  pub breaks : (xs : List (ℕ × List ℕ)) (rest : List ℕ) → Breaks w fit s xs rest → (filled w fit s ≡ false) × (tagged_in w fit s ≡ stand_tagged w 0 xs) × (tagged_end w fit s ≡ length (join_tagged w xs))
  pub lacks : filled w fit s ≡ false → (rest : List ℕ) × Breaks w fit s (tagged_handed s (tagged_in w fit s)) rest
  -- the laws of the stopping rule, an item taking its tag and its length at least: a walk from the
  -- front meets them in order and then NoSuch, in steps in proportion to the bytes
  pub stopping : Stops (fit_at w fit s) (λ x. x.next) (w + 2) (length s)

-- the theorem: every width, every choice of data, all bytes; shown by `proofs/Tags.antt`
abbrev pub EveryTagged : Type 0
EveryTagged = (w : ℕ) (fit : Fit) (s : List ℕ) → Bytes s → ByTagged w fit s
