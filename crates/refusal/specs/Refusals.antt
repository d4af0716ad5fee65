-- The numbers of the table of refusals, and what a refusal is made from: RULES 1.1, 1.3.
use Rattle.refusal.specs.declared.Refusal.{Refusal}
use Rattle.std.specs.Prelude.{◌≡◌, ◌⊎◌, ◌∷◌}
use Rattle.refusal.specs.Words.{ℕ, List, []}
use Rattle.refusal.specs.declared.{Reason.Reason, Refusal.Refusal}
use Rattle.refusal.specs.declared.Reason.TheVariants.{Incomplete, Complete, Verify, LengthValue, Tag, Switch, TooLarge, BadLength, NoRoom, NoSuch, NotYetImplemented}

abbrev pub number_of : Reason → ℕ
number_of Incomplete = 1
number_of Complete = 2
number_of Verify = 3
number_of LengthValue = 4
number_of Tag = 5
number_of Switch = 6
number_of TooLarge = 7
number_of BadLength = 8
number_of NoRoom = 9
number_of NoSuch = 11
number_of NotYetImplemented = 12

-- no two reasons share a number, and none has that of an accepted answer
pub record NumbersApart : Type 0 where
  pub apart : (r t : Reason) → number_of r ≡ number_of t → r ≡ t
  pub not_zero : (r : Reason) → 0 ≡ number_of r → ⊥

-- a number is 0, or that of one of these
abbrev pub OneOf : List Reason → ℕ → Type 0
OneOf [] n = n ≡ 0
OneOf (why ∷ whys) n = (n ≡ number_of why) ⊎ OneOf whys n

-- the refusal of an item that begins at a place and lacks so many bytes. RULES 1.3: a refusal is
-- its number, so place and shortfall are dropped, and whatever numbers stand there, it is the same
-- refusal
unfoldable pub refusal : Reason → ℕ → ℕ → Refusal
refusal why at lack = record { reason = why }

-- a refusal of no byte that was lent to be read: every refusal to write, and that of a type handed
-- over apart from its body
unfoldable pub unplaced : Reason → Refusal
unplaced why = record { reason = why }

-- the refusal of what lies inside a part that begins at a place and is whole: its item begins so
-- much later in the bytes lent, and no further byte helps. It carries its number alone, so it stays
-- as it is
unfoldable pub inside : ℕ → Refusal → Refusal
inside at r = r
