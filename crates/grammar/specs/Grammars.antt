-- A grammar is data: rows in order, and an optional last block. RULES 3.1: fields are checked in
-- their order; 3.7, RFC 5246 7.4.1.4: extensions are a block.
use Rattle.std.specs.Prelude.{◌∷◌}
use Rattle.refusal.specs.{ℕ, List, [], Bool, Option}
use Rattle.wire.specs.{OptView, View}
use Rattle.field.specs.{Field}

-- a field is handed out as a view, as a part that may be absent (`as_opt true`: an empty one is
-- present; `as_opt false`: it is absent), or as a number of w bytes
pub data How : Type 0 where
  as_view : How
  as_opt : Bool → How
  as_number : ℕ → How

-- a field, and how it is handed out
abbrev pub Row : Type 0
Row = Field × How

pub record Grammar : Type 0 where
  pub rows : List Row
  pub block : Option Field

-- one thing for each row
abbrev pub Each : (Row → Type 0) → List Row → Type 0
Each A [] = Unit
Each A (r ∷ rs) = A r × Each A rs

-- of one thing for each row, another for each
abbrev pub each : {A B : Row → Type 0} → ((r : Row) → A r → B r) → (rs : List Row) → Each A rs → Each B rs
each f [] xs = tt
each f (r ∷ rs) (x, xs) = (f r x, each f rs xs)

-- all of them taken together, from the last row to the first
abbrev pub gather : {A : Row → Type 0} {X : Type 0} → ((r : Row) → A r → X → X) → X → (rs : List Row) → Each A rs → X
gather f end [] xs = end
gather f end (r ∷ rs) (x, xs) = f r x (gather f end rs xs)

abbrev pub Views : List Row → Type 0
Views rs = Each (λ r. View) rs

abbrev pub Parts : List Row → Type 0
Parts rs = Each (λ r. List ℕ) rs

-- what is handed out: a view for each row, the block or none, and where the tail begins
pub record Handed (g : Grammar) : Type 0 where
  pub views : Views g.rows
  pub block : OptView
  pub tail : ℕ
