-- What holds of a number's entry in a table holds of each row's and of none. Assumes nothing.
use Prim.Native.Nat.{ℕ}
use mathlib.Core.Path.{◌≡◌, refl}
use mathlib.Core.List.{List, [], ◌∷◌}
use mathlib.Core.Option.{Option, none, some}
use mathlib.Core.Bool.{Bool, true, false}
use borrow.Author.Tests.{eqb-true}
use lib.Dec.{eqb}
use Rattle.wire.specs.Parts.{lookup}

-- of each row, in order
abbrev pub Rows : {A : Type 0} → (ℕ → A → Type 0) → List (ℕ × A) → Type 0
Rows P [] = Unit
Rows P ((n, a) ∷ rows) = P n a × Rows P rows

-- a row's, and those of the rows behind it
infixr 60 ◌&◌
pub ◌&◌ : {A B : Type 0} → A → B → A × B
◌&◌ a b = (a, b)

pub by_rows : {A : Type 0} (P : Option A → Type 0) (k : ℕ) (rows : List (ℕ × A))
    → Rows (λ n a. k ≡ n → P (some a)) rows → P none → P (lookup k rows)
by_rows P k [] ps other = other
by_rows {A} P k ((n, a) ∷ rows) (p, ps) other = go (eqb k n) refl (by_rows P k rows ps other)
  where
    go : (t : Bool) → eqb k n ≡ t → P (lookup k rows) → P (lookup k ((n, a) ∷ rows))
    go true q ih = rw q (p (eqb-true k n q))
    go false q ih = rw q ih
