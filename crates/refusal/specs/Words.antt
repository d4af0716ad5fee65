-- The words that definitions take from the kit's libraries. Besides these they have `Unit` with its
-- value `tt`, `⊥`, which has none, and pairs, `×`. A subtraction stops at 0, `take` and `drop` at
-- the end of the list. `get_or s i d` is what stands at i, counted from 0, or d past the end.
-- `leb`, `ltb` and `eqb` are ≤, < and = as tests. `Option`, of `none` and `some`, is that of the
-- definitions. What the code has comes as it has it there: its `Option` is `MayBe` here, of `None`
-- and `Some`, and `is_some` tells whether there is a value; a `Result` is a value, `Ok`, or an
-- error, `Err`; `IfOk r P` says P of the value of r, and nothing of an error; `codes t` are the
-- characters of a text. An operator is passed on under no name of one's own: each page takes those
-- that it has from the kit's Prelude, where they are the ones named here.
pub use Rattle.std.specs.Prelude.{ℕ, ◌+◌, ◌-◌, zero, suc, ◌*◌, ◌/◌, ◌%◌, ◌^◌, ◌<◌, ◌≤◌, ◌≡◌, Bool, true, false, ◌||◌, ◌&&◌, length, take, drop, get_or, replicate, leb, eqb, ltb, ◌⊎◌, Option as MayBe, Some, None, is_some, Result, Ok, Err, IfOk, codes}
pub use Rattle.std.proofs.Math.Option.{Option, none, some}
pub use mathlib.Core.List.{List, [], ◌∷◌, ◌++◌, map, foldl, foldr}
