-- `look_input::input_kind` meets its contract, by those of `parse_be` and `kind_of_first`. Assumes
-- nothing.
use Prim.Native.Nat.{ℕ, ◌≤◌}
use mathlib.Core.List.{List}
use mathlib.Core.Path.{◌≡◌}
use lib.ListN.{length}
use native.Mathlib.Omega.{arith}
use borrow.Author.Tests.{le-leb, lt-leb}
use Rattle.refusal.specs.declared.Refusal.{Refusal}
use Rattle.std.specs.Prelude.{Ok, Result}
use Rattle.refusal.specs.Answers.{as_answer}
use Rattle.refusal.proofs.Told.{case}
use Rattle.wire.specs.Numbers.{number_at}
use Rattle.wire.specs.declared.number.Number.{Number}
use Rattle.wire.proofs.Numbers.{number_is, number_short, number_value}
use Rattle.look_input.specs.Inputs.{input_kind}
use Rattle.look_input.proofs.input_kind.Goals as goal

-- where the number was found, there are four bytes
four : (s : List ℕ) {a : (Result Number Refusal)} {n : Number} → as_answer a ≡ number_at 4 s 0 → a ≡ Ok n → 4 ≤ length s
four s e g = (number_is 4 s 0 (case as_answer e g)).inside

pub bounds-s-0 : goal.bounds-s-0
bounds-s-0 c = omega (arith, four _ c.parse_be.ensures.result_value c.in-Ok.is)

pub bounds-s-1 : goal.bounds-s-1
bounds-s-1 c = omega (arith, four _ c.parse_be.ensures.result_value c.in-Ok.is)

pub bounds-s-2 : goal.bounds-s-2
bounds-s-2 c = omega (arith, four _ c.parse_be.ensures.result_value c.in-Ok.is)

pub bounds-s-3 : goal.bounds-s-3
bounds-s-3 c = omega (arith, four _ c.parse_be.ensures.result_value c.in-Ok.is)

pub returns-in_default : goal.returns-in_default
unfolding input_kind
returns-in_default c =
    let e = case as_answer c.parse_be.ensures.result_value c.in_default.is in
    rw (lt-leb _ _ (number_short 4 _ 0 e).outside)

pub returns : goal.returns
unfolding input_kind
returns c =
    let e = case as_answer c.parse_be.ensures.result_value c.in-Ok.is in
    rw (le-leb _ _ (number_is 4 _ 0 e).inside, number_value 4 _ 0 e) c.kind_of_first.ensures
