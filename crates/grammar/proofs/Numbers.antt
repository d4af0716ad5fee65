-- What `wire::number::parse_be` answers, as a reader's proof needs it: the field that a number is,
-- its value, and that it fits its width. Assumes nothing.
use Prim.Native.Nat.{ℕ, ◌^◌, ◌<◌}
use mathlib.Core.Path.{◌≡◌}
use mathlib.Core.List.{List}
use Rattle.std.specs.Prelude.{Ok, Err, Result}
use Rattle.refusal.specs.Answers.{accepted, refused, as_answer}
use Rattle.refusal.specs.declared.Refusal.{Refusal}
use Rattle.refusal.proofs.Told.{case}
use Rattle.wire.specs.Numbers.{Below, be, number_at}
use Rattle.wire.specs.declared.number.Number.{Number}
use Rattle.wire.proofs.Numbers.{number_value, below_limit}
use Rattle.field.specs.Fields.{fixed, step}
use Rattle.field.proofs.Rules.{number_field, number_field_no}

pub record Found (w : ℕ) (s : List ℕ) (at : ℕ) (n : Number) : Type 0 where
  pub field : step (fixed w) s at ≡ accepted (record { view = record { start = at; len = w }; next = n.next })
  pub value : be w s at ≡ n.value
  pub below : n.value < 256 ^ w

pub found : (w : ℕ) {s : List ℕ} {at : ℕ} {a : (Result Number Refusal)} {n : Number} → (as_answer a ≡ number_at w s at)
    × Below w a → a ≡ Ok n → Found w s at n
found w {s} {at} e g =
    let q = case as_answer e.0 g in
    record { field = number_field w s at q; value = number_value w s at q; below = below_limit w e.1 g }

pub not_found : (w : ℕ) (s : List ℕ) (at : ℕ) {a : (Result Number Refusal)} {r : Refusal} → (as_answer a ≡ number_at w s at)
    × Below w a → a ≡ Err r → step (fixed w) s at ≡ refused r
not_found w s at e g = number_field_no w s at (case as_answer e.0 g)
