-- `list::numbers::number_at` meets its contract: below the count the number stands at that many
-- widths. Assumes nothing.
use mathlib.Core.Path.{ap, sym, ◌∙◌}
use native.Mathlib.Omega.{arith}
use Rattle.refusal.specs.Answers.{refused}
use Rattle.wire.specs.Numbers.{bytes_in}
use Rattle.wire.proofs.Numbers.{width_bounds}
use Rattle.list.proofs.Fixed.{number_below, number_past}
use Rattle.list.proofs.numbers.number_at.Goals as goal

pub returns-then-number_count-at : goal.returns-then-number_count-at
returns-then-number_count-at c =
    let a = c.args in
    ap refused c.refuse.ensures
    ∙ sym (number_past (bytes_in a.w) (width_bounds a.w).0 a.s.now a.at
    (rw c.number_count.ensures at c.if-number_count-at.true))

pub overflow_mul-at : goal.overflow_mul-at
overflow_mul-at c =
    let a = c.args in
    let b = number_below (bytes_in a.w) (width_bounds a.w).0 a.s.now a.at
    (rw c.number_count.ensures at c.if-number_count-at.false) in
    rw c.width_bytes.ensures (record { fits = omega (arith, b.0) })

pub returns : goal.returns
returns c =
    let a = c.args in
    let b = number_below (bytes_in a.w) (width_bounds a.w).0 a.s.now a.at
    (rw c.number_count.ensures at c.if-number_count-at.false) in
    rw c.width_bytes.ensures at c.parse_be.ensures.result_value ∙ sym b.1
