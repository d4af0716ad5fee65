-- `wire::number::number_of` meets its contract, width by width. Assumes nothing.
use mathlib.Core.Path.{◌≡◌}
use native.Mathlib.Nat.{add-zero}
use native.Mathlib.Omega.{arith}
use borrow.Author.Rules.{rules}
use Rattle.wire.specs.Numbers.{be}
use Rattle.wire.proofs.number.number_of.Goals as goal

pub returns-in-0 : goal.returns-in-0
unfolding be
returns-in-0 c =
    let e : c.args.count ≡ 0 = omega arith in
    rw e (search rules)

pub returns-in-1 : goal.returns-in-1
unfolding be
returns-in-1 c =
    let e : c.args.count ≡ 1 = omega arith in
    rw (e, add-zero) (search rules)

pub returns-in-2 : goal.returns-in-2
unfolding be
returns-in-2 c =
    let e : c.args.count ≡ 2 = omega arith in
    rw (e, add-zero) (search rules)

pub returns-in-3 : goal.returns-in-3
unfolding be
returns-in-3 c =
    let e : c.args.count ≡ 3 = omega arith in
    rw (e, add-zero) (search rules)

pub returns-in_default : goal.returns-in_default
unfolding be
returns-in_default c =
    let e : c.args.count ≡ 4 = omega arith in
    rw (e, add-zero) (search rules)
