-- `wire::number::parse_be` meets its contract, by those of `take_or` and `number_of`. Assumes
-- nothing.
use mathlib.Core.Path.{sym}
use Rattle.refusal.proofs.Told.{hands_on, no_value}
use Rattle.wire.proofs.Parts.{fits}
use Rattle.wire.proofs.Numbers.{width_bounds, number_got, number_no}
use Rattle.wire.proofs.number.parse_be.Goals as goal

pub number_of-requires : goal.number_of-requires
number_of-requires c =
    let f = fits _ _ _ _ (sym c.in_ok-p.ensures) in
    (rw c.width_bytes-count.ensures (width_bounds c.args.w).1, f.inside)

pub returns-in_err-p : goal.returns-in_err-p
returns-in_err-p c =
    let e = sym c.in_err-p.ensures in
    record {
      result_value = hands_on _ c.from_residual.ensures (sym (rw c.width_bytes-count.ensures at (number_no _ _ _ e)));
      below = no_value _ _ _ c.from_residual.ensures;
    }

pub returns : goal.returns
returns c =
    let e = sym c.in_ok-p.ensures in
    let n = c.number_of.ensures in
    let w = c.width_bytes-count.ensures in
    record {
      result_value = rw (← w, n.0) (sym (number_got _ _ _ e));
      below = rw (← w) n.1;
    }
