-- `list::numbers::number_count` meets its contract, by the law of numbers of one width. Assumes
-- nothing.
use mathlib.Core.Path.{sym}
use Rattle.wire.specs.Numbers.{bytes_in}
use Rattle.wire.proofs.Numbers.{width_bounds}
use Rattle.list.proofs.Fixed.{count_of}
use Rattle.list.proofs.numbers.number_count.Goals as goal

pub returns : goal.returns
returns c =
    let a = c.args in
    rw c.width_bytes.ensures (sym (count_of (bytes_in a.w) (width_bounds a.w).0 a.s.now))
