-- `wire::number::put_number` meets its contract: what is still to be put, put into the buffer as it
-- is, is the whole number put into the buffer as lent. Assumes nothing.
use mathlib.Core.Path.{◌≡◌}
use Rattle.wire.specs.Numbers.{bytes_of}
use Rattle.wire.specs.Puts.{put}
use Rattle.wire.proofs.number.put_number.Given as goal

abbrev pub invariant-loop-k : goal.invariant-loop-k
invariant-loop-k l = put l.out l.at (bytes_of l.k l.m) ≡ put l.initial.out l.at (bytes_of l.count l.n)
