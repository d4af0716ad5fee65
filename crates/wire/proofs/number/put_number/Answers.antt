-- `wire::number::put_number` meets its contract: what is still to be put, put into the buffer as it
-- is, is the whole number put into the buffer as lent. Assumes nothing.
use mathlib.Core.Path.{◌≡◌, sym, ◌∙◌}
use native.Mathlib.Omega.{arith}
use Rattle.wire.specs.Numbers.{bytes_of}
use Rattle.wire.proofs.Puts.{put_nil, number_next}
use Rattle.wire.proofs.number.put_number.Goals as goal

pub loop-k-preserved : goal.loop-k-preserved
loop-k-preserved c =
    number_next _ _ c.loop-k.k c.loop-k.m c.loop-k-test.true (omega arith) ∙ c.loop-k.invariant

pub returns : goal.returns
unfolding bytes_of
returns c =
    let e : c.loop-k.k ≡ 0 = omega arith in
    sym (put_nil _ _) ∙ (rw e at c.loop-k.invariant)
