-- `wire::output::put_bytes` meets its contract: the buffer is the one lent with the bytes so far
-- put in. Assumes nothing.
use mathlib.Core.Path.{refl, sym}
use native.Mathlib.Omega.{arith}
use lib.ListN.{length-set}
use lib.Seq.{take_all}
use Rattle.wire.proofs.Puts.{put_nil, copy_next}
use Rattle.wire.proofs.output.put_bytes.Goals as goal

pub loop-k-init : goal.loop-k-init
loop-k-init c = (omega arith, sym (put_nil _ _), refl)

pub loop-k-preserved : goal.loop-k-preserved
loop-k-preserved c = (
  omega arith,
  rw c.loop-k.invariant.1 (copy_next _ _ _ c.loop-k.k c.requires c.loop-k-test.true),
  rw length-set c.loop-k.invariant.2,
)

pub returns : goal.returns
returns c =
    rw (take_all c.loop-k.k c.args.src.now c.loop-k-test.false) at c.loop-k.invariant.1
