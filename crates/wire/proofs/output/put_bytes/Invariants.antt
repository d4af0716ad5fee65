-- `wire::output::put_bytes` meets its contract: the buffer is the one lent with the bytes so far
-- put in. Assumes nothing.
use Prim.Native.Nat.{◌≤◌}
use mathlib.Core.Path.{◌≡◌}
use lib.ListN.{length, take}
use Rattle.wire.specs.Puts.{put}
use Rattle.wire.proofs.output.put_bytes.Given as goal

abbrev pub invariant-loop-k : goal.invariant-loop-k
invariant-loop-k l = (l.k ≤ length l.src) × (l.out ≡ put l.initial.out l.at (take l.k l.src)) × (length l.out ≡ length l.initial.out)
