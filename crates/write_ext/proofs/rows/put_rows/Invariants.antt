-- `write_ext::rows::put_rows` meets its contract: the rows so far are put in, and there is room for
-- the others. Assumes nothing.
use Prim.Native.Nat.{◌-◌}
use lib.ListN.{length}
use Rattle.write_ext.proofs.AllRows.{Putting}
use Rattle.write_ext.proofs.rows.put_rows.Given as goal

abbrev pub invariant-loop-row : goal.invariant-loop-row
invariant-loop-row l = Putting l.values l.bytes l.initial.out l.out l.at l.to

abbrev pub decreases-loop-row : goal.decreases-loop-row
decreases-loop-row l = length l.values - l.at
