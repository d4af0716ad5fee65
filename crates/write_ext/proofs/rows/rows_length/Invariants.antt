-- `write_ext::rows::rows_length` meets its contract: the rows so far come to the sum, which is not
-- over 65,535. Assumes nothing.
use Prim.Native.Nat.{◌-◌}
use lib.ListN.{length}
use Rattle.write_ext.proofs.AllRows.{Summing}
use Rattle.write_ext.proofs.rows.rows_length.Given as goal

abbrev pub invariant-loop-row : goal.invariant-loop-row
invariant-loop-row l = Summing l.values l.bytes l.at l.sum

abbrev pub decreases-loop-row : goal.decreases-loop-row
decreases-loop-row l = length l.values - l.at
