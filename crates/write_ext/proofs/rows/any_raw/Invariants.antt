-- `write_ext::rows::any_raw` meets its contract: of the rows so far none is raw. Assumes nothing.
use Prim.Native.Nat.{◌-◌}
use mathlib.Core.Path.{◌≡◌}
use lib.ListN.{length}
use Rattle.write_ext.specs.ExtTexts.{raw_row, rows}
use Rattle.write_ext.proofs.AllRows.{left}
use Rattle.write_ext.proofs.rows.any_raw.Given as goal

abbrev pub invariant-loop-row : goal.invariant-loop-row
invariant-loop-row l = raw_row (rows l.values) ≡ raw_row (left l.values l.at)

abbrev pub decreases-loop-row : goal.decreases-loop-row
decreases-loop-row l = length l.values - l.at
