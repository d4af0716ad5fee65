-- `record_joined::count_records` meets its contract: what was counted and what is left are all the
-- records. Assumes nothing.
use Prim.Native.Nat.{◌+◌, ◌-◌, ◌≤◌}
use mathlib.Core.Path.{◌≡◌}
use lib.ListN.{length}
use Rattle.record_joined.specs.Joined.{records}
use Rattle.record_joined.proofs.Joined.{message_sum, past_records, left}
use Rattle.record_joined.proofs.count_records.Given as goal

abbrev pub invariant-loop-r : goal.invariant-loop-r
invariant-loop-r l = (l.records ≤ l.end) × (l.messages ≤ l.end) × (length (records l.s) ≡ l.records + length (left l.s l.end))
    × (message_sum l.s (records l.s) ≡ l.messages + message_sum l.s (left l.s l.end))
    × (past_records (records l.s) 0 ≡ past_records (left l.s l.end) l.end)

abbrev pub decreases-loop-r : goal.decreases-loop-r
decreases-loop-r l = length l.s - l.end
