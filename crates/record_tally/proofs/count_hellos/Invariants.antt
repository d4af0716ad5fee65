-- `record_tally::count_hellos` meets its contract: what was counted and what the messages that are
-- left add is what all of them add. Assumes nothing.
use Prim.Native.Nat.{◌+◌, ◌-◌, ◌≤◌}
use mathlib.Core.Path.{◌≡◌}
use lib.ListN.{length}
use Rattle.record_walk.specs.Walks.{messages}
use Rattle.record_walk.proofs.Walking.{left}
use Rattle.record_tally.specs.Tally.{clients_of, servers_of, cut_of}
use Rattle.record_tally.proofs.count_hellos.Given as goal

abbrev pub invariant-loop-m : goal.invariant-loop-m
invariant-loop-m l = (l.sum.clients ≤ l.walk.next) × (l.sum.servers ≤ l.walk.next) × (l.sum.cut ≤ l.walk.next)
    × (clients_of (messages l.s) ≡ l.sum.clients + clients_of (left l.s l.walk.next))
    × (servers_of (messages l.s) ≡ l.sum.servers + servers_of (left l.s l.walk.next))
    × (cut_of (messages l.s) ≡ l.sum.cut + cut_of (left l.s l.walk.next))

abbrev pub decreases-loop-m : goal.decreases-loop-m
decreases-loop-m l = length l.s - l.walk.next
