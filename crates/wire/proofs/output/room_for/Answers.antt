-- `wire::output::room_for` meets its contract, by that of `take_or`: the bytes are there, or it is
-- NoRoom. Assumes nothing.
use Rattle.std.proofs.Common.{rules}
use Rattle.wire.specs.Parts.{part_at}
use Rattle.wire.specs.Puts.{room_at}
use Rattle.wire.proofs.output.room_for.Goals as goal

pub returns : goal.returns
unfolding part_at room_at
returns c = search rules
