-- `list::items::item_from` meets its contract, by that of `length_data`. Assumes nothing.
use Rattle.std.proofs.Common.{rules}
use Rattle.list.specs.Items.{item_from}
use Rattle.list.proofs.items.item_from.Goals as goal

pub returns : goal.returns
unfolding item_from
returns c = search rules
