-- `read_ext::are_names` meets its contract: the field of names closes the data, and names fill it,
-- or not. Assumes nothing.
use Rattle.std.proofs.Common.{rules}
use Rattle.read_ext.specs.Kinds.{is_of}
use Rattle.read_ext.proofs.are_names.Goals as goal

pub returns : goal.returns
unfolding is_of
returns c = rw (← c.refuse-amiss.ensures) (search rules)
