-- `read_ext::are_groups` meets its contract: the field of groups closes the data or not. Assumes
-- nothing.
use Rattle.std.proofs.Common.{rules}
use Rattle.read_ext.specs.Kinds.{is_of}
use Rattle.read_ext.proofs.are_groups.Goals as goal

pub returns : goal.returns
unfolding is_of
returns c = rw (← c.refuse-amiss.ensures) (search rules)
