-- `read_ext::extension_of` meets its contract: the type decides. Assumes nothing.
use Rattle.std.proofs.Common.{rules}
use Rattle.read_ext.specs.Extensions.{extension_of}
use Rattle.read_ext.proofs.extension_of.Goals as goal

pub returns-in-0 : goal.returns-in-0
unfolding extension_of
returns-in-0 c = rw c.in-0.is

pub returns-in-1 : goal.returns-in-1
unfolding extension_of
returns-in-1 c = rw (c.in-1.is, c.number_there.ensures.value)

pub returns-in-10 : goal.returns-in-10
unfolding extension_of
returns-in-10 c = rw c.in-10.is

pub returns-in_default : goal.returns-in_default
unfolding extension_of
returns-in_default c = search rules
