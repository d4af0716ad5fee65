-- `read_ext::is_of` meets its contract: the type decides. Assumes nothing.
use Rattle.std.proofs.Common.{rules}
use Rattle.read_ext.proofs.Data.{fragment_test, raw_test}
use Rattle.read_ext.proofs.is_of.Goals as goal

pub returns-in-1 : goal.returns-in-1
returns-in-1 c = rw c.in-1.is (fragment_test _)

pub returns-in_default : goal.returns-in_default
returns-in_default c = raw_test c.args.ext_type c.args.«data».now (search rules) (search rules) (search rules)
