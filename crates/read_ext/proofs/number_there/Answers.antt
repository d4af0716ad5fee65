-- `read_ext::number_there` meets its contract: the number, or 0. Assumes nothing.
use Rattle.std.proofs.Common.{rules}
use Rattle.read_ext.specs.Extensions.{number_there}
use Rattle.read_ext.proofs.number_there.Goals as goal

pub returns-clause-value : goal.returns-clause-value
unfolding number_there
returns-clause-value c = search rules
