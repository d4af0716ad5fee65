-- `read_ext::names::name_from` meets its contract: the item, or NoSuch. Assumes nothing.
use Rattle.std.proofs.Common.{rules}
use Rattle.read_ext.specs.Extensions.{name_from}
use Rattle.read_ext.proofs.names.name_from.Goals as goal

pub returns-clause-result_value : goal.returns-clause-result_value
unfolding name_from
returns-clause-result_value c = search rules
