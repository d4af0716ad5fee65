-- `record_many::tls_parser_many` meets its contract: the first record decides. Assumes nothing.
use native.Mathlib.Omega.{arith}
use Rattle.record_many.specs.Many.{many, record_past}
use Rattle.record_many.proofs.tls_parser_many.Goals as goal

pub returns : goal.returns
unfolding many record_past
returns c = grind arith
