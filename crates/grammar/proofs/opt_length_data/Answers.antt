-- `grammar::opt_length_data` meets its contract, by that of `length_data`. Assumes nothing.
use Rattle.grammar.specs.Reading.{block_at}
use Rattle.grammar.proofs.opt_length_data.Goals as goal

pub returns-in-Err : goal.returns-in-Err
unfolding block_at
returns-in-Err c = rw (← c.in-Err.ensures)

pub returns-in-Ok : goal.returns-in-Ok
unfolding block_at
returns-in-Ok c = rw (← c.in-Ok.ensures)
