-- `field::take` meets its contract, by that of `take_or`. Assumes nothing.
use Rattle.field.specs.Fields.{step}
use Rattle.field.proofs.take.Goals as goal

pub returns : goal.returns
unfolding step
returns c = c.take_or.ensures
