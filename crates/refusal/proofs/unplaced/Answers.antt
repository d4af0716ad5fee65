-- `refusal::unplaced` meets its contract. Assumes nothing.
use mathlib.Core.Path.{refl}
use Rattle.refusal.specs.Refusals.{unplaced}
use Rattle.refusal.proofs.unplaced.Goals as goal

pub returns : goal.returns
unfolding unplaced
returns c = refl
