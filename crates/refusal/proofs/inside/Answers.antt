-- `refusal::inside` meets its contract. Assumes nothing.
use mathlib.Core.Path.{refl}
use Rattle.refusal.specs.Refusals.{inside}
use Rattle.refusal.proofs.inside.Goals as goal

pub returns : goal.returns
unfolding inside
returns c = refl
