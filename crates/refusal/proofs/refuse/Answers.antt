-- `refusal::refuse` meets its contract. Assumes nothing.
use mathlib.Core.Path.{refl}
use Rattle.refusal.specs.Refusals.{refusal}
use Rattle.refusal.proofs.refuse.Goals as goal

pub returns : goal.returns
unfolding refusal
returns c = refl
