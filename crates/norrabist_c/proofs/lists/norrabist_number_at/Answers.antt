-- `norrabist_c::lists::norrabist_number_at` meets its contract: the number that was found fits.
-- Assumes nothing.
use native.Mathlib.Omega.{arith}
use Rattle.refusal.specs.Answers.{as_answer}
use Rattle.refusal.proofs.Told.{case}
use Rattle.norrabist_c.proofs.BodyParts.{number_len}
use Rattle.norrabist_c.proofs.lists.norrabist_number_at.Goals as goal

pub overflow_cast-result : goal.overflow_cast-result
overflow_cast-result c =
    let e = case as_answer c.number_at.ensures c.in-Ok.is in
    omega (arith, number_len _ _ (λ i. (c.type_inv.list i).fits) e)
