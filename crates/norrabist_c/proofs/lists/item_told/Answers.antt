-- `norrabist_c::lists::item_told` meets its contract: the length of the item that was found fits.
-- Assumes nothing.
use native.Mathlib.Omega.{arith}
use Rattle.refusal.specs.Answers.{as_answer}
use Rattle.refusal.proofs.Told.{case}
use Rattle.norrabist_c.proofs.BodyParts.{item_len}
use Rattle.norrabist_c.proofs.lists.item_told.Goals as goal

pub overflow_cast-result : goal.overflow_cast-result
overflow_cast-result c =
    let e = case as_answer c.item_from.ensures c.in-Ok.is in
    omega (arith, item_len _ _ _ (λ i. (c.type_inv.list i).fits) e)
