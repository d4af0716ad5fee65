-- `norrabist_c::messages::norrabist_parse_tls_message_head` meets its contract: the length of the
-- body fits. Assumes nothing.
use native.Mathlib.Omega.{arith}
use Rattle.refusal.specs.Answers.{as_answer}
use Rattle.refusal.proofs.Told.{case}
use Rattle.norrabist_c.proofs.HeadLengths.{listed_len}
use Rattle.norrabist_c.proofs.messages.norrabist_parse_tls_message_head.Goals as goal

pub overflow_cast-result : goal.overflow_cast-result
overflow_cast-result c =
    let e = case as_answer c.listed_head.ensures c.in-Ok.is in
    omega (arith, listed_len _ _ (λ i. (c.type_inv.s i).fits) e)
