-- `norrabist_c::bodies::norrabist_parse_tls_handshake_certificatestatus` meets its contract: the
-- length of the response that was read fits. Assumes nothing.
use native.Mathlib.Omega.{arith}
use Rattle.refusal.specs.Answers.{as_answer}
use Rattle.refusal.proofs.Told.{case}
use Rattle.norrabist_c.proofs.BodyParts.{blob_len}
use Rattle.norrabist_c.proofs.bodies.norrabist_parse_tls_handshake_certificatestatus.Goals as goal

pub overflow_cast-result : goal.overflow_cast-result
overflow_cast-result c =
    let e = case as_answer c.parse_tls_handshake_certificatestatus.ensures c.in-Ok.is in
    omega (arith, blob_len _ (λ i. (c.type_inv.i i).fits) e)
