-- `norrabist_c::bodies::norrabist_parse_tls_handshake_certificaterequest` meets its contract: the
-- lengths that were read fit. Assumes nothing.
use native.Mathlib.Omega.{arith}
use Rattle.refusal.specs.Answers.{as_answer}
use Rattle.refusal.proofs.Told.{case}
use Rattle.norrabist_c.proofs.BodyParts.{names-len, pairs_len, types-len}
use Rattle.norrabist_c.proofs.bodies.norrabist_parse_tls_handshake_certificaterequest.Goals as goal

pub overflow_cast-result : goal.overflow_cast-result
overflow_cast-result c =
    let e = case as_answer c.parse_tls_handshake_certificaterequest.ensures c.in-Ok.is in
    omega (arith, pairs_len _ (λ i. (c.type_inv.i i).fits) e)

pub overflow_cast-result-in-Ok : goal.overflow_cast-result-in-Ok
overflow_cast-result-in-Ok c =
    let e = case as_answer c.parse_tls_handshake_certificaterequest.ensures c.in-Ok.is in
    omega (arith, names-len _ (λ i. (c.type_inv.i i).fits) e)

pub overflow_cast-result-in-Ok-2 : goal.overflow_cast-result-in-Ok-2
overflow_cast-result-in-Ok-2 c =
    let e = case as_answer c.parse_tls_handshake_certificaterequest.ensures c.in-Ok.is in
    omega (arith, types-len _ (λ i. (c.type_inv.i i).fits) e)
