-- `norrabist_c::bodies::norrabist_parse_tls_handshake_next_protocol` meets its contract: the
-- lengths that were read fit. Assumes nothing.
use native.Mathlib.Omega.{arith}
use Rattle.refusal.specs.Answers.{as_answer}
use Rattle.refusal.proofs.Told.{case}
use Rattle.norrabist_c.proofs.BodyParts.{padding_len, protocol_len}
use Rattle.norrabist_c.proofs.bodies.norrabist_parse_tls_handshake_next_protocol.Goals as goal

pub overflow_cast-result : goal.overflow_cast-result
overflow_cast-result c =
    let e = case as_answer c.parse_tls_handshake_next_protocol.ensures c.in-Ok.is in
    omega (arith, protocol_len _ (λ i. (c.type_inv.i i).fits) e)

pub overflow_cast-result-in-Ok : goal.overflow_cast-result-in-Ok
overflow_cast-result-in-Ok c =
    let e = case as_answer c.parse_tls_handshake_next_protocol.ensures c.in-Ok.is in
    omega (arith, padding_len _ (λ i. (c.type_inv.i i).fits) e)
