-- `norrabist_c::hellos::norrabist_parse_tls_handshake_msg_hello_retry_request` meets its contract:
-- the length of the extensions that were read fits. Assumes nothing.
use native.Mathlib.Omega.{arith}
use Rattle.refusal.specs.Answers.{as_answer}
use Rattle.refusal.proofs.Told.{case}
use Rattle.norrabist_c.proofs.HelloLengths.{retry-ext-len}
use Rattle.norrabist_c.proofs.hellos.norrabist_parse_tls_handshake_msg_hello_retry_request.Goals as goal

pub overflow_cast-result : goal.overflow_cast-result
overflow_cast-result c =
    let e = case as_answer c.parse_tls_hello_retry_request.ensures c.in-Ok.is in
    rw c.opt_told-ext.ensures (omega (arith, retry-ext-len _ (λ i. (c.type_inv.i i).fits) _ e))
