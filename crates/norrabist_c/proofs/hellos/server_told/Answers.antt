-- `norrabist_c::hellos::server_told` meets its contract: the lengths that were read fit. Assumes
-- nothing.
use native.Mathlib.Omega.{arith}
use Rattle.refusal.specs.Answers.{as_answer}
use Rattle.refusal.proofs.Told.{case}
use Rattle.norrabist_c.proofs.HelloLengths.{server-ext-len, server-id-len}
use Rattle.norrabist_c.proofs.hellos.server_told.Goals as goal

pub overflow_cast-result : goal.overflow_cast-result
overflow_cast-result c =
    let e = case as_answer c.parse_tls_server_hello_tlsv12.ensures.result_value c.in-Ok.is in
    rw c.opt_told-ext.ensures (omega (arith, server-ext-len _ (λ i. (c.type_inv.i i).fits) _ c.args.has_ext e))

pub overflow_cast-result-in-Ok : goal.overflow_cast-result-in-Ok
overflow_cast-result-in-Ok c =
    let e = case as_answer c.parse_tls_server_hello_tlsv12.ensures.result_value c.in-Ok.is in
    omega (arith, server-id-len _ (λ i. (c.type_inv.i i).fits) _ c.args.has_ext e)
