-- `norrabist_c::hellos::draft18_told` meets its contract: the length of the extensions that were
-- read fits. Assumes nothing.
use native.Mathlib.Omega.{arith}
use Rattle.refusal.specs.Answers.{as_answer}
use Rattle.refusal.proofs.Told.{case}
use Rattle.norrabist_c.proofs.HelloLengths.{draft18-ext-len}
use Rattle.norrabist_c.proofs.hellos.draft18_told.Goals as goal

pub overflow_cast-result : goal.overflow_cast-result
overflow_cast-result c =
    let e = case as_answer c.parse_tls_server_hello_tlsv13draft18.ensures.result_value c.in-Ok.is in
    rw c.opt_told-ext.ensures (omega (arith, draft18-ext-len _ (λ i. (c.type_inv.i i).fits) _ e))
