-- `norrabist_c::hellos::norrabist_parse_tls_handshake_client_hello` meets its contract: the lengths
-- that were read fit. Assumes nothing.
use Rattle.refusal.specs.Answers.{as_answer}
use Rattle.refusal.proofs.Told.{case}
use Rattle.norrabist_c.proofs.HelloLengths.{client-fits}
use Rattle.norrabist_c.proofs.hellos.norrabist_parse_tls_handshake_client_hello.Goals as goal

pub client_told-requires : goal.client_told-requires
client_told-requires c =
    client-fits _ (λ i. (c.type_inv.i i).fits) _
    (case as_answer c.parse_tls_handshake_client_hello.ensures.result_value c.in-Ok.is)
