-- `norrabist_c::hellos::norrabist_parse_tls_handshake_client_hello_strict` meets its contract: the
-- lengths that were read fit. Assumes nothing.
use Rattle.refusal.specs.Answers.{as_answer}
use Rattle.refusal.proofs.Told.{case}
use Rattle.wire.specs.Numbers.{Bytes}
use Rattle.read_client.proofs.Strict.{strict_demand3}
use Rattle.norrabist_c.proofs.HelloLengths.{client-fits}
use Rattle.norrabist_c.proofs.hellos.norrabist_parse_tls_handshake_client_hello_strict.Goals as goal

pub client_told-requires : goal.client_told-requires
client_told-requires c =
    let bytes : Bytes c.args.i.now = λ i. (c.type_inv.i i).fits in
    let e = case as_answer c.parse_tls_handshake_client_hello_strict.ensures.result_value c.in-Ok.is in
    client-fits _ bytes _ ((strict_demand3 _ bytes).plain_too _ e)
