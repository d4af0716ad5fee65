-- `read_client::parse_tls_handshake_client_hello` meets its contract: demand 3 holds of
-- every body. Assumes nothing.
use Rattle.read_client.proofs.Whole.{demand3}
use Rattle.read_client.proofs.parse_tls_handshake_client_hello.Goals as goal

pub returns-in_err-start-clause-by_split : goal.returns-in_err-start-clause-by_split
returns-in_err-start-clause-by_split c = demand3 _ (λ n. (c.type_inv.i n).fits)

pub returns-in_err-ciphers-clause-by_split : goal.returns-in_err-ciphers-clause-by_split
returns-in_err-ciphers-clause-by_split c = demand3 _ (λ n. (c.type_inv.i n).fits)

pub returns-in_err-comp-clause-by_split : goal.returns-in_err-comp-clause-by_split
returns-in_err-comp-clause-by_split c = demand3 _ (λ n. (c.type_inv.i n).fits)

pub returns-clause-by_split : goal.returns-clause-by_split
returns-clause-by_split c = demand3 _ (λ n. (c.type_inv.i n).fits)
