-- `read_server::tlsv13draft18::parse_tls_server_hello_tlsv13draft18` meets its contract: demand 3
-- holds of every body. Assumes nothing.
use Rattle.read_server.proofs.Whole.{demand3_draft18}
use Rattle.read_server.proofs.tlsv13draft18.parse_tls_server_hello_tlsv13draft18.Goals as goal

pub returns-in_err-version-clause-by_split : goal.returns-in_err-version-clause-by_split
returns-in_err-version-clause-by_split c = demand3_draft18 _ (λ n. (c.type_inv.i n).fits)

pub returns-in_err-random-clause-by_split : goal.returns-in_err-random-clause-by_split
returns-in_err-random-clause-by_split c = demand3_draft18 _ (λ n. (c.type_inv.i n).fits)

pub returns-in_err-cipher-clause-by_split : goal.returns-in_err-cipher-clause-by_split
returns-in_err-cipher-clause-by_split c = demand3_draft18 _ (λ n. (c.type_inv.i n).fits)

pub returns-clause-by_split : goal.returns-clause-by_split
returns-clause-by_split c = demand3_draft18 _ (λ n. (c.type_inv.i n).fits)
