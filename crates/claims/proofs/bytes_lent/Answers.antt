-- `claims::bytes_lent` meets its contract: each element of a slice of bytes is one, by its type.
-- Assumes nothing.
use Rattle.claims.proofs.bytes_lent.Goals as goal

pub returns : goal.returns
returns c = λ n. (c.type_inv.s n).fits
