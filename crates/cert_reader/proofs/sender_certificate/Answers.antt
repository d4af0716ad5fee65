-- `cert_reader::sender_certificate` meets its contract: a reader at the front hands out the first
-- item. Assumes nothing.
use Rattle.std.proofs.Common.{◌∙◌, ap}
use Rattle.cert_reader.specs.Chain.{cert_of}
use Rattle.cert_reader.proofs.Same.{first_cert}
use Rattle.cert_reader.proofs.sender_certificate.Goals as goal

pub returns : goal.returns
returns c = c.cert.ensures ∙ ap cert_of c.new.ensures ∙ first_cert c.args.list
