-- `cert_reader::issuer_certificate` meets its contract: a reader moved once from the front hands
-- out the second item. Assumes nothing.
use Rattle.std.proofs.Common.{◌∙◌, ap}
use Rattle.cert_reader.specs.Chain.{cert_of, moved_on_of}
use Rattle.cert_reader.proofs.Same.{second_cert}
use Rattle.cert_reader.proofs.issuer_certificate.Goals as goal

pub returns : goal.returns
returns c =
    c.cert.ensures ∙ ap cert_of (c.moved.ensures ∙ ap moved_on_of c.new.ensures)
    ∙ second_cert c.args.list
