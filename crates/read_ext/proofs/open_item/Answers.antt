-- `read_ext::open_item` meets its contract: the content lies behind the inner length. Assumes
-- nothing.
use Rattle.read_ext.specs.Kinds.{kind_of}
use Rattle.read_ext.specs.Extensions.{opened}
use Rattle.read_ext.proofs.OfKind.{place_shift}
use Rattle.read_ext.proofs.open_item.Goals as goal

pub returns : goal.returns
unfolding opened
returns c =
    let a = c.args in
    let i = c.inner_length-inner.ensures a.x.view.len in
    rw (c.extension_of.ensures, place_shift (kind_of a.x.tag a.x.view.len).field a.x.view.start, ← i)
