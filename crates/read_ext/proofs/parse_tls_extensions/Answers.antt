-- `read_ext::parse_tls_extensions` meets its contract: the items end with the block, or not.
-- Assumes nothing.
use mathlib.Core.Path.{ap}
use Rattle.read_ext.specs.Extensions.{sound, extensions}
use Rattle.list.specs.declared.steps.Counted.{Counted}
use Rattle.read_ext.proofs.Turns.{is_sound, is_damaged}
use Rattle.read_ext.proofs.parse_tls_extensions.Goals as goal

pub returns-then-items-block : goal.returns-then-items-block
unfolding extensions
returns-then-items-block c =
    rw (is_sound _ _ c.count_items-items.ensures c.if-items-block.true) (ap (λ (x : Counted). sound x.count) c.count_items-items.ensures)

pub returns-else-items-block : goal.returns-else-items-block
unfolding extensions
returns-else-items-block c =
    rw (is_damaged _ _ c.count_items-items.ensures c.if-items-block.false, c.damage_of.ensures)
