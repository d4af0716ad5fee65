-- `norrabist_c::extensions::norrabist_extension_from` meets its contract: the length of what is
-- found fits. Assumes nothing.
use Rattle.read_ext.proofs.Blocks.{from_item}
use Rattle.norrabist_c.proofs.ExtensionParts.{item_below, tellable}
use Rattle.norrabist_c.proofs.extensions.norrabist_extension_from.Goals as goal

pub told_of-requires : goal.told_of-requires
told_of-requires c =
    tellable c.extension_from.result c.extension_from.ensures
    (λ y e. item_below _ (λ i. (c.type_inv.block i).fits) (from_item _ _ y e))
