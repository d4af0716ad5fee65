-- `norrabist_c::extensions::norrabist_extension_at` meets its contract: the length of what is found
-- fits. Assumes nothing.
use Rattle.read_ext.proofs.Blocks.{place_item}
use Rattle.norrabist_c.proofs.ExtensionParts.{item_below, tellable}
use Rattle.norrabist_c.proofs.extensions.norrabist_extension_at.Goals as goal

pub told_of-requires : goal.told_of-requires
told_of-requires c =
    tellable c.extension_at.result c.extension_at.ensures
    (λ y e. item_below _ (λ i. (c.type_inv.block i).fits) (place_item _ _ y e))
