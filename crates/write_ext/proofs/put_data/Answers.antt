-- `write_ext::put_data` meets its contract: the type, and the data behind its length. Assumes
-- nothing.
use native.Mathlib.Omega.{arith}
use Rattle.write_ext.proofs.OneText.{tag_put}
use Rattle.write_ext.proofs.put_data.Goals as goal

pub returns : goal.returns
returns c =
    tag_put 2 _ _ _ _ _ _ (omega arith) c.requires.0 c.requires.1 c.gen_be.ensures.out_after c.gen_length_data.ensures.out_after
