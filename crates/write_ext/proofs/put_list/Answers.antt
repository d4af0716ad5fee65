-- `write_ext::put_list` meets its contract: the type, the length, and the list behind its own.
-- Assumes nothing.
use native.Mathlib.Omega.{arith}
use Rattle.write_ext.proofs.OneText.{list_put}
use Rattle.write_ext.proofs.put_list.Goals as goal

pub returns : goal.returns
returns c =
    list_put _ _ _ _ _ _ _ (omega arith) c.requires.0 c.requires.1 c.gen_be.ensures.out_after c.gen_be-2.ensures.out_after
    c.gen_length_data.ensures.out_after
