-- `write_draft18::put_fields` meets its contract: the fields are put in one behind the other.
-- Assumes nothing.
use native.Mathlib.Omega.{arith}
use Rattle.write_rules.proofs.Joins.{joined}
use Rattle.write_draft18.specs.Slices.{draft18_rows, draft18_parts}
use Rattle.write_draft18.proofs.Fields.{draft18_put}
use Rattle.write_draft18.proofs.put_fields.Goals as goal

pub returns : goal.returns
returns c =
    draft18_put c.args.out.now c.args.version _ c.args.cipher _ _ _ _ _
    (joined draft18_rows (draft18_parts c.args.version c.args.random.now c.args.cipher) _ c.requires.0)
    c.requires.1 (omega arith) (omega arith)
    c.gen_be.ensures.out_after
    c.gen_bytes.ensures.out_after
    c.gen_be-2.ensures.out_after
    c.gen_length_data.ensures.out_after
