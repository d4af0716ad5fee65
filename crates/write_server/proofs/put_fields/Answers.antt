-- `write_server::put_fields` meets its contract: the fields are put in one behind the other.
-- Assumes nothing.
use mathlib.Core.Path.{refl}
use native.Mathlib.Omega.{arith}
use Rattle.write_rules.proofs.Joins.{joined}
use Rattle.write_server.specs.Slices.{server_rows, server_parts}
use Rattle.write_server.proofs.Fields.{server_put}
use Rattle.write_server.proofs.put_fields.Goals as goal

pub returns : goal.returns
returns c =
    server_put c.args.out.now c.args.version _ _ c.args.cipher c.args.compression _ _ _ _ _ _ _ _
    (joined server_rows (server_parts c.args.version c.args.random.now c.args.id.now c.args.cipher c.args.compression) _
    c.requires.0)
    c.requires.1 (omega arith) (omega arith) (omega arith)
    c.gen_be.ensures.out_after
    c.gen_bytes.ensures.out_after
    c.gen_length_data.ensures.out_after refl
    c.gen_be-2.ensures.out_after
    c.gen_be-3.ensures.out_after
    c.gen_length_data-2.ensures.out_after
