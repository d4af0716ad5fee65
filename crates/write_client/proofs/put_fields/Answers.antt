-- `write_client::put_fields` meets its contract: the fields are put in one behind the other.
-- Assumes nothing.
use mathlib.Core.Path.{refl}
use native.Mathlib.Omega.{arith}
use Rattle.write_rules.proofs.Joins.{joined}
use Rattle.write_client.specs.Slices.{client_rows, client_parts}
use Rattle.write_client.proofs.Lengths.{parts_bounds}
use Rattle.write_client.proofs.Fields.{client_put}
use Rattle.write_client.proofs.put_fields.Goals as goal

pub overflow_add-past_ciphers-2 : goal.overflow_add-past_ciphers-2
overflow_add-past_ciphers-2 c = omega (arith, parts_bounds c.args.version _ _ _ _ _ (joined _ _ _ c.requires.0))

pub overflow_add-past_comp : goal.overflow_add-past_comp
overflow_add-past_comp c = omega (arith, parts_bounds c.args.version _ _ _ _ _ (joined _ _ _ c.requires.0))

pub overflow_add-past_comp-2 : goal.overflow_add-past_comp-2
overflow_add-past_comp-2 c = omega (arith, parts_bounds c.args.version _ _ _ _ _ (joined _ _ _ c.requires.0))

pub returns : goal.returns
returns c =
    client_put c.args.out.now c.args.version _ _ _ _ _ _ _ _ _ _ _ _ _ _
    (joined client_rows (client_parts c.args.version _ _ _ _) _ c.requires.0) c.requires.1
    (omega arith)
    c.gen_be.ensures.out_after
    c.gen_bytes.ensures.out_after
    c.gen_length_data.ensures.out_after refl
    c.gen_length_data-2.ensures.out_after refl
    c.gen_length_data-3.ensures.out_after refl
    c.gen_length_data-4.ensures.out_after
