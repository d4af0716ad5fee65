-- `sums_of` meets its contract: whether the record is sealed decides, then what is passed over,
-- then the answer. Assumes nothing.
use Rattle.refusal.specs.Answers.{as_answer}
use Rattle.std.proofs.Common.{eq-eqb, ne_eqb}
use Rattle.refusal.proofs.Told.{case}
use Rattle.look.specs.Sums.{sums_in}
use Rattle.look.proofs.sums_of.Goals as goal

pub returns-then-passed-ne0 : goal.returns-then-passed-ne0
returns-then-passed-ne0 c =
    let z = ne_eqb c.args.passed 0 c.if-passed-ne0.true in
    rw (c.if-sealed.false, z, ← c.part_of-content.ensures, ← c.rest_of.ensures) c.continued.ensures

pub returns-in-Err : goal.returns-in-Err
unfolding sums_in
returns-in-Err c =
    let z = eq-eqb c.args.passed 0 c.if-passed-ne0.false in
    let e = case as_answer c.parse_tls_plaintext.ensures c.in-Err.is in
    rw (c.if-sealed.false, z, ← c.rest_of-2.ensures, e) c.refused.ensures

pub returns-in-Ok : goal.returns-in-Ok
unfolding sums_in
returns-in-Ok c =
    let z = eq-eqb c.args.passed 0 c.if-passed-ne0.false in
    let e = case as_answer c.parse_tls_plaintext.ensures c.in-Ok.is in
    rw (c.if-sealed.false, z, ← c.rest_of-2.ensures, e, ← c.part_of-content.ensures, ← c.hellos_in.ensures) c.opened.ensures
