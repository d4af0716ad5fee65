-- `record_tally::lacking` meets its contract: the number in the head is what the body announces.
-- Assumes nothing.
use mathlib.Core.Path.{ap}
use native.Mathlib.Omega.{arith}
use lib.ListN.{length}
use Rattle.refusal.specs.Answers.{as_answer}
use Rattle.refusal.proofs.Told.{case}
use Rattle.record_tally.proofs.Lacks.{by_number}
use Rattle.record_tally.proofs.lacking.Goals as goal

pub overflow_sub-there : goal.overflow_sub-there
overflow_sub-there c =
    let i = by_number c.args.s.now c.args.at
    (rw c.rest_of-message.ensures at (case as_answer c.parse_be.ensures.result_value c.in-Ok.is)) in
    omega (arith, i, ap length c.rest_of-message.ensures)

pub returns : goal.returns
returns c =
    let i = by_number c.args.s.now c.args.at
    (rw c.rest_of-message.ensures at (case as_answer c.parse_be.ensures.result_value c.in-Ok.is)) in
    omega (arith, i, ap length c.rest_of-message.ensures, c.saturating_sub.ensures)
