-- `content_walk::count_contents` meets its contract: the messages are no more than the bytes.
-- Assumes nothing.
use native.Mathlib.Omega.{arith}
use Rattle.refusal.specs.Answers.{as_answer}
use Rattle.refusal.proofs.Told.{case}
use Rattle.content_walk.proofs.Found.{past_got, found_in}
use Rattle.content_walk.proofs.Walking.{behind_in}
use Rattle.content_walk.proofs.count_contents.Goals as goal

pub overflow_add-result : goal.overflow_add-result
overflow_add-result c =
    let m = past_got _ _ _ (case as_answer c.past_message.ensures c.in-Ok.is) in
    let l = found_in _ _ _ m.1 in
    let i = behind_in c.args.record_type c.args.s.now c.in-Ok.next (omega (arith, l, m.2)) in
    omega (arith, i, c.count_behind-others.ensures.count_value, c.well_formed)
