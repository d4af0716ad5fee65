-- `record_tally::count_hellos` meets its contract: what was counted and what the messages that are
-- left add is what all of them add. Assumes nothing.
use mathlib.Core.Path.{◌≡◌, sym, ap, ◌∙◌}
use native.Mathlib.Omega.{arith}
use Rattle.refusal.specs.Answers.{as_answer}
use Rattle.refusal.proofs.Told.{case}
use Rattle.list.proofs.Walk.{rest_end}
use Rattle.record_walk.specs.Walks.{messages}
use Rattle.list.proofs.Stepping.{all_from}
use Rattle.record_walk.proofs.Walking.{left, by_messages}
use Rattle.record_tally.specs.Tally.{clients_of, servers_of, cut_of, hello_tally}
use Rattle.record_tally.proofs.Tally.{walk_turn, walk_end, of_each}
use Rattle.record_tally.proofs.count_hellos.Goals as goal

pub loop-m-init : goal.loop-m-init
loop-m-init c =
    let s = c.args.s.now in
    let e : messages s ≡ left s 0 = all_from (by_messages s) 0 in
    rw (c.new-sum.ensures, c.new-walk.ensures) (
      omega arith,
      omega arith,
      omega arith,
      omega (arith, ap clients_of e),
      omega (arith, ap servers_of e),
      omega (arith, ap cut_of e),
    )

pub returns-in_default : goal.returns-in_default
unfolding hello_tally
returns-in_default c =
    let s = c.args.s.now in
    let e = walk_end s c.loop-m.walk (case as_answer c.next-walked.ensures.message_value c.in_default.is) in
    let z = rest_end (by_messages s) c.loop-m.walk.next e.1 in
    let i = c.loop-m.invariant in
    of_each c.loop-m.sum
    (sym (i.3 ∙ rw z (omega arith))) (sym (i.4 ∙ rw z (omega arith))) (sym (i.5 ∙ rw z (omega arith)))

pub overflow_add-sum : goal.overflow_add-sum
overflow_add-sum c =
    let turn = walk_turn c.args.s.now c.loop-m.walk (case as_answer c.next-walked.ensures.message_value c.in-Ok.is)
    c.next-walked.ensures.walk_value c.count_kind-one.ensures in
    omega (arith, turn)

pub overflow_add-sum-in-loop-m : goal.overflow_add-sum-in-loop-m
overflow_add-sum-in-loop-m c =
    let turn = walk_turn c.args.s.now c.loop-m.walk (case as_answer c.next-walked.ensures.message_value c.in-Ok.is)
    c.next-walked.ensures.walk_value c.count_kind-one.ensures in
    omega (arith, turn)

pub overflow_add-sum-in-loop-m-2 : goal.overflow_add-sum-in-loop-m-2
overflow_add-sum-in-loop-m-2 c =
    let turn = walk_turn c.args.s.now c.loop-m.walk (case as_answer c.next-walked.ensures.message_value c.in-Ok.is)
    c.next-walked.ensures.walk_value c.count_kind-one.ensures in
    omega (arith, turn)

pub loop-m-smaller : goal.loop-m-smaller
loop-m-smaller c =
    let turn = walk_turn c.args.s.now c.loop-m.walk (case as_answer c.next-walked.ensures.message_value c.in-Ok.is)
    c.next-walked.ensures.walk_value c.count_kind-one.ensures in
    omega (arith, turn)

pub loop-m-preserved : goal.loop-m-preserved
loop-m-preserved c =
    let turn = walk_turn c.args.s.now c.loop-m.walk (case as_answer c.next-walked.ensures.message_value c.in-Ok.is)
    c.next-walked.ensures.walk_value c.count_kind-one.ensures in
    omega (arith, turn)
