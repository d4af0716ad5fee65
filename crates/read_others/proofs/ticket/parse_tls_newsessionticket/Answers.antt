-- `read_others::ticket::parse_tls_newsessionticket` meets its contract: the bytes of the length
-- given, and in them field by field. Assumes nothing.
use mathlib.Core.Path.{sym, ◌∙◌}
use native.Mathlib.Omega.{arith}
use Rattle.refusal.specs.Answers.{as_answer}
use Rattle.refusal.proofs.Told.{case, hands_on}
use Rattle.wire.proofs.Numbers.{number_value, below_limit}
use Rattle.field.proofs.Rules.{number_field, number_field_no}
use Rattle.grammar.proofs.Chain.{begin_closed, and, stop, end}
use Rattle.read_others.specs.Body.{ticket_form}
use Rattle.read_others.proofs.Tickets.{under_4, past_end, inside}
use Rattle.read_others.proofs.ticket.parse_tls_newsessionticket.Goals as goal

pub returns-then-len-lt4 : goal.returns-then-len-lt4
returns-then-len-lt4 c = rw c.refuse.ensures (sym (under_4 _ _ c.if-len-lt4.true))

pub returns-in_err-whole : goal.returns-in_err-whole
returns-in_err-whole c =
    hands_on _ c.from_residual.ensures
    (sym (past_end _ _ c.if-len-lt4.false (case as_answer c.take.ensures c.in_err-whole.was)))

pub returns-in_err-hint : goal.returns-in_err-hint
returns-in_err-hint c =
    let alone = inside _ _ c.if-len-lt4.false (case as_answer c.take.ensures c.in_ok-whole.was) in
    hands_on _ c.from_residual-in_err-hint.ensures (sym (alone ∙ rw (← c.part_of-body.ensures)
    (stop (begin_closed ticket_form _)
    (number_field_no 4 _ _ (case as_answer c.parse_be.ensures.result_value c.in_err-hint.was)))))

pub returns-in_err-ticket : goal.returns-in_err-ticket
returns-in_err-ticket c =
    let alone = inside _ _ c.if-len-lt4.false (case as_answer c.take.ensures c.in_ok-whole.was) in
    let hint = case as_answer c.parse_be.ensures.result_value c.in_ok-hint.was in
    let last = case as_answer (rw c.refuse-amiss.ensures at c.closing_data.ensures) c.in_err-ticket.was in
    hands_on _ c.from_residual-in_err-ticket.ensures (sym (alone ∙ rw (← c.part_of-body.ensures)
    (end (and (begin_closed ticket_form _) (number_field 4 _ _ hint)) ∙ rw last)))

pub overflow_cast-result : goal.overflow_cast-result
overflow_cast-result c = omega (arith, below_limit 4 c.parse_be.ensures.below c.in_ok-hint.was)

pub returns : goal.returns
returns c =
    let alone = inside _ _ c.if-len-lt4.false (case as_answer c.take.ensures c.in_ok-whole.was) in
    let hint = case as_answer c.parse_be.ensures.result_value c.in_ok-hint.was in
    let last = case as_answer (rw c.refuse-amiss.ensures at c.closing_data.ensures) c.in_ok-ticket.was in
    sym (alone ∙ rw (← c.part_of-body.ensures)
    (end (and (begin_closed ticket_form _) (number_field 4 _ _ hint)) ∙ rw (last, number_value 4 _ _ hint)))
