-- `record_walk::meet_tls_message` meets its contract where the body is opened whatever it holds.
-- Assumes nothing.
use Rattle.refusal.specs.Answers.{as_answer}
use Rattle.refusal.proofs.Told.{case}
use Rattle.envelope.proofs.Heads.{met_got}
use Rattle.record_walk.specs.Walks.{met_head}
use Rattle.record_walk.proofs.meet_tls_message.Goals as goal

pub returns-then-opens_any : goal.returns-then-opens_any
unfolding met_head
returns-then-opens_any c =
    let e = c.opens_any.ensures.0 c.if-opens_any.true _ in
    rw (met_got _ _ (case as_answer c.parse_tls_message_head.ensures c.in_ok-head.was) e.1)
