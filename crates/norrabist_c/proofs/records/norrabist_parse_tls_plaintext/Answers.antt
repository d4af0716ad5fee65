-- `norrabist_c::records::norrabist_parse_tls_plaintext` meets its contract: the length of the first
-- message's body fits, whichever way it was read. Assumes nothing.
use native.Mathlib.Omega.{arith}
use Rattle.refusal.specs.Answers.{as_answer}
use Rattle.refusal.proofs.Told.{case}
use Rattle.norrabist_c.proofs.ContentHeads.{own_got}
use Rattle.norrabist_c.proofs.HeadLengths.{content_len}
use Rattle.norrabist_c.proofs.records.norrabist_parse_tls_plaintext.Goals as goal

pub overflow_cast-result : goal.overflow_cast-result
overflow_cast-result c =
    let e = case as_answer c.parse_tls_raw_record.ensures c.in-Ok.is in
    let l = case as_answer (rw c.part_of-inner.ensures at c.listed_head.ensures) c.in-Ok-listed_head.is in
    omega (arith, content_len _ (λ i. (c.type_inv.i i).fits) e (own_got _ _ _ c.if-outer-eq-HANDSHAKE.true l))

pub overflow_cast-result-in-Ok-content_head : goal.overflow_cast-result-in-Ok-content_head
overflow_cast-result-in-Ok-content_head c =
    let e = case as_answer c.parse_tls_raw_record.ensures c.in-Ok.is in
    let l = case as_answer (rw c.part_of-inner.ensures at c.content_head.ensures) c.in-Ok-content_head.is in
    omega (arith, content_len _ (λ i. (c.type_inv.i i).fits) e l)
