-- `norrabist_c::records::norrabist_parse_tls_record_with_header` meets its contract: the length of
-- the body fits. Assumes nothing.
use native.Mathlib.Omega.{arith}
use Rattle.refusal.specs.Answers.{as_answer}
use Rattle.refusal.proofs.Told.{case}
use Rattle.norrabist_c.proofs.HeadLengths.{first_len}
use Rattle.norrabist_c.proofs.records.norrabist_parse_tls_record_with_header.Goals as goal

pub overflow_cast-result : goal.overflow_cast-result
overflow_cast-result c =
    let e = case as_answer c.content_head.ensures c.in-Ok.is in
    omega (arith, first_len _ _ _ (λ i. (c.type_inv.content i).fits) e)
