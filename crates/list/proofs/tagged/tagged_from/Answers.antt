-- `list::tagged::tagged_from` meets its contract: the tag's number, then the data behind its
-- length. Assumes nothing.
use mathlib.Core.Path.{sym}
use native.Mathlib.Omega.{arith}
use Rattle.refusal.specs.Answers.{as_answer}
use Rattle.refusal.proofs.Told.{case, hands_on}
use Rattle.wire.proofs.Numbers.{below_limit}
use Rattle.list.proofs.Tags.{no_tag, no_data, both, data_below}
use Rattle.list.proofs.tagged.tagged_from.Goals as goal

pub returns-in_err-t-clause-result_value : goal.returns-in_err-t-clause-result_value
returns-in_err-t-clause-result_value c =
    let e = case as_answer c.parse_be.ensures.result_value c.in_err-t.was in
    hands_on _ c.from_residual.ensures (sym (no_tag _ _ _ e))

pub returns-in_err-p-clause-result_value : goal.returns-in_err-p-clause-result_value
returns-in_err-p-clause-result_value c =
    let y = case as_answer c.parse_be.ensures.result_value c.in_ok-t.was in
    let d = case as_answer c.length_data.ensures c.in_err-p.was in
    hands_on _ c.from_residual-in_err-p.ensures (sym (no_data _ _ _ y d))

pub returns-clause-result_value : goal.returns-clause-result_value
returns-clause-result_value c =
    let y = case as_answer c.parse_be.ensures.result_value c.in_ok-t.was in
    let d = case as_answer c.length_data.ensures c.in_ok-p.was in
    sym (both _ _ _ y d)

pub returns-clause-tagged_below : goal.returns-clause-tagged_below
returns-clause-tagged_below c =
    let d = case as_answer c.length_data.ensures c.in_ok-p.was in (
      below_limit _ c.parse_be.ensures.below c.in_ok-t.was,
      data_below _ _ (λ i. omega (arith, c.type_inv.s i)) d,
    )
