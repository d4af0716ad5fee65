-- `record::parse_tls_raw_record` meets its contract, field by field. Assumes nothing.
use mathlib.Core.Path.{sym, ◌∙◌}
use native.Mathlib.Omega.{arith}
use borrow.Author.Tests.{leb-true}
use Rattle.refusal.specs.Answers.{as_answer}
use Rattle.refusal.proofs.Told.{case}
use Rattle.field.specs.Fields.{rule_of}
use Rattle.field.specs.declared.RuleName.TheVariants.{Fragment}
use Rattle.field.proofs.Rules.{vector_lies, unless_none}
use Rattle.grammar.proofs.Chain.{begin, and, end}
use Rattle.grammar.proofs.Numbers.{found}
use Rattle.record.specs.Records.{raw}
use Rattle.record.proofs.parse_tls_raw_record.Goals as goal

pub overflow_cast-result-3 : goal.overflow_cast-result-3
overflow_cast-result-3 c =
    let l = vector_lies 2 (rule_of Fragment) _ _
    (case as_answer c.length_data.ensures c.in_ok-fragment.was) in
    omega (arith, leb-true c.in_ok-fragment.fragment.view.len 16640 (unless_none _ _ l.allowed))

pub returns : goal.returns
returns c =
    let n1 = found 1 (c.parse_be.ensures.result_value, c.parse_be.ensures.below) c.in_ok-record_type.was in
    let n2 = found 2 (c.parse_be-2.ensures.result_value, c.parse_be-2.ensures.below) c.in_ok-version.was in
    let n3 = case as_answer c.length_data.ensures c.in_ok-fragment.was in
    sym (end (and (and (and (begin raw _) n1.field) n2.field) n3) ∙ rw (n1.value, n2.value))
