-- `record_joined::count_records` meets its contract: what was counted and what is left are all the
-- records. Assumes nothing.
use mathlib.Core.Path.{◌≡◌, sym, ap, ◌∙◌}
use native.Mathlib.Omega.{arith}
use lib.ListN.{length}
use Rattle.refusal.specs.Answers.{as_answer}
use Rattle.refusal.proofs.Told.{case}
use Rattle.list.proofs.Walk.{rest_all, rest_on, rest_end}
use Rattle.record.specs.declared.TlsRawRecord.{TlsRawRecord}
use Rattle.record_joined.specs.Joined.{record_from, records, tallied}
use Rattle.record_joined.proofs.Joined.{message_sum, past_records, left, by_records, from_lies, few_messages}
use Rattle.record_joined.proofs.count_records.Goals as goal

pub loop-r-init : goal.loop-r-init
loop-r-init c =
    let s = c.args.s.now in
    let e : records s ≡ left s 0 = rest_all (record_from s) (λ (r : TlsRawRecord). r.next) (length s) in
    (omega arith, omega arith, omega (arith, ap length e), omega (arith, ap (message_sum s) e), ap (λ rs. past_records rs 0) e)

pub returns : goal.returns
unfolding tallied
returns c =
    let e = case as_answer c.record_from.ensures c.in_default.is in
    let z = rest_end (by_records _) c.loop-r.end e in
    let i = c.loop-r.invariant in
    let n : c.loop-r.records ≡ length (records c.args.s.now) = sym (i.2 ∙ rw z (omega arith)) in
    let m : c.loop-r.messages ≡ message_sum _ (records c.args.s.now) = sym (i.3 ∙ rw z (omega arith)) in
    let p : c.loop-r.end ≡ past_records (records c.args.s.now) 0 = sym (i.4 ∙ rw z) in
    rw (n, m, p)

pub loop-r-preserved : goal.loop-r-preserved
loop-r-preserved c =
    let e = case as_answer c.record_from.ensures c.in-Ok.is in
    let i = from_lies _ _ e in
    let f = few_messages c.args.s.now c.in-Ok.r in
    let o = rest_on (by_records _) c.loop-r.end e in
    let v = c.loop-r.invariant in (
      omega (arith, i, f),
      omega (arith, i, f, c.messages_in-messages.ensures),
      v.2 ∙ rw o (omega arith),
      v.3
          ∙ rw o (omega (arith, c.messages_in-messages.ensures)),
      v.4 ∙ rw o,
    )
