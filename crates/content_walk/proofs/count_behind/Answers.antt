-- `content_walk::count_behind` meets its contract: none where the content is one message, else a
-- step tells of the message that is found where it is asked. Assumes nothing.
use mathlib.Core.Path.{refl, sym, ◌∙◌}
use native.Mathlib.Omega.{arith}
use Rattle.list.specs.Stopping.{end_of}
use Rattle.list.proofs.Stepping.{onward, counted, tells}
use Rattle.content_walk.specs.ContentWalks.{past_at}
use Rattle.content_walk.proofs.Walking.{by_messages, behind_none}
use Rattle.content_walk.proofs.count_behind.Goals as goal

pub returns-then-is_single : goal.returns-then-is_single
unfolding end_of
returns-then-is_single c =
    let z = behind_none c.args.record_type c.args.s.now (sym c.is_single.ensures ∙ c.if-is_single.true) c.args.from in
    record {
      count_value = rw z;
      end_value = rw z;
    }

pub invariant_of-count : goal.invariant_of-count
unfolding past_at
invariant_of-count c =
    let f = sym c.is_single.ensures ∙ c.if-is_single.false in
    record { onward = λ at next b e. onward (by_messages c.args.record_type c.args.s.now f) (tells (λ n. refl)) e }

pub returns : goal.returns
unfolding past_at
returns c =
    let f = sym c.is_single.ensures ∙ c.if-is_single.false in
    let n = counted (by_messages c.args.record_type c.args.s.now f) (tells (λ n. refl)) c.args.from (omega arith) in
    record {
      count_value = c.count.ensures.count_value ∙ rw f n.0;
      end_value = c.count.ensures.end_value ∙ rw f n.1;
    }
