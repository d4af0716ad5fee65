-- `read_ext::names::name_at` meets its contract: the steps lead to the name, or one of them is
-- refused. Assumes nothing.
use mathlib.Core.Path.{sym, ◌∙◌}
use Rattle.refusal.proofs.Told.{hands_on}
use Rattle.list.specs.Tagged.{any_data}
use Rattle.list.proofs.Stepping.{or_tells, skipped, or_missed}
use Rattle.read_ext.proofs.Turns.{turn, name_says, name_onward, name_is}
use Rattle.read_ext.proofs.names.name_at.Goals as goal

pub invariant_of-skip : goal.invariant_of-skip
invariant_of-skip c = record { onward = name_onward c.args.list.now }

pub returns-in_err-from : goal.returns-in_err-from
returns-in_err-from c =
    let s = rw c.in_err-from.was at c.skip.ensures in
    hands_on _ c.from_residual.ensures (or_missed (name_says _) (turn 1 any_data c.args.list.now) c.args.n (sym s))

pub returns : goal.returns
returns c =
    let s = rw c.in_ok-from.was at c.skip.ensures in
    let e = skipped (turn 1 any_data c.args.list.now) (or_tells (name_says c.args.list.now)) c.args.n (sym s) in
    c.name_from.ensures.result_value ∙ name_is _ _ ∙ sym e
