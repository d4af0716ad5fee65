-- `wire::view::take_or` meets its contract: at each `return` the tests that led there say which law
-- of `part_at` holds. Assumes nothing.
use Prim.Native.Nat.{◌-◌}
use mathlib.Core.Path.{◌≡◌, ap, sym, ◌∙◌}
use native.Mathlib.Omega.{arith}
use lib.ListN.{length}
use Rattle.refusal.specs.Answers.{refused}
use Rattle.refusal.specs.Refusals.{refusal}
use Rattle.wire.proofs.Parts.{part_in, part_out}
use Rattle.wire.proofs.view.take_or.Goals as goal

pub returns-then-s-at : goal.returns-then-s-at
returns-then-s-at c =
    let a = c.args in
    let l : a.n ≡ a.n - (length a.s.now - a.at) = omega arith in
    ap refused (c.refuse.ensures ∙ ap (refusal _ _) l) ∙ sym (part_out _ _ _ _ (omega arith))

pub returns-then-left-n : goal.returns-then-left-n
returns-then-left-n c =
    ap refused c.refuse-then-left-n.ensures ∙ sym (part_out _ _ _ _ (omega arith))

pub returns : goal.returns
returns c = sym (part_in _ _ _ _ (omega arith))
