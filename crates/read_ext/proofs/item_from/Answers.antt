-- `read_ext::item_from` meets its contract: an item is found, and its data is of its kind, or there
-- is none. Assumes nothing.
use mathlib.Core.Path.{ap, ◌∙◌}
use Rattle.refusal.specs.Answers.{refused, as_answer}
use Rattle.refusal.proofs.Told.{case}
use Rattle.list.specs.Tagged.{fit_at}
use Rattle.read_ext.proofs.item_from.Goals as goal
use Rattle.read_ext.proofs.item_from.Goals.{in_default-via-in-Ok+else-is_of, in_default-via-in_default}

pub returns-in-Ok : goal.returns-in-Ok
unfolding fit_at
returns-in-Ok c =
    let e = case as_answer c.tagged_from.ensures.result_value c.in-Ok.is in
    let t = rw c.part_of.ensures at c.is_of.ensures in
    rw (e, ← t, c.if-is_of.true)

pub returns-in_default : goal.returns-in_default
unfolding fit_at
returns-in_default c = ap refused c.refuse.ensures ∙ elim c.in_default.branch [
  | in_default-via-in-Ok+else-is_of w ↦
      let e = case as_answer c.tagged_from.ensures.result_value w.in-Ok.is in
      let t = rw w.part_of.ensures at w.is_of.ensures in
      rw (e, ← t, w.if-is_of.false)
  | in_default-via-in_default w ↦
      let e = case as_answer c.tagged_from.ensures.result_value w.in_default.is in
      rw e
]
