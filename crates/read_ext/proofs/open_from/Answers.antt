-- `read_ext::open_from` meets its contract: the item as it is handed out, or NoSuch. Assumes
-- nothing.
use native.Mathlib.Omega.{arith}
use Rattle.refusal.specs.Answers.{as_answer}
use Rattle.refusal.proofs.Told.{case, hands_on}
use Rattle.list.proofs.Walk.{got}
use Rattle.read_ext.specs.Extensions.{opened_from}
use Rattle.read_ext.proofs.Data.{openable}
use Rattle.read_ext.proofs.Turns.{opened_or}
use Rattle.read_ext.proofs.open_from.Goals as goal

pub returns-in_err-item_from : goal.returns-in_err-item_from
unfolding opened_from
returns-in_err-item_from c =
    let e = case as_answer c.item_from.ensures c.in_err-item_from.was in
    hands_on _ c.from_residual.ensures (rw (opened_or _ _, e))

pub open_item-requires : goal.open_item-requires
open_item-requires c =
    let e = case as_answer c.item_from.ensures c.in_ok-item_from.was in
    openable _ _ (λ i. omega (arith, c.type_inv.block i)) (got _ e)

pub returns : goal.returns
unfolding opened_from
returns c =
    let e = case as_answer c.item_from.ensures c.in_ok-item_from.was in
    rw (opened_or _ _, e, c.open_item.ensures)
