-- `write_ext::rows::row_length` meets its contract: the row is raw, or its content lies outside, or
-- the extension has its length. Assumes nothing.
use mathlib.Core.Path.{sym, ap, ◌∙◌}
use Rattle.refusal.specs.Answers.{refused}
use Rattle.write_ext.proofs.AllRows.{row_raw, row_inside, row_outside}
use Rattle.write_ext.proofs.rows.row_length.Goals as goal

pub returns-then-is_raw : goal.returns-then-is_raw
returns-then-is_raw c =
    rw (row_raw _ _ (sym c.is_raw.ensures ∙ c.if-is_raw.true)) (ap refused c.unplaced.ensures)

pub returns-then-lies_in : goal.returns-then-lies_in
returns-then-lies_in c =
    let n = sym c.is_raw.ensures ∙ c.if-is_raw.false in
    let q = sym c.lies_in.ensures ∙ c.if-lies_in.true in
    rw (row_inside _ _ n q) (rw c.part_of.ensures at c.extension_length.ensures)

pub returns-else-lies_in : goal.returns-else-lies_in
returns-else-lies_in c =
    let n = sym c.is_raw.ensures ∙ c.if-is_raw.false in
    let q = sym c.lies_in.ensures ∙ c.if-lies_in.false in
    rw (row_outside _ _ n q) (ap refused c.unplaced-else-lies_in.ensures)
