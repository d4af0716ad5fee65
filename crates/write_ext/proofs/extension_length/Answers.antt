-- `write_ext::extension_length` meets its contract: the type is raw, or the content may not stand
-- behind it, or the bytes are counted. Assumes nothing.
use mathlib.Core.Path.{sym, ◌∙◌}
use native.Mathlib.Omega.{arith}
use lib.ListN.{length}
use Rattle.write_ext.proofs.OneText.{stands_short, length_raw, length_bad, length_made}
use Rattle.write_ext.proofs.extension_length.Goals as goal

pub returns-then-is_raw : goal.returns-then-is_raw
returns-then-is_raw c =
    length_raw c.args.ext_type c.args.content.now (sym c.is_raw.ensures ∙ c.if-is_raw.true)
    c.unplaced.ensures

pub overflow_add-result : goal.overflow_add-result
overflow_add-result c =
    let h = stands_short c.args.ext_type c.args.content.now (sym c.may_stand.ensures ∙ c.if-may_stand.true) in
    omega (arith, h, c.inner_length.ensures (length c.args.content.now))

pub overflow_add-result-then-may_stand : goal.overflow_add-result-then-may_stand
overflow_add-result-then-may_stand c =
    let h = stands_short c.args.ext_type c.args.content.now (sym c.may_stand.ensures ∙ c.if-may_stand.true) in
    omega (arith, h, c.inner_length.ensures (length c.args.content.now))

pub returns-then-may_stand : goal.returns-then-may_stand
returns-then-may_stand c =
    length_made c.args.ext_type c.args.content.now (sym c.is_raw.ensures ∙ c.if-is_raw.false)
    (sym c.may_stand.ensures ∙ c.if-may_stand.true) (c.inner_length.ensures _)

pub returns-else-may_stand : goal.returns-else-may_stand
returns-else-may_stand c =
    length_bad c.args.ext_type c.args.content.now (sym c.is_raw.ensures ∙ c.if-is_raw.false)
    (sym c.may_stand.ensures ∙ c.if-may_stand.false) c.unplaced-else-may_stand.ensures
