-- `write_ext::may_stand` meets its contract: the content is too long, or the type decides. Assumes
-- nothing.
use mathlib.Core.Path.{sym, ◌∙◌}
use native.Mathlib.Omega.{arith}
use Rattle.write_ext.proofs.OneText.{inner_most, test-long, test-names, test-fragment, test-groups, test-raw}
use Rattle.write_ext.proofs.may_stand.Goals as goal

pub overflow_sub-inner_length : goal.overflow_sub-inner_length
overflow_sub-inner_length c = omega (arith, c.inner_length.ensures 0, inner_most c.args.ext_type 0)

pub returns-then-inner_length-n : goal.returns-then-inner_length-n
returns-then-inner_length-n c =
    sym (test-long c.args.ext_type c.args.content.now _ c.inner_length.ensures c.if-inner_length-n.true)

pub returns-in-0 : goal.returns-in-0
returns-in-0 c =
    c.fill.ensures
    ∙ sym (test-names c.args.ext_type c.args.content.now _ c.inner_length.ensures c.if-inner_length-n.false
    c.in-0.is)

pub returns-in-1 : goal.returns-in-1
returns-in-1 c =
    sym (test-fragment c.args.ext_type c.args.content.now _ c.inner_length.ensures c.if-inner_length-n.false
    c.in-1.is)

pub returns-in-10 : goal.returns-in-10
returns-in-10 c =
    sym (test-groups c.args.ext_type c.args.content.now _ c.inner_length.ensures c.if-inner_length-n.false
    c.in-10.is)

pub returns-in_default : goal.returns-in_default
returns-in_default c =
    sym (test-raw c.args.ext_type c.args.content.now _ c.inner_length.ensures c.if-inner_length-n.false c.in_default.in_default-own.rest.0.0.1
    c.in_default.in_default-own.rest.0.1 c.in_default.in_default-own.rest.1)
