-- `write_others::form_of` meets its contract: the number decides. Assumes nothing.
use borrow.Author.Tests.{ne_eqb}
use Rattle.write_others.proofs.form_of.Goals as goal

pub returns-in-0 : goal.returns-in-0
returns-in-0 c p = rw c.in-0.is

pub returns-in-1 : goal.returns-in-1
returns-in-1 c p = rw c.in-1.is

pub returns-in-2 : goal.returns-in-2
returns-in-2 c p = rw c.in-2.is

pub returns-in_default : goal.returns-in_default
returns-in_default c p =
    rw (ne_eqb _ 0 c.in_default.in_default-own.rest.0.0.1, ne_eqb _ 1 c.in_default.in_default-own.rest.0.1, ne_eqb _ 2 c.in_default.in_default-own.rest.1)
