-- `read_ext::extension_from` meets its contract: at the front the block is sound or damaged, behind
-- it the item is looked at. Assumes nothing.
use Rattle.std.proofs.Common.{rules}
use mathlib.Core.Path.{◌≡◌, sym, ap, ◌∙◌}
use Rattle.refusal.specs.Answers.{as_answer}
use Rattle.read_ext.specs.Extensions.{sound, extension_says, extensions_says, extensions, extension_from}
use Rattle.read_ext.proofs.Turns.{from_front, from_behind, still_damaged, damage_on}
use Rattle.read_ext.proofs.extension_from.Goals as goal
use Rattle.read_ext.proofs.extension_from.Goals.{then-at-eq0+in_ok-parse_tls_extensions, else-at-eq0}

pub returns-in_err-parse_tls_extensions : goal.returns-in_err-parse_tls_extensions
unfolding extensions extension_from
returns-in_err-parse_tls_extensions c =
    let e = sym c.parse_tls_extensions.ensures ∙ ap extensions_says c.in_err-parse_tls_extensions.was in
    rw c.if-at-eq0.true (damage_on _ c.from_residual.ensures ∙ sym (still_damaged _ _ _ e))

pub returns : goal.returns
returns c =
    let t : extension_says c.map_err.result ≡ sound (as_answer c.open_from.result) = search rules in
    t ∙ ap sound c.open_from.ensures ∙ sym (elim c.if-at-eq0.branch [
      | then-at-eq0+in_ok-parse_tls_extensions w ↦ from_front _ _ w.if-at-eq0.true (sym w.parse_tls_extensions.ensures ∙ ap extensions_says w.in_ok-parse_tls_extensions.was)
      | else-at-eq0 w ↦ from_behind _ _ w.if-at-eq0.false
    ])
