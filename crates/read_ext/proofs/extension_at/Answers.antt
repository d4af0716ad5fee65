-- `read_ext::extension_at` meets its contract: the block is sound, and the item is found by
-- walking; or it is damaged. Assumes nothing.
use Rattle.std.proofs.Common.{rules}
use mathlib.Core.Path.{◌≡◌, sym, ap, ◌∙◌}
use Rattle.refusal.specs.Answers.{as_answer}
use Rattle.read_ext.specs.Extensions.{sound, extension_says, extensions_says, extensions, extension_place}
use Rattle.read_ext.proofs.Turns.{still_sound, still_damaged, damage_on}
use Rattle.read_ext.proofs.extension_at.Goals as goal

pub returns-in_err-parse_tls_extensions : goal.returns-in_err-parse_tls_extensions
unfolding extensions extension_place
returns-in_err-parse_tls_extensions c =
    let e = sym c.parse_tls_extensions.ensures ∙ ap extensions_says c.in_err-parse_tls_extensions.was in
    damage_on _ c.from_residual.ensures ∙ sym (still_damaged _ _ _ e)

pub returns : goal.returns
unfolding extensions extension_place
returns c =
    let e = sym c.parse_tls_extensions.ensures ∙ ap extensions_says c.in_ok-parse_tls_extensions.was in
    let t : extension_says c.map_err.result ≡ sound (as_answer c.item_at.result) = search rules in
    t ∙ ap sound c.item_at.ensures ∙ sym (still_sound _ _ _ e)
