-- `norrabist_c::writers::norrabist_gen_tls_hellorequest` meets its contract: the text has four
-- bytes. Assumes nothing.
use mathlib.Core.Path.{◌≡◌, refl, sym}
use mathlib.Core.List.{[]}
use native.Mathlib.Omega.{arith}
use lib.ListN.{length-append}
use Rattle.wire.proofs.Numbers.{length_bytes}
use Rattle.write_rules.specs.JoinTexts.{text_length}
use Rattle.write_rules.specs.MessageTexts.{head_text}
use Rattle.write_rules.proofs.Messages.{head_bytes, head_is, message_is}
use Rattle.norrabist_c.specs.Writers.{request_text}
use Rattle.norrabist_c.proofs.writers.norrabist_gen_tls_hellorequest.Goals as goal

request_length : 4 ≡ text_length request_text
request_length =
    sym (rw (message_is (head_text 0) (head_bytes 0 0) [] (head_is 0 0 (omega arith)) refl)
    (simp (length-append, length_bytes)))

pub returns-clause-value : goal.returns-clause-value
returns-clause-value c = rw (c.told.ensures, c.gen_tls_hellorequest-answer.ensures.result_value, ← request_length)
