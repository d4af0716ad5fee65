-- `envelope::parse_tls_message_handshake` meets its contract: the head, and then what its type
-- opens. Assumes nothing.
use Prim.Native.Nat.{ℕ}
use mathlib.Core.Path.{◌≡◌, sym, ◌∙◌}
use mathlib.Core.List.{List}
use Rattle.std.proofs.Common.{rules}
use Rattle.std.specs.Prelude.{Result, Ok, Err}
use Rattle.refusal.specs.Answers.{accepted, within, as_answer}
use Rattle.refusal.specs.declared.Refusal.{Refusal}
use Rattle.refusal.proofs.Told.{case, hands_on}
use Rattle.wire.specs.Parts.{part_of}
use Rattle.message.specs.declared.handshake.TlsMessageHandshake.{TlsMessageHandshake}
use Rattle.envelope.specs.Opening.{head_at, by_type, message}
use Rattle.envelope.specs.declared.TlsMessageHead.{TlsMessageHead}
use Rattle.envelope.proofs.Heads.{met_no_head, met_no_body, met_got}
use Rattle.envelope.proofs.parse_tls_message_handshake.Goals as goal

-- what the body is opened as, in its message
whole : (s : List ℕ) {h : TlsMessageHead} (y z : Result TlsMessageHandshake Refusal)
    → head_at s 0 ≡ accepted h → as_answer y ≡ by_type h.msg_type (part_of s h.body)
    → as_answer z ≡ within h.body.start (as_answer y) → as_answer z ≡ message s
unfolding message
whole s (Ok m) z e d i = i ∙ rw (met_got s 0 e (sym d))
whole s (Err r) z e d i = i ∙ rw (met_no_body s 0 e (sym d))

pub returns-in_err-head : goal.returns-in_err-head
unfolding message
returns-in_err-head c =
    hands_on _ c.from_residual.ensures
    (rw (met_no_head _ 0 (case as_answer c.parse_tls_message_head.ensures c.in_err-head.was)))

pub returns : goal.returns
returns c =
    whole _ c.parse_tls_handshake_body.result _ (case as_answer c.parse_tls_message_head.ensures c.in_ok-head.was)
    (rw c.part_of-body.ensures at c.parse_tls_handshake_body.ensures) (search rules)
