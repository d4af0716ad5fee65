-- A body that is handed out whole is opened, whatever it holds. Assumes nothing.
use Prim.Native.Nat.{ℕ}
use mathlib.Core.Path.{◌≡◌}
use mathlib.Core.List.{List}
use native.Mathlib.Omega.{arith}
use lib.ListN.{length}
use Rattle.refusal.specs.Answers.{accepted}
use Rattle.wire.specs.declared.view.View.{View}
use Rattle.field.proofs.Rules.{fixed_in}
use Rattle.message.specs.declared.handshake.TlsMessageHandshake.{TlsMessageHandshake}
use Rattle.open_whole.specs.Whole.{whole_body}

pub whole_body_lem : (make : View → TlsMessageHandshake) (s : List ℕ)
    → whole_body make (length s) s ≡ accepted (make (record { start = 0; len = length s }))
unfolding whole_body
whole_body_lem make s = rw (fixed_in (length s) s 0 (omega arith))
