-- What stands behind a ChangeCipherSpec, and is taken for encrypted: RULES 6.21.
use Rattle.std.specs.Prelude.{◌||◌, ◌&&◌}
use Rattle.refusal.specs.{ℕ, Bool, true, false, eqb, Answer, accepted, refused}
use Rattle.registry.specs.Types.{change_cipher_spec_record, alert_record, handshake_record, heartbeat_record}
use Rattle.record_open.specs.declared.TlsPlaintext.{TlsPlaintext}

-- a record of this type, by whether a ChangeCipherSpec stands before it
abbrev pub is_sealed : Bool → ℕ → Bool
is_sealed after recordType =
    (eqb recordType alert_record || eqb recordType handshake_record || eqb recordType heartbeat_record) && after

-- whether a record was opened
abbrev pub is_open : Answer TlsPlaintext → Bool
is_open (accepted p) = true
is_open (refused r) = false

-- whether one stands before what follows a record of this type and answer: it is one, or one stands
-- before it
abbrev pub sealed_after : Bool → ℕ → Answer TlsPlaintext → Bool
sealed_after after recordType answer = (eqb recordType change_cipher_spec_record && is_open answer) || after
