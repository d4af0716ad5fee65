-- The messages of records that are not handshake records: RULES 6.15 to 6.18; RFC 5246 7.1, 7.2 and
-- 10, RFC 6520 4. Checks go in field order, and LengthValue is given where the message begins.
use Rattle.std.specs.Prelude.{◌+◌, ◌-◌, ◌||◌, ◌&&◌}
use Rattle.refusal.specs.{ℕ, List, Bool, length, eqb, leb, refusal, Answer, accepted, refused, then, giving, within, LengthValue}
use Rattle.registry.specs.Limits.{padding_least}
use Rattle.wire.specs.{pick, part_of, number_at, Number}
use Rattle.field.specs.{fixed, step}
use Rattle.content.specs.declared.{TlsMessage.TlsMessage, TlsMessageAlert.TlsMessageAlert, TlsMessageHeartbeat.TlsMessageHeartbeat}
use Rattle.content.specs.declared.TlsMessage.TheVariants.{ChangeCipherSpec, Alert, ApplicationData, Heartbeat}

-- the levels of an alert, and the types of a heartbeat
abbrev pub one_or_two : ℕ → Bool
one_or_two n = eqb n 1 || eqb n 2

-- RULES 6.15: the ChangeCipherSpec that begins at a place, a byte of value 1
unfoldable pub cipher_spec_at : List ℕ → ℕ → Answer Number
cipher_spec_at s at = then (number_at 1 s at) (λ n. pick (eqb n.value 1) (accepted n) (refused (refusal LengthValue at 0)))

-- RULES 6.16: the alert that begins at a place, level 1 and description 1
unfoldable pub alert_at : List ℕ → ℕ → Answer TlsMessageAlert
alert_at s at =
    then (number_at 1 s at) (λ l.
    pick (one_or_two l.value)
    (giving (λ d. record { severity = l.value; code = d.value }) (number_at 1 s l.next))
    (refused (refusal LengthValue at 0)))

-- RULES 6.18: the heartbeat that all of s is: type 1, length 2, payload, and 16 bytes of padding at
-- least
unfoldable pub heartbeat : List ℕ → Answer TlsMessageHeartbeat
heartbeat s =
    then (number_at 1 s 0) (λ t.
    then (number_at 2 s t.next) (λ n.
    let behind = n.next + n.value in
    pick (one_or_two t.value && leb (behind + padding_least) (length s))
    (accepted (record {
      heartbeat_type = t.value;
      payload_len = n.value;
      payload = record { start = n.next; len = n.value };
      padding = record { start = behind; len = length s - behind };
    }))
    (refused (refusal LengthValue 0 0))))

-- RULES 4.14: the one that the first n bytes of s are, n being handed over besides them
unfoldable pub heartbeat_in : ℕ → List ℕ → Answer TlsMessageHeartbeat
heartbeat_in n s = then (step (fixed n) s 0) (λ p. within p.view.start (heartbeat (part_of s p.view)))

-- the readers by tls-parser's names, of the message at the front
unfoldable pub change_cipher_spec_of : List ℕ → Answer TlsMessage
change_cipher_spec_of s = giving (λ n. ChangeCipherSpec) (cipher_spec_at s 0)

unfoldable pub alert_first : List ℕ → Answer TlsMessage
alert_first s = giving Alert (alert_at s 0)

-- RULES 6.17: all of s, also where it is empty
unfoldable pub application_data : List ℕ → Answer TlsMessage
application_data s = accepted (ApplicationData (record { blob = record { start = 0; len = length s } }))

unfoldable pub heartbeat_of : ℕ → List ℕ → Answer TlsMessage
heartbeat_of n s = giving Heartbeat (heartbeat_in n s)
