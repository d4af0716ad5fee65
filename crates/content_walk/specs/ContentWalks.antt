-- The messages of a record's content by the type of the record, and the walk over them: RULES 6.4,
-- 6.6 to 6.9, 6.15 to 6.18; RFC 5246 6.2.1, RFC 6520 3. Of a record of handshake messages, of
-- ChangeCipherSpec or of alerts each is looked for where the one before it ends, until one is
-- refused; one of application data or of a heartbeat is one message.
use Rattle.std.specs.Prelude.{◌+◌, ◌∷◌, ◌||◌}
use Rattle.refusal.specs.{ℕ, zero, suc, List, [], Bool, false, length, eqb, refusal, Answer, accepted, refused, giving, NoSuch, Switch}
use Rattle.registry.specs.Types.{change_cipher_spec_record, alert_record, handshake_record, application_data_record, heartbeat_record}
use Rattle.wire.specs.{pick, lookup, if_some}
use Rattle.list.specs.{go_on_of, items_from, or_no_such, left_over_of}
use Rattle.envelope.specs.{met_at}
use Rattle.content.specs.{TlsMessage, Handshake, ChangeCipherSpec, Alert, Heartbeat, cipher_spec_at, alert_at, application_data, heartbeat}
use Rattle.content_walk.specs.declared.{TlsFound.TlsFound, TlsRecordWalk.TlsRecordWalk}

-- the messages that begin at a place, with the bytes that their views are of
unfoldable pub cipher_spec_found : List ℕ → ℕ → Answer TlsFound
cipher_spec_found s at = giving (λ n. record { body = record { start = at; len = 1 }; next = n.next; message = ChangeCipherSpec }) (cipher_spec_at s at)

unfoldable pub alert_found : List ℕ → ℕ → Answer TlsFound
alert_found s at = giving (λ a. record { body = record { start = at; len = 2 }; next = at + 2; message = Alert a }) (alert_at s at)

unfoldable pub handshake_found : List ℕ → ℕ → Answer TlsFound
handshake_found s at = giving (λ x. record { body = x.head.body; next = x.head.next; message = Handshake x.says }) (met_at s at)

-- those that are the whole content
unfoldable pub application_found : List ℕ → Answer TlsFound
application_found s = giving (λ m. record { body = record { start = 0; len = length s }; next = length s; message = m }) (application_data s)

unfoldable pub heartbeat_found : List ℕ → Answer TlsFound
heartbeat_found s = giving (λ h. record { body = record { start = 0; len = length s }; next = length s; message = Heartbeat h }) (heartbeat s)

-- RULES 6.9: what is found at a place by each type of record
abbrev pub finds : List ℕ → ℕ → List (ℕ × Answer TlsFound)
finds s at =
    (change_cipher_spec_record, cipher_spec_found s at)
    ∷ (alert_record, alert_found s at)
    ∷ (handshake_record, handshake_found s at)
    ∷ (application_data_record, application_found s)
    ∷ (heartbeat_record, heartbeat_found s)
    ∷ []

-- the same by the type t; every other type is Switch
unfoldable pub found_at : ℕ → List ℕ → ℕ → Answer TlsFound
found_at t s at = if_some (lookup t (finds s at)) (λ a. a) (refused (refusal Switch 0 0))

-- and where it ends
unfoldable pub past_at : ℕ → List ℕ → ℕ → Answer ℕ
past_at t s at = giving (λ x. x.next) (found_at t s at)

-- the types whose content is one message
abbrev pub is_single : ℕ → Bool
is_single t = eqb t application_data_record || eqb t heartbeat_record

-- those behind another that ends at a place, until one is refused: each takes a byte at least, so
-- that their number is no more than that of the bytes; none where the content is one message
abbrev pub messages_behind : ℕ → List ℕ → ℕ → List TlsFound
messages_behind t s at = items_from (pick (is_single t) 0 (length s)) (found_at t s) (λ x. x.next) at

-- all of them: the one at the front, and those behind it
abbrev pub messages_of : ℕ → List ℕ → List TlsFound
messages_of t s = go_on_of (found_at t s 0) (λ x. messages_behind t s x.next)

-- the bytes that are in none of them
abbrev pub dropped_of : ℕ → List ℕ → ℕ
dropped_of t s = left_over_of (λ x. x.next) (messages_of t s) (length s)

-- the walk before the first message of a record of type t
abbrev pub fresh_walk : ℕ → TlsRecordWalk
fresh_walk t = record { record_type = t; body = record { start = 0; len = 0 }; next = 0; ended = false }

-- what a walk meets: behind a message that is the whole content there is none
abbrev pub met_by : List ℕ → TlsRecordWalk → Answer TlsFound
met_by s w = pick w.ended (refused (refusal NoSuch 0 0)) (or_no_such (found_at w.record_type s w.next))

-- the message that it hands back
unfoldable pub next_message : List ℕ → TlsRecordWalk → Answer TlsMessage
next_message s w = giving (λ x. x.message) (met_by s w)

abbrev pub on_to : TlsRecordWalk → Answer TlsFound → TlsRecordWalk
on_to w (accepted x) = record { record_type = w.record_type; body = x.body; next = x.next; ended = is_single w.record_type }
on_to w (refused r) = w

-- and the walk moved on
unfoldable pub moved : List ℕ → TlsRecordWalk → TlsRecordWalk
moved s w = on_to w (met_by s w)

-- the walk after so many calls
unfoldable pub walk_after : ℕ → ℕ → List ℕ → TlsRecordWalk
walk_after zero t s = fresh_walk t
walk_after (suc k) t s = moved s (walk_after k t s)
