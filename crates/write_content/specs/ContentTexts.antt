-- The messages of a record, written, by their kinds: RULES 7.13 to 7.15; RFC 5246 7.1, 7.2.
use Rattle.std.specs.Prelude.{◌∷◌}
use Rattle.refusal.specs.{ℕ, List, [], unplaced, Answer, accepted, refused, BadLength}
use Rattle.wire.specs.{pick}
use Rattle.message.specs.{not_written_of}
use Rattle.write_message.specs.Written.{handshake_text}
use Rattle.content.specs.{TlsMessage, Handshake, ChangeCipherSpec, Alert, ApplicationData, Heartbeat, one_or_two}

-- RULES 7.13: the byte 01
unfoldable pub cipher_spec_text : Answer (List ℕ)
cipher_spec_text = accepted (1 ∷ [])

-- RULES 7.14: level and description; a level other than 1 and 2 is BadLength
unfoldable pub alert_text : ℕ → ℕ → Answer (List ℕ)
alert_text severity code = pick (one_or_two severity) (accepted (severity ∷ code ∷ [])) (refused (unplaced BadLength))

-- RULES 7.15: application data and heartbeats are not written
unfoldable pub content_text : List ℕ → TlsMessage → Answer (List ℕ)
content_text s (Handshake m) = handshake_text s m
content_text s ChangeCipherSpec = cipher_spec_text
content_text s (Alert a) = alert_text a.severity a.code
content_text s (ApplicationData d) = not_written_of
content_text s (Heartbeat h) = not_written_of
