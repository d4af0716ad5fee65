-- What an export that writes answers: RULES 1.5, 1.7. The table's number of writing the text at the
-- front of the output, and how many bytes the text has: with NoRoom too, so that a caller who lends
-- no output learns how much it needs; 0 where none may be written.
use Rattle.std.specs.Prelude.{◌∷◌}
use Rattle.refusal.specs.{ℕ, List, [], Answer, accepted, number_in, number_of, NotYetImplemented}
use Rattle.registry.specs.Types.{hello_request_type, client_hello_type, server_hello_type, client_key_exchange_type, finished_type}
use Rattle.registry.specs.Versions.{tls13_draft18}
use Rattle.wire.specs.{lookup, if_some, room}
use Rattle.write_rules.specs.{head_text, message_text, text_length}
use Rattle.write_others.specs.Exchange.{form_text}
use Rattle.record.specs.{TlsRecordHeader}
use Rattle.norrabist_c.specs.declared.writers.Wrote.{Wrote}

abbrev pub wrote_told : Answer (List ℕ) → List ℕ → Wrote
wrote_told t d = record { count = text_length t; number = number_in (room t 0 d) }

-- the messages of one part or none, the part handed over
abbrev pub exchange_slice_text : ℕ → List ℕ → Answer (List ℕ)
exchange_slice_text form p = message_text (head_text client_key_exchange_type) (form_text form p)

abbrev pub request_text : Answer (List ℕ)
request_text = message_text (head_text hello_request_type) (accepted [])

abbrev pub finished_text : List ℕ → Answer (List ℕ)
finished_text p = message_text (head_text finished_type) (accepted p)

-- the header of a record to be written: its length is not looked at
abbrev pub header_of : ℕ → ℕ → TlsRecordHeader
header_of t v = record { record_type = t; version = v; len = 0 }

-- the kinds that are written, by their numbers (RULES 7.1), each with the table's 0
abbrev pub written_kinds : List (ℕ × ℕ)
written_kinds =
    (hello_request_type, 0) ∷ (client_hello_type, 0) ∷ (server_hello_type, 0)
    ∷ (client_key_exchange_type, 0) ∷ (finished_type, 0) ∷ (tls13_draft18, 0) ∷ []

-- 0 for a kind that is written, NotYetImplemented's number for any other
abbrev pub kind_told : ℕ → ℕ
kind_told kind = if_some (lookup kind written_kinds) (λ n. n) (number_of NotYetImplemented)
