-- What is written of slices is what is written of a message whose parts they are: RULES 7.1, 7.3.
-- So what is shown of `handshake_text`, the text of a message with the bytes that its parts lie in,
-- holds of every message that an export writes.
use Rattle.std.specs.Prelude.{◌≡◌}
use Rattle.refusal.specs.{ℕ, List, Bool, true, false, some, Answer, refused, unplaced, number_of, BadLength, NotYetImplemented}
use Rattle.wire.specs.{if_some, part_of, opt_part_of, lies_in}
use Rattle.read_client.specs.{client}
use Rattle.read_server.specs.{server, draft18}
use Rattle.message.specs.{TlsMessageHandshake, Unknown, Dh, Ecdh, raw_exchange, dh_exchange, ecdh_exchange, kind_number, WrittenBody, no_body, client_body, server_body, draft18_body, exchange_body, finished_body, body_written}
use Rattle.write_rules.specs.JoinTexts.{all_lie}
use Rattle.write_client.specs.Slices.{client_text}
use Rattle.write_server.specs.Slices.{server_text}
use Rattle.write_draft18.specs.Slices.{draft18_text}
use Rattle.write_message.specs.Written.{handshake_text}
use Rattle.norrabist_c.specs.Writers.{exchange_slice_text, finished_text, request_text, kind_told}

-- all parts of what a message is written of lie in the bytes
abbrev pub parts_lie : List ℕ → WrittenBody → Bool
parts_lie s no_body = true
parts_lie s (client_body c) = all_lie client s c
parts_lie s (server_body c) = all_lie (server true) s c
parts_lie s (draft18_body c) = all_lie draft18 s c
parts_lie s (exchange_body (Unknown v)) = lies_in s v
parts_lie s (exchange_body (Dh v)) = lies_in s v
parts_lie s (exchange_body (Ecdh v)) = lies_in s v
parts_lie s (finished_body v) = lies_in s v

-- the text of the slices that are its parts in the bytes, by the export of its kind
abbrev pub slice_text : List ℕ → WrittenBody → Answer (List ℕ)
slice_text s no_body = request_text
slice_text s (client_body c) = client_text c.version (part_of s c.random) (opt_part_of s c.session_id)
    (part_of s c.ciphers) (part_of s c.comp) (opt_part_of s c.ext)
slice_text s (server_body c) = server_text c.version (part_of s c.random) (opt_part_of s c.session_id)
    c.cipher c.compression (opt_part_of s c.ext)
slice_text s (draft18_body c) = draft18_text c.version (part_of s c.random) c.cipher (opt_part_of s c.ext)
slice_text s (exchange_body (Unknown v)) = exchange_slice_text raw_exchange (part_of s v)
slice_text s (exchange_body (Dh v)) = exchange_slice_text dh_exchange (part_of s v)
slice_text s (exchange_body (Ecdh v)) = exchange_slice_text ecdh_exchange (part_of s v)
slice_text s (finished_body v) = finished_text (part_of s v)

-- shown by `proofs/Slices.antt`
pub record SlicesSame : Type 0 where
  -- 0 for just the kinds that are written
  pub kinds : (m : TlsMessageHandshake) → kind_told (kind_number m)
      ≡ if_some (body_written m) (λ b. 0) (number_of NotYetImplemented)
  -- the slices have the message's own text, where they lie in the bytes lent with it
  pub texts : (s : List ℕ) (m : TlsMessageHandshake) (b : WrittenBody) → body_written m ≡ some b → parts_lie s b ≡ true → slice_text s b ≡ handshake_text s m
  -- and where one of them does not, there are no such slices, and the message is BadLength
  pub outside : (s : List ℕ) (m : TlsMessageHandshake) (b : WrittenBody) → body_written m ≡ some b
      → parts_lie s b ≡ false → handshake_text s m ≡ refused (unplaced BadLength)
