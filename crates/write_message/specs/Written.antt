-- A handshake message, written by its kind: RULES 7.1, 7.7; RFC 5246 7.4. A ServerHello's
-- extensions are written at every version, 0x0300 too.
use Rattle.refusal.specs.{ℕ, List, [], true, Answer, accepted}
use Rattle.wire.specs.{if_some}
use Rattle.write_rules.specs.{hello_text, head_text, message_text, view_text}
use Rattle.read_client.specs.{client}
use Rattle.read_server.specs.{server, draft18}
use Rattle.message.specs.{TlsMessageHandshake, type_of, WrittenBody, no_body, client_body, server_body, draft18_body, exchange_body, finished_body, body_written, not_written_of}
use Rattle.write_others.specs.Exchange.{exchange_text}

-- the body, its views being of s
abbrev pub body_text : List ℕ → WrittenBody → Answer (List ℕ)
body_text s no_body = accepted []
body_text s (client_body c) = hello_text client s c
body_text s (server_body c) = hello_text (server true) s c
body_text s (draft18_body c) = hello_text draft18 s c
body_text s (exchange_body k) = exchange_text s k
body_text s (finished_body v) = view_text s v

unfoldable pub handshake_text : List ℕ → TlsMessageHandshake → Answer (List ℕ)
handshake_text s m = if_some (body_written m) (λ b. message_text (head_text (type_of m)) (body_text s b)) not_written_of
