-- A ServerHello of TLS 1.3 draft 18 whose parts are handed over apart, each a slice of its own:
-- RULES 7.2, 7.3; draft-ietf-tls-tls13-18 4.1.3. Extensions that are absent are written as empty
-- ones are, so an empty slice is handed over for them.
use Rattle.refusal.specs.{ℕ, List, Answer}
use Rattle.registry.specs.Types.{server_hello_type}
use Rattle.wire.specs.{bytes_of}
use Rattle.grammar.specs.Grammars.{Row, Parts}
use Rattle.read_server.specs.{draft18}
use Rattle.write_rules.specs.{head_text, message_text, join_text}

abbrev pub draft18_rows : List Row
draft18_rows = draft18.grammar.rows

abbrev pub draft18_parts : ℕ → List ℕ → ℕ → Parts draft18_rows
draft18_parts version random cipher = (bytes_of 2 version, (random, (bytes_of 2 cipher, tt)))

-- the message
abbrev pub draft18_text : ℕ → List ℕ → ℕ → List ℕ → Answer (List ℕ)
draft18_text version random cipher ext = message_text (head_text server_hello_type) (join_text draft18_rows (draft18_parts version random cipher) ext)
