-- A ServerHello whose parts are handed over apart, each a slice of its own: RULES 7.2, 7.3, 7.7;
-- RFC 5246 7.4.1.3. An id and extensions that are absent are written as empty ones are, so an empty
-- slice is handed over for them.
use Rattle.refusal.specs.{ℕ, List, true, Answer}
use Rattle.registry.specs.Types.{server_hello_type}
use Rattle.wire.specs.{bytes_of}
use Rattle.grammar.specs.Grammars.{Row, Parts}
use Rattle.read_server.specs.{server}
use Rattle.write_rules.specs.{head_text, message_text, join_text}

abbrev pub server_rows : List Row
server_rows = (server true).grammar.rows

abbrev pub server_parts : ℕ → List ℕ → List ℕ → ℕ → ℕ → Parts server_rows
server_parts version random id cipher compression = (bytes_of 2 version, (random, (id, (bytes_of 2 cipher, (bytes_of 1 compression, tt)))))

-- the message
abbrev pub server_text : ℕ → List ℕ → List ℕ → ℕ → ℕ → List ℕ → Answer (List ℕ)
server_text version random id cipher compression ext = message_text (head_text server_hello_type) (join_text server_rows (server_parts version random id cipher compression) ext)
