-- A ClientHello whose parts are handed over apart, each a slice of its own: RULES 7.2, 7.3;
-- RFC 5246 7.4.1.2. An id and extensions that are absent are written as empty ones are, so an empty
-- slice is handed over for them.
use Rattle.refusal.specs.{ℕ, List, Answer}
use Rattle.registry.specs.Types.{client_hello_type}
use Rattle.wire.specs.{bytes_of}
use Rattle.grammar.specs.Grammars.{Row, Parts}
use Rattle.read_client.specs.{client}
use Rattle.write_rules.specs.{head_text, message_text, join_text}

abbrev pub client_rows : List Row
client_rows = client.grammar.rows

abbrev pub client_parts : ℕ → List ℕ → List ℕ → List ℕ → List ℕ → Parts client_rows
client_parts version random id ciphers comp = (bytes_of 2 version, (random, (id, (ciphers, (comp, tt)))))

-- the message
abbrev pub client_text : ℕ → List ℕ → List ℕ → List ℕ → List ℕ → List ℕ → Answer (List ℕ)
client_text version random id ciphers comp ext = message_text (head_text client_hello_type) (join_text client_rows (client_parts version random id ciphers comp) ext)
