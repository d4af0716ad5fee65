-- The grammars of the three hellos: RULES 3.2 to 3.5, 3.7 and 3.14; RFC 5246 7.4.1.2 (ClientHello),
-- 7.4.1.3 (ServerHello), 7.4.1.4 (extensions), draft-ietf-tls-tls13-18 4.1.3 (the hello of draft
-- 18).
use Rattle.std.specs.Prelude.{◌∷◌}
use Rattle.refusal.specs.{[], Bool, true, false, none, some}
use Rattle.wire.specs.{pick}
use Rattle.registry.specs.Limits.{random_length}
use Rattle.field.specs.{Field, fixed, vector, sized, rule_of, SessionId, Ciphers, Methods}
use Rattle.grammar.specs.Grammars.{Row, as_view, as_opt, as_number, Grammar}
use Rattle.grammar.specs.Strict.{ToFill}

abbrev pub version : Row
version = (fixed 2, as_number 2)

abbrev pub random : Row
random = (fixed random_length, as_view)

-- RULES 3.2: length 1, up to 32, and the id; 3.9: one of length 0 is absent
abbrev pub session_id_of : Row
session_id_of = (vector 1 (rule_of SessionId), as_opt false)

-- RULES 3.2: length 2, even and perhaps 0, and the ciphers, a list of items `fixed 2`
abbrev pub ciphers : Row
ciphers = (vector 2 (rule_of Ciphers), as_view)

-- RULES 3.2: length 1, perhaps 0, and the methods, a list of items `fixed 1`
abbrev pub methods : Row
methods = (vector 1 (rule_of Methods), as_view)

abbrev pub cipher : Row
cipher = (fixed 2, as_number 2)

abbrev pub compression : Row
compression = (fixed 1, as_number 1)

-- RULES 3.7: length 2 and as many bytes, where all of it is there
abbrev pub extensions : Field
extensions = sized 2

abbrev pub client_hello : Grammar
client_hello = record { rows = version ∷ random ∷ session_id_of ∷ ciphers ∷ methods ∷ []; block = some extensions }

-- RULES 3.14, RFC 5246 7.4.1.2: in a strict one ciphers and methods are to be filled, their lengths
-- being <2..2^16-2> and <1..2^8-1>
abbrev pub client_to_fill : ToFill client_hello.rows
client_to_fill = (false, (false, (false, (true, (true, tt)))))

-- RULES 3.3: at 0x0301 to 0x0303 with extensions; 3.4: at 0x0300 nobody looks for them,
-- tls-parser's HAS_EXT
abbrev pub server_hello : Bool → Grammar
server_hello hasExt = record { rows = version ∷ random ∷ session_id_of ∷ cipher ∷ compression ∷ []; block = pick hasExt (some extensions) none }

abbrev pub server_hello_draft18 : Grammar
server_hello_draft18 = record { rows = version ∷ random ∷ cipher ∷ []; block = some extensions }
