-- The lengths that a rule names: RULES 2, 3 and 6.
use Rattle.refusal.specs.{ℕ}

-- the bytes of a random: RFC 5246 7.4.1.2
abbrev pub random_length : ℕ
random_length = 32

-- the most bytes of a session id: RFC 5246 7.4.1.2
abbrev pub session_id_limit : ℕ
session_id_limit = 32

-- the most bytes of a record's content: tls-parser's; RFC 5246 6.2.1 has 16,384
abbrev pub fragment_limit : ℕ
fragment_limit = 16640

-- the fewest bytes of a heartbeat's padding: RFC 6520 4
abbrev pub padding_least : ℕ
padding_least = 16
