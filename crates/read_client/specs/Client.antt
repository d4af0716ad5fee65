-- The ClientHello as a value, the times in its random, and the strict one: RULES 3.2, 3.13 to 3.15;
-- RFC 5246 7.4.1.2.
use Rattle.std.specs.Prelude.{◌-◌, ◌≡◌}
use Rattle.refusal.specs.{ℕ, List, Option, none, some, length, eqb, leb, refusal, Answer, accepted, refused, LengthValue, Result, Ok, Err}
use Rattle.wire.specs.{pick, if_some, be, part_of}
use Rattle.grammar.specs.{client_hello, client_to_fill, Form, reading, pieces, inexact, strictly}
use Rattle.read_client.specs.declared.{Inexact.Inexact, TlsClientHelloContents.TlsClientHelloContents}

abbrev pub client : Form TlsClientHelloContents
client = record {
  grammar = client_hello;
  value = λ (v, (r, (id, (cs, (ms, _))))) e t. record { version = v; random = r; session_id = id; ciphers = cs; comp = ms; ext = e; tail = t };
  handed = λ c. (c.version, (c.random, (c.session_id, (c.ciphers, (c.comp, tt)))));
  block = λ c. c.ext;
  tail = λ c. c.tail;
}

-- RULES 3.13, tls-parser's answer: 0 unless the random has four bytes, since it converts the whole
-- random to a number of four bytes
abbrev pub rand_time : List ℕ → ℕ
rand_time random = pick (eqb (length random) 4) (be 4 random 0) 0

-- RULES 3.13, RFC 5246 7.4.1.2, gmt_unix_time: the first four bytes of the random, or 0 where there
-- are not as many
abbrev pub gmt_unix_time : List ℕ → ℕ
gmt_unix_time random = pick (leb 4 (length random)) (be 4 random 0) 0

-- RULES 3.14: the strict ClientHello
abbrev pub strict_client : List ℕ → Answer TlsClientHelloContents
strict_client s = strictly client client_to_fill s

-- RULES 3.15: what keeps a value from being exact, by the bytes that it names: no ciphers before no
-- methods, and these before a tail
abbrev pub exactness : List ℕ → TlsClientHelloContents → Result Unit Inexact
exactness s c =
    pick (eqb (length (part_of s c.ciphers)) 0) (Err Inexact.NoCiphers)
    (pick (eqb (length (part_of s c.comp)) 0) (Err Inexact.NoMethods)
    (pick (leb (length s) c.tail) (Ok tt) (Err Inexact.HasTail)))

-- where a value fails: at the length of the list that is empty, two bytes before the ciphers and
-- one before the methods, or where the tail begins
abbrev pub fails_at : Result Unit Inexact → TlsClientHelloContents → Option ℕ
fails_at (Ok u) c = none
fails_at (Err Inexact.NoCiphers) c = some (c.ciphers.start - 2)
fails_at (Err Inexact.NoMethods) c = some (c.comp.start - 1)
fails_at (Err Inexact.HasTail) c = some c.tail

-- the answer for a value: LengthValue where it fails
abbrev pub held_to : Result Unit Inexact → TlsClientHelloContents → Answer TlsClientHelloContents
held_to e c = if_some (fails_at e c) (λ n. refused (refusal LengthValue n 0)) (accepted c)

-- RULES 3.15: of a hello that was read, the strict reading goes by its exactness, and fails where
-- that says; shown by `proofs/Strict.antt`
pub record GoesByExactness (s : List ℕ) (c : TlsClientHelloContents) : Type 0 where
  pub answer : strict_client s ≡ held_to (exactness s c) c
  pub place : inexact client_hello client_to_fill (pieces client s c) ≡ fails_at (exactness s c) c

abbrev pub TellsExactness : List ℕ → Type 0
TellsExactness s = (c : TlsClientHelloContents) → reading client s ≡ accepted c → GoesByExactness s c
