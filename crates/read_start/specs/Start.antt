-- What a ClientHello and a ServerHello begin with, version, random and session id: RULES 3.2, 3.3;
-- RFC 5246 7.4.1.2, 7.4.1.3.
use Rattle.std.specs.Prelude.{◌∷◌}
use Rattle.refusal.specs.{[], none}
use Rattle.wire.specs.{None}
use Rattle.grammar.specs.{version, random, session_id_of, Form}
use Rattle.read_start.specs.declared.{Start.Start}

abbrev pub hello_start : Form Start
hello_start = record {
  grammar = record { rows = version ∷ random ∷ session_id_of ∷ []; block = none };
  value = λ (v, (r, (id, _))) e t. record { version = v; random = r; session_id = id; next = t };
  handed = λ a. (a.version, (a.random, (a.session_id, tt)));
  block = λ a. None;
  tail = λ a. a.next;
}
