-- The sums of the summary of `look`, record by record: RULES 6.14.
use Rattle.std.specs.Prelude.{◌%◌, ◌^◌, ◌+◌}
use Rattle.refusal.specs.{ℕ, List, Bool, length, drop, eqb, Answer, accepted, refused}
use Rattle.registry.specs.Types.{handshake_record}
use Rattle.wire.specs.{pick}
use Rattle.record_walk.specs.Walks.{messages, past_all}
use Rattle.record_open.specs.{plaintext}
use Rattle.record_open.specs.declared.TlsPlaintext.{TlsPlaintext}
use Rattle.record_tally.specs.Tally.{hello_tally, tally}
use Rattle.record_tally.specs.declared.HelloTally.{HelloTally}
use Rattle.look.specs.declared.sums.Sums.{Sums}

-- of no record
abbrev pub no_sums : Sums
no_sums = record { «records» = 0; «refused» = 0; sealed = 0; continued = 0; messages = 0; dropped = 0; clients = 0; servers = 0; cut = 0 }

-- the hellos in the content of a record of this type: those of a handshake record
abbrev pub hellos_in : ℕ → List ℕ → HelloTally
hellos_in recordType content = pick (eqb recordType handshake_record) (hello_tally content) (tally 0 0 0)

-- of one that is opened, with the hellos in it
abbrev pub opened_sums : TlsPlaintext → HelloTally → Sums
opened_sums p h =
    record { «records» = 1; «refused» = 0; sealed = 0; continued = 0; messages = p.count; dropped = p.dropped; clients = h.clients; servers = h.servers; cut = h.cut }

-- of one that is refused
abbrev pub refused_sums : Sums
refused_sums = record { «records» = 1; «refused» = 1; sealed = 0; continued = 0; messages = 0; dropped = 0; clients = 0; servers = 0; cut = 0 }

-- of one that is sealed, and so not opened
abbrev pub sealed_sums : Sums
sealed_sums = record { «records» = 1; «refused» = 0; sealed = 1; continued = 0; messages = 0; dropped = 0; clients = 0; servers = 0; cut = 0 }

-- of one that goes on with a message begun before it, by the bytes behind those of that message
abbrev pub continued_sums : List ℕ → Sums
continued_sums s =
    record {
      «records» = 1;
      «refused» = 0;
      sealed = 0;
      continued = 1;
      messages = length (messages s);
      dropped = length (drop (past_all (messages s) 0) s);
      clients = (hello_tally s).clients;
      servers = (hello_tally s).servers;
      cut = (hello_tally s).cut;
    }

-- of an answer, with the content of the record
unfoldable pub sums_in : Answer TlsPlaintext → List ℕ → Sums
sums_in (accepted p) content = opened_sums p (hellos_in p.hdr.record_type content)
sums_in (refused r) content = refused_sums

-- of the record that bytes begin with, whose content is told too, which is sealed or not, and of
-- which so many bytes are passed over
abbrev pub record_sums : List ℕ → List ℕ → Bool → ℕ → Sums
record_sums s content sealed passed =
    pick sealed sealed_sums
    (pick (eqb passed 0) (sums_in (plaintext s) content) (continued_sums (drop passed content)))

-- a sum as the machine has it
abbrev pub sum : ℕ → ℕ → ℕ
sum m n = (m + n) % 2 ^ 64

-- of two together
abbrev pub added : Sums → Sums → Sums
added a b =
    record {
      «records» = sum a.«records» b.«records»;
      «refused» = sum a.«refused» b.«refused»;
      sealed = sum a.sealed b.sealed;
      continued = sum a.continued b.continued;
      messages = sum a.messages b.messages;
      dropped = sum a.dropped b.dropped;
      clients = sum a.clients b.clients;
      servers = sum a.servers b.servers;
      cut = sum a.cut b.cut;
    }
