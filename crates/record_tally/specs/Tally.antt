-- What is counted of the hellos of a handshake record's content, and how many bytes of its body a
-- message lacks. RULES 6.11, with 3.4, 3.7, 3.12, 5.1 and 6.6.
use Rattle.std.specs.Prelude.{◌+◌, ◌-◌}
use Rattle.refusal.specs.{ℕ, List, foldr, length, leb, ltb, eqb}
use Rattle.registry.specs.Versions.{ssl30}
use Rattle.wire.specs.{pick, be, OptView, None, Some}
use Rattle.read_server.specs.{TlsServerHelloContents}
use Rattle.message.specs.{TlsMessageHandshake, HelloRequest, ClientHello, ServerHello, ServerHelloV13Draft18, NewSessionTicket, EndOfEarlyData, HelloRetryRequest, Certificate, ServerKeyExchange, CertificateRequest, ServerDone, CertificateVerify, ClientKeyExchange, Finished, CertificateStatus, NextProtocol, KeyUpdate}
use Rattle.envelope.specs.{Met}
use Rattle.record_walk.specs.{messages}
use Rattle.record_tally.specs.declared.HelloTally.{HelloTally}

-- one where a block of extensions may have been cut off: there is none, and a tail begins within
-- the body's so many bytes
unfoldable pub cut_off : OptView → ℕ → ℕ → ℕ
cut_off None tail len = pick (ltb tail len) 1 0
cut_off (Some v) tail len = 0

-- of a ServerHello: at version 0x0300 none is looked for
unfoldable pub server_cut : TlsServerHelloContents → ℕ → ℕ
server_cut c len = pick (eqb c.version ssl30) 0 (cut_off c.ext c.tail len)

-- a tally of clients, servers and cut ones
abbrev pub tally : ℕ → ℕ → ℕ → HelloTally
tally n m k = record { clients = n; servers = m; cut = k }

-- what a message adds, its body being of so many bytes
unfoldable pub count_of : TlsMessageHandshake → ℕ → HelloTally
count_of HelloRequest len = tally 0 0 0
count_of (ClientHello c) len = tally 1 0 (cut_off c.ext c.tail len)
count_of (ServerHello c) len = tally 0 1 (server_cut c len)
count_of (ServerHelloV13Draft18 c) len = tally 0 1 (cut_off c.ext c.tail len)
count_of (NewSessionTicket c) len = tally 0 0 0
count_of EndOfEarlyData len = tally 0 0 0
count_of (HelloRetryRequest c) len = tally 0 0 (cut_off c.ext c.tail len)
count_of (Certificate c) len = tally 0 0 0
count_of (ServerKeyExchange c) len = tally 0 0 0
count_of (CertificateRequest c) len = tally 0 0 0
count_of (ServerDone v) len = tally 0 0 0
count_of (CertificateVerify v) len = tally 0 0 0
count_of (ClientKeyExchange k) len = tally 0 0 0
count_of (Finished v) len = tally 0 0 0
count_of (CertificateStatus c) len = tally 0 0 0
count_of (NextProtocol c) len = tally 0 0 0
count_of (KeyUpdate n) len = tally 0 0 0

-- what one that was met adds
abbrev pub met_count : Met → HelloTally
met_count x = count_of x.says x.head.body.len

-- what messages add, of each of the three
abbrev pub clients_of : List Met → ℕ
clients_of xs = foldr (λ x n. (met_count x).clients + n) 0 xs

abbrev pub servers_of : List Met → ℕ
servers_of xs = foldr (λ x n. (met_count x).servers + n) 0 xs

abbrev pub cut_of : List Met → ℕ
cut_of xs = foldr (λ x n. (met_count x).cut + n) 0 xs

-- what those add that a record's content holds, up to the first that is refused
unfoldable pub hello_tally : List ℕ → HelloTally
hello_tally s = tally (clients_of (messages s)) (servers_of (messages s)) (cut_of (messages s))

-- of the message that begins at a place: the length that its head announces, less the bytes that
-- are there behind the head's four; 0 where these are not all there
unfoldable pub lacking_at : List ℕ → ℕ → ℕ
lacking_at s at = pick (leb (at + 4) (length s)) (be 3 s (at + 1) - (length s - (at + 4))) 0
