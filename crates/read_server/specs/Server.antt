-- The ServerHello, and that of TLS 1.3 draft 18, as values: RULES 3.3 to 3.5; RFC 5246 7.4.1.3,
-- draft-ietf-tls-tls13-18 4.1.3.
use Rattle.std.specs.Prelude.{◌∷◌}
use Rattle.refusal.specs.{[], Bool, true, false}
use Rattle.registry.specs.Versions.{ssl30, tls10, tls11, tls12}
use Rattle.grammar.specs.{server_hello, server_hello_draft18, Form, Listing}
use Rattle.read_server.specs.declared.{tlsv12.TlsServerHelloContents.TlsServerHelloContents, tlsv13draft18.TlsServerHelloV13Draft18Contents.TlsServerHelloV13Draft18Contents}

abbrev pub server : Bool → Form TlsServerHelloContents
server hasExt = record {
  grammar = server_hello hasExt;
  value = λ (v, (r, (id, (c, (m, _))))) e t. record { version = v; random = r; session_id = id; cipher = c; compression = m; ext = e; tail = t };
  handed = λ c. (c.version, (c.random, (c.session_id, (c.cipher, (c.compression, tt)))));
  block = λ c. c.ext;
  tail = λ c. c.tail;
}

-- the versions listed: from 0x0301 to 0x0303 with extensions, at 0x0300 they are never looked for
abbrev pub server_versions : Listing TlsServerHelloContents
server_versions = (tls12, server true) ∷ (tls11, server true) ∷ (tls10, server true) ∷ (ssl30, server false) ∷ []

abbrev pub draft18 : Form TlsServerHelloV13Draft18Contents
draft18 = record {
  grammar = server_hello_draft18;
  value = λ (v, (r, (c, _))) e t. record { version = v; random = r; cipher = c; ext = e; tail = t };
  handed = λ c. (c.version, (c.random, (c.cipher, tt)));
  block = λ c. c.ext;
  tail = λ c. c.tail;
}
