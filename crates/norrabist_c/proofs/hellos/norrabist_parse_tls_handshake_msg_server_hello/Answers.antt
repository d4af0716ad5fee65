-- `norrabist_c::hellos::norrabist_parse_tls_handshake_msg_server_hello` meets its contract: at
-- another version than that of draft 18 the body is read as a message of its own. Assumes nothing.
use mathlib.Core.Path.{◌≡◌, refl}
use borrow.Author.Tests.{ne_eqb}
use Rattle.refusal.proofs.Told.{case}
use Rattle.refusal.specs.Answers.{Answer, accepted, refused, giving, as_answer}
use Rattle.message.specs.declared.handshake.TlsMessageHandshake.TheVariants.{ServerHello}
use Rattle.read_server.specs.declared.tlsv12.TlsServerHelloContents.{TlsServerHelloContents}
use Rattle.grammar.specs.Forms.{by_version}
use Rattle.read_server.specs.Server.{server_versions}
use Rattle.open_hellos.specs.HelloMessages.{server_message}
use Rattle.norrabist_c.specs.Hellos.{server_message_told, server_told}
use Rattle.norrabist_c.proofs.hellos.norrabist_parse_tls_handshake_msg_server_hello.Goals as goal

as-server : (a : Answer TlsServerHelloContents) → server_told a ≡ server_message_told (giving ServerHello a)
as-server (accepted c) = refl
as-server (refused r) = refl

pub returns : goal.returns
unfolding server_message
returns c =
    rw (
      case as_answer c.parse_be.ensures.result_value c.in-Ok.is,
      ne_eqb _ _ c.if-version-eq-TLS13_DRAFT18.false,
      c.norrabist_parse_tls_handshake_server_hello.ensures,
    )
    (as-server (by_version server_versions _))
