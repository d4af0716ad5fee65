-- What is told of a hello's body (RULES 1.7): its numbers and the lengths of its parts, or the
-- table's number and nothing else.
use Rattle.std.specs.Prelude.{◌<◌}
use Rattle.refusal.specs.{false, Answer, accepted, refused, number_of}
use Rattle.wire.specs.{if_some}
use Rattle.read_client.specs.{TlsClientHelloContents}
use Rattle.read_others.specs.declared.retry.TlsHelloRetryRequestContents.{TlsHelloRetryRequestContents}
use Rattle.read_server.specs.{TlsServerHelloContents, TlsServerHelloV13Draft18Contents}
use Rattle.message.specs.{TlsMessageHandshake, WrittenBody, no_body, client_body, server_body, draft18_body, exchange_body, finished_body, body_written}
use Rattle.norrabist_c.specs.Parts.{opt_told}
use Rattle.norrabist_c.specs.declared.{hellos.ClientHelloTold.ClientHelloTold, hellos.ServerHelloTold.ServerHelloTold, hellos.HelloRetryRequestTold.HelloRetryRequestTold}

abbrev pub client_told : Answer TlsClientHelloContents → ClientHelloTold
client_told (accepted c) =
    record {
      version = c.version;
      ciphers = c.ciphers.len;
      ext = (opt_told c.ext).len;
      comp = c.comp.len;
      session_id = (opt_told c.session_id).len;
      has_ext = (opt_told c.ext).present;
      number = 0;
    }
client_told (refused r) =
    record {
      version = 0;
      ciphers = 0;
      ext = 0;
      comp = 0;
      session_id = 0;
      has_ext = false;
      number = number_of r.reason;
    }

-- the lengths of a ClientHello fit the widths in which they are told, as those of every hello do
-- that was read
pub record ClientFits (c : TlsClientHelloContents) : Type 0 where
  pub ciphers : c.ciphers.len < 65536
  pub comp : c.comp.len < 256
  pub id : (opt_told c.session_id).len < 256
  pub ext : (opt_told c.ext).len < 65536

abbrev pub not_told : ServerHelloTold
not_told = record { version = 0; cipher = 0; ext = 0; compression = 0; session_id = 0; has_ext = false; number = 0 }

abbrev pub server_told : Answer TlsServerHelloContents → ServerHelloTold
server_told (accepted c) =
    record {
      version = c.version;
      cipher = c.cipher;
      ext = (opt_told c.ext).len;
      compression = c.compression;
      session_id = (opt_told c.session_id).len;
      has_ext = (opt_told c.ext).present;
      number = 0;
    }
server_told (refused r) =
    record {
      version = 0;
      cipher = 0;
      ext = 0;
      compression = 0;
      session_id = 0;
      has_ext = false;
      number = number_of r.reason;
    }

-- that of draft 18 has neither id nor method
abbrev pub draft18_told : Answer TlsServerHelloV13Draft18Contents → ServerHelloTold
draft18_told (accepted c) =
    record {
      version = c.version;
      cipher = c.cipher;
      ext = (opt_told c.ext).len;
      compression = 0;
      session_id = 0;
      has_ext = (opt_told c.ext).present;
      number = 0;
    }
draft18_told (refused r) = server_told (refused r)

abbrev pub retry_told : Answer TlsHelloRetryRequestContents → HelloRetryRequestTold
retry_told (accepted c) =
    record {
      version = c.version;
      cipher = c.cipher;
      ext = (opt_told c.ext).len;
      has_ext = (opt_told c.ext).present;
      number = 0;
    }
retry_told (refused r) = record { version = 0; cipher = 0; ext = 0; has_ext = false; number = number_of r.reason }

-- of a ServerHello's body as a message, one or the other: no message of another kind is one
abbrev pub hello_told : WrittenBody → ServerHelloTold
hello_told no_body = not_told
hello_told (client_body c) = not_told
hello_told (server_body c) = server_told (accepted c)
hello_told (draft18_body c) = draft18_told (accepted c)
hello_told (exchange_body k) = not_told
hello_told (finished_body v) = not_told

abbrev pub server_message_told : Answer TlsMessageHandshake → ServerHelloTold
server_message_told (accepted m) = if_some (body_written m) hello_told not_told
server_message_told (refused r) = server_told (refused r)
