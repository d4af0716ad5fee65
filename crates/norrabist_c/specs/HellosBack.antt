-- The told numbers are the whole value: RULES 1.7. Each part of a hello is where the lengths before
-- it say, so that a caller makes the value of them alone. Shown by `proofs/HellosBack.antt`.
use Rattle.std.specs.Prelude.{◌+◌, ◌≡◌}
use Rattle.refusal.specs.{ℕ, List, Bool, eqb, accepted}
use Rattle.registry.specs.Versions.{tls13_draft18}
use Rattle.wire.specs.{pick, OptView, None, Some}
use Rattle.grammar.specs.{reading, by_version}
use Rattle.grammar.specs.Forms.{absent_if_empty}
use Rattle.message.specs.{TlsMessageHandshake, ServerHello, ServerHelloV13Draft18}
use Rattle.open_hellos.specs.HelloMessages.{server_message}
use Rattle.read_client.specs.{client, strict_client, TlsClientHelloContents}
use Rattle.read_others.specs.Body.{retry}
use Rattle.read_others.specs.declared.retry.TlsHelloRetryRequestContents.{TlsHelloRetryRequestContents}
use Rattle.read_server.specs.{server_versions, draft18, TlsServerHelloContents, TlsServerHelloV13Draft18Contents}
use Rattle.norrabist_c.specs.Hellos.{client_told, draft18_told, retry_told, server_message_told, server_told}
use Rattle.norrabist_c.specs.declared.{hellos.ClientHelloTold.ClientHelloTold, hellos.ServerHelloTold.ServerHelloTold, hellos.HelloRetryRequestTold.HelloRetryRequestTold}

-- the extensions behind the last field, which ends at a place, and the tail
abbrev pub ext_from : Bool → ℕ → ℕ → OptView
ext_from present end len = pick present (Some (record { start = end + 2; len = len })) None

abbrev pub tail_from : Bool → ℕ → ℕ → ℕ
tail_from present end len = pick present (end + 2 + len) end

-- version 2, random 32, and an id, ciphers and methods behind their lengths
abbrev pub client_end : ClientHelloTold → ℕ
client_end t = 38 + t.session_id + t.ciphers + t.comp

abbrev pub client_from : ClientHelloTold → TlsClientHelloContents
client_from t = record {
  version = t.version;
  random = record { start = 2; len = 32 };
  session_id = absent_if_empty (record { start = 35; len = t.session_id });
  ciphers = record { start = 37 + t.session_id; len = t.ciphers };
  comp = record { start = 38 + t.session_id + t.ciphers; len = t.comp };
  ext = ext_from t.has_ext (client_end t) t.ext;
  tail = tail_from t.has_ext (client_end t) t.ext;
}

-- an id behind its length, a cipher and a method
abbrev pub server_from : ServerHelloTold → TlsServerHelloContents
server_from t = record {
  version = t.version;
  random = record { start = 2; len = 32 };
  session_id = absent_if_empty (record { start = 35; len = t.session_id });
  cipher = t.cipher;
  compression = t.compression;
  ext = ext_from t.has_ext (38 + t.session_id) t.ext;
  tail = tail_from t.has_ext (38 + t.session_id) t.ext;
}

abbrev pub draft18_from : ServerHelloTold → TlsServerHelloV13Draft18Contents
draft18_from t = record { version = t.version; random = record { start = 2; len = 32 }; cipher = t.cipher; ext = ext_from t.has_ext 36 t.ext; tail = tail_from t.has_ext 36 t.ext }

abbrev pub retry_from : HelloRetryRequestTold → TlsHelloRetryRequestContents
retry_from t = record { version = t.version; cipher = t.cipher; ext = ext_from t.has_ext 4 t.ext; tail = tail_from t.has_ext 4 t.ext }

-- of a message the version says which of the two it is
abbrev pub server_message_from : ServerHelloTold → TlsMessageHandshake
server_message_from t = pick (eqb t.version tls13_draft18) (ServerHelloV13Draft18 (draft18_from t)) (ServerHello (server_from t))

pub record HellosBack (s : List ℕ) : Type 0 where
  pub client_hello : (c : TlsClientHelloContents) → reading client s ≡ accepted c
      → c ≡ client_from (client_told (accepted c))
  pub strict_hello : (c : TlsClientHelloContents) → strict_client s ≡ accepted c
      → c ≡ client_from (client_told (accepted c))
  pub server_hello : (c : TlsServerHelloContents) → by_version server_versions s ≡ accepted c
      → c ≡ server_from (server_told (accepted c))
  pub draft18_hello : (c : TlsServerHelloV13Draft18Contents) → reading draft18 s ≡ accepted c
      → c ≡ draft18_from (draft18_told (accepted c))
  pub retry_request : (c : TlsHelloRetryRequestContents) → reading retry s ≡ accepted c
      → c ≡ retry_from (retry_told (accepted c))
  pub message : (m : TlsMessageHandshake) → server_message s ≡ accepted m
      → m ≡ server_message_from (server_message_told (accepted m))
