-- The kinds that are written, and those that are not: what holds of the one and of the other holds
-- of every message. Assumes nothing.
use Prim.Native.Nat.{ℕ}
use mathlib.Core.Path.{◌≡◌, refl}
use mathlib.Core.Option.{none, some}
use mathlib.Core.Bool.{false}
use lib.Dec.{eqb}
use Rattle.message.specs.Messages.{kind_number, WrittenBody, no_body, client_body, server_body, draft18_body}
use Rattle.message.specs.Messages.{exchange_body, finished_body, body_written}
use Rattle.message.specs.declared.handshake.TlsMessageHandshake.{TlsMessageHandshake}
use Rattle.message.specs.declared.handshake.TlsMessageHandshake.TheVariants.{HelloRequest, ClientHello}
use Rattle.message.specs.declared.handshake.TlsMessageHandshake.TheVariants.{ServerHello, ServerHelloV13Draft18}
use Rattle.message.specs.declared.handshake.TlsMessageHandshake.TheVariants.{NewSessionTicket, EndOfEarlyData}
use Rattle.message.specs.declared.handshake.TlsMessageHandshake.TheVariants.{HelloRetryRequest, Certificate}
use Rattle.message.specs.declared.handshake.TlsMessageHandshake.TheVariants.{ServerKeyExchange}
use Rattle.message.specs.declared.handshake.TlsMessageHandshake.TheVariants.{CertificateRequest, ServerDone}
use Rattle.message.specs.declared.handshake.TlsMessageHandshake.TheVariants.{CertificateVerify}
use Rattle.message.specs.declared.handshake.TlsMessageHandshake.TheVariants.{ClientKeyExchange, Finished}
use Rattle.message.specs.declared.handshake.TlsMessageHandshake.TheVariants.{CertificateStatus, NextProtocol}
use Rattle.message.specs.declared.handshake.TlsMessageHandshake.TheVariants.{KeyUpdate}

-- the message that is written of a body
abbrev pub message_of : WrittenBody → TlsMessageHandshake
message_of no_body = HelloRequest
message_of (client_body c) = ClientHello c
message_of (server_body c) = ServerHello c
message_of (draft18_body c) = ServerHelloV13Draft18 c
message_of (exchange_body k) = ClientKeyExchange k
message_of (finished_body v) = Finished v

pub written_is : (b : WrittenBody) → body_written (message_of b) ≡ some b
written_is no_body = refl
written_is (client_body c) = refl
written_is (server_body c) = refl
written_is (draft18_body c) = refl
written_is (exchange_body k) = refl
written_is (finished_body v) = refl

-- a kind that is not written has none of the numbers of those that are
abbrev pub Apart : ℕ → Type 0
Apart k =
    (eqb k 0x00 ≡ false) × (eqb k 0x01 ≡ false) × (eqb k 0x02 ≡ false)
    × (eqb k 0x10 ≡ false) × (eqb k 0x14 ≡ false) × (eqb k 0x7f12 ≡ false)

-- so what holds of both holds of every message
pub by_written : (P : TlsMessageHandshake → Type 0) → ((b : WrittenBody) → P (message_of b))
    → ((m : TlsMessageHandshake) → body_written m ≡ none → Apart (kind_number m) → P m) → (m : TlsMessageHandshake) → P m
by_written P f g HelloRequest = f no_body
by_written P f g (ClientHello c) = f (client_body c)
by_written P f g (ServerHello c) = f (server_body c)
by_written P f g (ServerHelloV13Draft18 c) = f (draft18_body c)
by_written P f g (NewSessionTicket c) = g (NewSessionTicket c) refl (refl, refl, refl, refl, refl, refl)
by_written P f g EndOfEarlyData = g EndOfEarlyData refl (refl, refl, refl, refl, refl, refl)
by_written P f g (HelloRetryRequest c) = g (HelloRetryRequest c) refl (refl, refl, refl, refl, refl, refl)
by_written P f g (Certificate c) = g (Certificate c) refl (refl, refl, refl, refl, refl, refl)
by_written P f g (ServerKeyExchange c) = g (ServerKeyExchange c) refl (refl, refl, refl, refl, refl, refl)
by_written P f g (CertificateRequest c) = g (CertificateRequest c) refl (refl, refl, refl, refl, refl, refl)
by_written P f g (ServerDone v) = g (ServerDone v) refl (refl, refl, refl, refl, refl, refl)
by_written P f g (CertificateVerify v) = g (CertificateVerify v) refl (refl, refl, refl, refl, refl, refl)
by_written P f g (ClientKeyExchange k) = f (exchange_body k)
by_written P f g (Finished v) = f (finished_body v)
by_written P f g (CertificateStatus c) = g (CertificateStatus c) refl (refl, refl, refl, refl, refl, refl)
by_written P f g (NextProtocol c) = g (NextProtocol c) refl (refl, refl, refl, refl, refl, refl)
by_written P f g (KeyUpdate n) = g (KeyUpdate n) refl (refl, refl, refl, refl, refl, refl)
