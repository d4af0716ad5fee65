-- What is written of slices is what is written of a message whose parts they are. Assumes nothing.
use Prim.Native.Nat.{ℕ}
use mathlib.Core.Path.{◌≡◌, refl}
use mathlib.Core.List.{List}
use mathlib.Core.Bool.{true, false}
use mathlib.Core.Option.{some}
use native.Mathlib.Omega.{arith}
use Rattle.refusal.specs.Answers.{refused}
use Rattle.refusal.specs.Refusals.{unplaced, number_of}
use Rattle.refusal.specs.declared.Reason.TheVariants.{BadLength, NotYetImplemented}
use Rattle.wire.specs.Parts.{part_of, if_some}
use Rattle.read_client.specs.Client.{client}
use Rattle.read_server.specs.Server.{server, draft18}
use Rattle.message.specs.Messages.{kind_number, WrittenBody, no_body, client_body, server_body, draft18_body, exchange_body}
use Rattle.message.specs.Messages.{finished_body, body_written}
use Rattle.message.specs.declared.handshake.TlsMessageHandshake.{TlsMessageHandshake}
use Rattle.message.specs.declared.keyexchange.TlsClientKeyExchangeContents.TheVariants.{Unknown, Dh, Ecdh}
use Rattle.message.proofs.Written.{message_of, written_is, by_written}
use Rattle.write_rules.specs.MessageTexts.{message_text, sized_text}
use Rattle.write_rules.proofs.Hellos.{hello_parts, hello_outside}
use Rattle.write_others.proofs.Parts.{view_in, view_out}
use Rattle.write_message.specs.Written.{handshake_text}
use Rattle.norrabist_c.specs.Writers.{kind_told}
use Rattle.norrabist_c.specs.Slices.{parts_lie, slice_text, SlicesSame}

-- a kind is told by its number
kind_same : (m : TlsMessageHandshake)
    → kind_told (kind_number m) ≡ if_some (body_written m) (λ b. 0) (number_of NotYetImplemented)
kind_same =
    by_written (λ m. kind_told (kind_number m) ≡ if_some (body_written m) (λ b. 0) (number_of NotYetImplemented)) written
    (λ m e a. rw (e, a.0, a.1, a.2, a.3, a.4, a.5))
  where
    written : (b : WrittenBody)
        → kind_told (kind_number (message_of b))
        ≡ if_some (body_written (message_of b)) (λ b. 0) (number_of NotYetImplemented)
    written no_body = refl
    written (client_body c) = refl
    written (server_body c) = refl
    written (draft18_body c) = refl
    written (exchange_body k) = refl
    written (finished_body v) = refl

-- the text of the message that is written of a body, by its parts
module _ (s : List ℕ) where
  text_same : (b : WrittenBody) → parts_lie s b ≡ true → slice_text s b ≡ handshake_text s (message_of b)
  unfolding handshake_text sized_text
  text_same no_body l = refl
  text_same (client_body c) l = rw (hello_parts client s c l)
  text_same (server_body c) l = rw (hello_parts (server true) s c l)
  text_same (draft18_body c) l = rw (hello_parts draft18 s c l)
  text_same (exchange_body (Unknown v)) l = rw (view_in s v (part_of s v) refl l)
  text_same (exchange_body (Dh v)) l = rw (view_in s v (part_of s v) refl l)
  text_same (exchange_body (Ecdh v)) l = rw (view_in s v (part_of s v) refl l)
  text_same (finished_body v) l = rw (view_in s v (part_of s v) refl l)

  text_outside : (b : WrittenBody) → parts_lie s b ≡ false
      → handshake_text s (message_of b) ≡ refused (unplaced BadLength)
  unfolding handshake_text sized_text message_text
  text_outside no_body l = let z : ◌≡◌ {A = ℕ} 0 1 = cc in absurd (omega arith)
  text_outside (client_body c) l = rw (hello_outside client s c l)
  text_outside (server_body c) l = rw (hello_outside (server true) s c l)
  text_outside (draft18_body c) l = rw (hello_outside draft18 s c l)
  text_outside (exchange_body (Unknown v)) l = rw (view_out s v l)
  text_outside (exchange_body (Dh v)) l = rw (view_out s v l)
  text_outside (exchange_body (Ecdh v)) l = rw (view_out s v l)
  text_outside (finished_body v) l = rw (view_out s v l)

-- what holds of the message of every body holds of every message that is written of one
of_body_lem : (P : WrittenBody → TlsMessageHandshake → Type 0) → ((b : WrittenBody) → P b (message_of b))
    → (m : TlsMessageHandshake) (b : WrittenBody) → body_written m ≡ some b → P b m
of_body_lem P f =
    by_written (λ m. (b : WrittenBody) → body_written m ≡ some b → P b m)
    (λ x b e. let d : x ≡ b = cc (written_is x) in rw (← d) (f x))
    (λ m n a b e. let z : ◌≡◌ {A = ℕ} 0 1 = cc in absurd (omega arith))

pub slices_same_lem : SlicesSame
slices_same_lem =
    record {
      kinds = kind_same;
      texts = λ s m b e l. of_body_lem (λ b m. parts_lie s b ≡ true → slice_text s b ≡ handshake_text s m)
          (text_same s) m b e l;
      outside = λ s m b e l.
          of_body_lem (λ b m. parts_lie s b ≡ false → handshake_text s m ≡ refused (unplaced BadLength))
          (text_outside s) m b e l;
    }
