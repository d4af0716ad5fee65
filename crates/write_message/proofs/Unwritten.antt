-- The kinds that are not written, told by the number that the code has for each. Assumes nothing.
use Prim.Native.Nat.{ℕ}
use mathlib.Core.Path.{◌≡◌}
use mathlib.Core.Option.{none}
use mathlib.Core.List.{List, [], ◌∷◌}
use types.Run.{OneOf, miss}
use denote.Enum.Declared.{tag_of}
use Rattle.message.specs.Messages.{WrittenBody, no_body, client_body, server_body, draft18_body, exchange_body}
use Rattle.message.specs.Messages.{finished_body, body_written, not_written_of}
use Rattle.message.specs.declared.handshake.TlsMessageHandshake.{TlsMessageHandshake}
use Rattle.message.specs.contracts.handshake.TlsMessageHandshake.{the_type}
use Rattle.message.proofs.Written.{message_of, by_written}
use Rattle.write_message.specs.Written.{handshake_text}

-- the numbers of those kinds
abbrev numbers : List ℕ
numbers = 4 ∷ 5 ∷ 6 ∷ 7 ∷ 8 ∷ 9 ∷ 10 ∷ 11 ∷ 14 ∷ 15 ∷ 16 ∷ []

-- none of them is the number of a kind that is written
no_number : (b : WrittenBody) → OneOf numbers (tag_of the_type (message_of b)) → ⊥
no_number no_body = miss numbers 0 tt
no_number (client_body c) = miss numbers 1 tt
no_number (server_body c) = miss numbers 2 tt
no_number (draft18_body c) = miss numbers 3 tt
no_number (exchange_body k) = miss numbers 12 tt
no_number (finished_body v) = miss numbers 13 tt

none_text : (s : List ℕ) (m : TlsMessageHandshake) → body_written m ≡ none → handshake_text s m ≡ not_written_of
unfolding handshake_text
none_text s m e = rw e

pub others : (s : List ℕ) (m : TlsMessageHandshake) → OneOf numbers (tag_of the_type m) → handshake_text s m ≡ not_written_of
others s =
    by_written (λ m. OneOf numbers (tag_of the_type m) → handshake_text s m ≡ not_written_of)
    (λ b e. absurd (no_number b e))
    (λ m e a k. none_text s m e)
