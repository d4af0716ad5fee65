-- Demand 3, its reading half, of the ServerHellos as messages. Assumes nothing.
use Prim.Native.Nat.{ℕ}
use mathlib.Core.Path.{◌≡◌, refl, ◌∙◌}
use mathlib.Core.Logic.{◌⊎◌, inl, inr}
use mathlib.Core.Bool.{Bool, true, false}
use mathlib.Core.List.{List}
use native.Mathlib.Omega.{arith}
use borrow.Author.Tests.{eqb-true}
use lib.Dec.{eqb}
use Rattle.refusal.specs.Answers.{accepted, refused, giving}
use Rattle.refusal.specs.Refusals.{refusal}
use Rattle.refusal.specs.declared.Reason.TheVariants.{Incomplete, Tag}
use Rattle.refusal.specs.declared.Refusal.{Refusal}
use Rattle.refusal.proofs.Then.{either}
use Rattle.wire.specs.Numbers.{be, number_at}
use Rattle.wire.specs.declared.number.Number.{Number}
use Rattle.wire.proofs.Parts.{part_in}
use Rattle.wire.proofs.Numbers.{number_got, number_is}
use Rattle.grammar.specs.Forms.{reading, by_version}
use Rattle.grammar.proofs.Versions.{decided}
use Rattle.read_server.specs.Server.{server_versions, draft18}
use Rattle.message.specs.declared.handshake.TlsMessageHandshake.TheVariants.{ServerHello, ServerHelloV13Draft18}
use Rattle.open_hellos.specs.HelloMessages.{server_message, IsDraft18, AsMessage}

at_draft18 : (s : List ℕ) → IsDraft18 s
    → (server_message s ≡ giving (λ c. ServerHelloV13Draft18 c) (reading draft18 s))
    × (by_version server_versions s ≡ refused (refusal Tag 0 0))
unfolding server_message
at_draft18 s (h, v) =
    (rw (number_got 2 s 0 (part_in Incomplete s 0 2 (omega arith)), v), decided server_versions s h ∙ rw v)

abbrev AsServer : List ℕ → Type 0
AsServer s = server_message s ≡ giving (λ c. ServerHello c) (by_version server_versions s)

without : (s : List ℕ) {r : Refusal} → number_at 2 s 0 ≡ refused r → AsServer s
unfolding server_message by_version
without s e = rw e

with_version : (s : List ℕ) {v : Number} → number_at 2 s 0 ≡ accepted v → (IsDraft18 s → ⊥) → AsServer s
unfolding server_message
with_version s {v} e not = go (eqb (be 2 s 0) 0x7f12) refl
  where
    go : (t : Bool) → eqb (be 2 s 0) 0x7f12 ≡ t → AsServer s
    go true q = absurd (not (omega (arith, (number_is 2 s 0 e).inside), eqb-true (be 2 s 0) 0x7f12 q))
    go false q = rw (e, (number_is 2 s 0 e).is, q)

at_others : (s : List ℕ) → (IsDraft18 s → ⊥) → AsServer s
at_others s not = go (either (number_at 2 s 0))
  where
    go : ((v : Number) × (number_at 2 s 0 ≡ accepted v)) ⊎ ((r : Refusal) × (number_at 2 s 0 ≡ refused r)) → AsServer s
    go (inl (v, e)) = with_version s e not
    go (inr (r, e)) = without s e

pub demand3 : (body : List ℕ) → AsMessage body
demand3 s = record { draft18_hello = at_draft18 s; server_hello = at_others s }
