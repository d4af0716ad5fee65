-- What a message adds to the tally of hellos, and what a turn of the walk does. Assumes nothing.
use Prim.Native.Nat.{ℕ, ◌+◌, ◌≤◌}
use mathlib.Core.Path.{◌≡◌, refl, sym, ap, ap₂, ◌∙◌}
use mathlib.Core.Bool.{Bool, true, false}
use mathlib.Core.Logic.{◌⊎◌, inl, inr}
use mathlib.Core.List.{List}
use native.Mathlib.Omega.{arith}
use lib.ListN.{length}
use lib.Dec.{eqb, ltb}
use Rattle.std.specs.Prelude.{Some, None}
use Rattle.refusal.specs.Answers.{Answer, accepted, refused}
use Rattle.refusal.specs.declared.Refusal.{Refusal}
use Rattle.refusal.proofs.Then.{not_both, then_accepted, then_refused}
use Rattle.wire.specs.Parts.{pick, OptView}
use Rattle.read_server.specs.declared.tlsv12.TlsServerHelloContents.{TlsServerHelloContents}
use Rattle.list.specs.Items.{or_no_such}
use Rattle.list.proofs.Walk.{got, none, rest_on}
use Rattle.message.specs.declared.handshake.TlsMessageHandshake.{TlsMessageHandshake}
use Rattle.message.specs.declared.handshake.TlsMessageHandshake.TheVariants.{HelloRequest, ClientHello, ServerHello}
use Rattle.message.specs.declared.handshake.TlsMessageHandshake.TheVariants.{ServerHelloV13Draft18, HelloRetryRequest}
use Rattle.message.specs.declared.handshake.TlsMessageHandshake.TheVariants.{NewSessionTicket, EndOfEarlyData, Certificate}
use Rattle.message.specs.declared.handshake.TlsMessageHandshake.TheVariants.{ServerKeyExchange, CertificateRequest, ServerDone}
use Rattle.message.specs.declared.handshake.TlsMessageHandshake.TheVariants.{CertificateVerify, ClientKeyExchange, Finished}
use Rattle.message.specs.declared.handshake.TlsMessageHandshake.TheVariants.{CertificateStatus, NextProtocol, KeyUpdate}
use Rattle.envelope.specs.Opening.{Met, met_at}
use Rattle.record_walk.specs.Walks.{next_message, moved}
use Rattle.record_walk.specs.declared.TlsHandshakeWalk.{TlsHandshakeWalk}
use Rattle.record_walk.proofs.Walking.{left, by_messages}
use Rattle.record_tally.specs.Tally.{cut_off, server_cut, tally, count_of, met_count}
use Rattle.record_tally.specs.Tally.{clients_of, servers_of, cut_of}
use Rattle.record_tally.specs.declared.HelloTally.{HelloTally}

-- a tally is its three numbers
pub of_each : (t : HelloTally) {n m k : ℕ} → t.clients ≡ n → t.servers ≡ m → t.cut ≡ k → t ≡ tally n m k
of_each t a b c = rw (← a, ← b, ← c)

-- one at most
abbrev One : HelloTally → Type 0
One t = (t.clients ≤ 1) × (t.servers ≤ 1) × (t.cut ≤ 1)

cut_one : (e : OptView) (tail len : ℕ) → cut_off e tail len ≤ 1
unfolding cut_off
cut_one None tail len = go (ltb tail len)
  where
    go : (t : Bool) → pick t 1 0 ≤ 1
    go true = omega arith
    go false = omega arith
cut_one (Some v) tail len = omega arith

server_one : (c : TlsServerHelloContents) (len : ℕ) → server_cut c len ≤ 1
unfolding server_cut
server_one c len = go (eqb c.version 0x0300)
  where
    go : (t : Bool) → pick t 0 (cut_off c.ext c.tail len) ≤ 1
    go true = omega arith
    go false = cut_one c.ext c.tail len

none_each : One (tally 0 0 0)
none_each = (omega arith, omega arith, omega arith)

pub one_each : (m : TlsMessageHandshake) (len : ℕ) → One (count_of m len)
unfolding count_of
one_each HelloRequest len = none_each
one_each (ClientHello c) len = (omega arith, omega arith, cut_one c.ext c.tail len)
one_each (ServerHello c) len = (omega arith, omega arith, server_one c len)
one_each (ServerHelloV13Draft18 c) len = (omega arith, omega arith, cut_one c.ext c.tail len)
one_each (NewSessionTicket c) len = none_each
one_each EndOfEarlyData len = none_each
one_each (HelloRetryRequest c) len = (omega arith, omega arith, cut_one c.ext c.tail len)
one_each (Certificate c) len = none_each
one_each (ServerKeyExchange c) len = none_each
one_each (CertificateRequest c) len = none_each
one_each (ServerDone v) len = none_each
one_each (CertificateVerify v) len = none_each
one_each (ClientKeyExchange e) len = none_each
one_each (Finished v) len = none_each
one_each (CertificateStatus c) len = none_each
one_each (NextProtocol c) len = none_each
one_each (KeyUpdate n) len = none_each

-- a turn of the walk: what is added, and what the messages that are left add
pub record Turn (s : List ℕ) (w v : TlsHandshakeWalk) (t : HelloTally) : Type 0 where
  pub on : w.next + 1 ≤ v.next
  pub inside : v.next ≤ length s
  pub one : One t
  pub clients : clients_of (left s w.next) ≡ t.clients + clients_of (left s v.next)
  pub servers : servers_of (left s w.next) ≡ t.servers + servers_of (left s v.next)
  pub cut : cut_of (left s w.next) ≡ t.cut + cut_of (left s v.next)

-- the same by the message that was met where the walk stands
met_turn : (s : List ℕ) (w : TlsHandshakeWalk) {x : Met} → met_at s w.next ≡ accepted x
    → Turn s w (record { body = x.head.body; next = x.head.next }) (met_count x)
met_turn s w {x} e =
    let i = (by_messages s).on w.next x e in
    let l = rest_on (by_messages s) w.next e in
    record {
      on = i.0;
      inside = i.1;
      one = one_each x.says x.head.body.len;
      clients = ap clients_of l;
      servers = ap servers_of l;
      cut = ap cut_of l;
    }

moved_on : (s : List ℕ) (w : TlsHandshakeWalk) {x : Met} → met_at s w.next ≡ accepted x
    → moved s w ≡ record { body = x.head.body; next = x.head.next }
unfolding moved
moved_on s w e = rw e

-- and by the message that the walk hands out, and the walk moved on
pub walk_turn : (s : List ℕ) (w : TlsHandshakeWalk) {m : TlsMessageHandshake} {v : TlsHandshakeWalk} {t : HelloTally}
    → next_message s w ≡ accepted m → v ≡ moved s w → t ≡ count_of m v.body.len → Turn s w v t
unfolding next_message
walk_turn s w {m} {v} {t} e d q =
    let a = then_accepted (or_no_such (met_at s w.next)) (λ x. accepted x.says) e in
    let g = got (met_at s w.next) a.1 in
    let b : a.0.says ≡ m = cc a.2 in
    let h = d ∙ moved_on s w g in
    let k : t ≡ met_count a.0 = q ∙ ap₂ count_of (sym b) (ap (λ (u : TlsHandshakeWalk). u.body.len) h) in
    rw (h, k) (met_turn s w g)

-- where it hands out none, none is met
pub walk_end : (s : List ℕ) (w : TlsHandshakeWalk) {r : Refusal} → next_message s w ≡ refused r → (y : Refusal)
    × (met_at s w.next ≡ refused y)
unfolding next_message
walk_end s w {r} e = go (then_refused (or_no_such (met_at s w.next)) (λ x. accepted x.says) e)
  where
    go : (or_no_such (met_at s w.next) ≡ refused r) ⊎
        ((x : Met) × (or_no_such (met_at s w.next) ≡ accepted x)
        × (◌≡◌ {A = Answer TlsMessageHandshake} (accepted x.says) (refused r))) → (y : Refusal)
        × (met_at s w.next ≡ refused y)
    go (inl z) = let n = none (met_at s w.next) z in (n.0, n.1)
    go (inr (x, y, z)) = absurd (not_both refl z)
