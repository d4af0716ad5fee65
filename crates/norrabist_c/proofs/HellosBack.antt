-- A hello is the value of the numbers told of it: its pieces lie one behind the other. Assumes
-- nothing.
use Prim.Native.Nat.{ℕ, ◌+◌}
use mathlib.Core.Path.{◌≡◌, refl, sym, ap, ◌∙◌}
use mathlib.Core.Bool.{Bool, true, false}
use mathlib.Core.List.{List}
use mathlib.Core.Option.{Option, none, some}
use native.Mathlib.Omega.{arith}
use borrow.Author.Tests.{eqb-true}
use lib.Dec.{eqb}
use lib.ListN.{length, length-append}
use mathlib.Core.List.{◌++◌}
use Rattle.refusal.specs.Answers.{accepted, giving}
use Rattle.refusal.proofs.Then.{then_accepted}
use Rattle.registry.specs.Versions.{tls13_draft18}
use Rattle.message.specs.declared.handshake.TlsMessageHandshake.{TlsMessageHandshake}
use Rattle.message.specs.declared.handshake.TlsMessageHandshake.TheVariants.{ServerHello, ServerHelloV13Draft18}
use Rattle.open_hellos.specs.HelloMessages.{server_message}
use Rattle.wire.proofs.Numbers.{length_bytes, number_value}
use Rattle.wire.specs.Numbers.{Bytes, be, bytes_of, number_at}
use Rattle.wire.specs.Parts.{pick, OptView}
use Rattle.wire.specs.declared.view.View.{View}
use Rattle.grammar.specs.Hellos.{extensions}
use Rattle.grammar.specs.Forms.{Form, absent_if_empty, by_version, reading, value_of, pieces}
use Rattle.grammar.specs.Demand3.{BySplit}
use Rattle.grammar.specs.Splits.{Pieces, AllObey, block_bytes, block_view, handed_of, join, views_of}
use Rattle.read_client.specs.Client.{client}
use Rattle.read_client.specs.declared.TlsClientHelloContents.{TlsClientHelloContents}
use Rattle.read_client.proofs.Whole as clients
use Rattle.read_client.proofs.Strict.{strict_demand3}
use Rattle.read_others.specs.Body.{retry}
use Rattle.read_others.specs.declared.retry.TlsHelloRetryRequestContents.{TlsHelloRetryRequestContents}
use Rattle.read_others.proofs.Whole as others
use Rattle.read_server.specs.Server.{server, draft18, server_versions}
use Rattle.read_server.specs.declared.tlsv12.TlsServerHelloContents.{TlsServerHelloContents}
use Rattle.read_server.specs.declared.tlsv13draft18.TlsServerHelloV13Draft18Contents.{TlsServerHelloV13Draft18Contents}
use Rattle.read_server.proofs.Whole as servers
use Rattle.norrabist_c.specs.Parts.{opt_told}
use Rattle.norrabist_c.specs.Hellos.{client_told, draft18_told, retry_told, server_message_told, server_told}
use Rattle.norrabist_c.specs.HellosBack.{HellosBack, client_from, draft18_from, ext_from, retry_from, server_from, server_message_from, tail_from}
use Rattle.grammar.proofs.Forms.{made_of}
use Rattle.norrabist_c.proofs.HelloLengths.{which}

-- a part that is absent where it is empty has the length that it would have
same_len : (v : View) → (opt_told (absent_if_empty v)).len ≡ v.len
same_len v = go (eqb v.len 0) refl
  where
    go : (y : Bool) → eqb v.len 0 ≡ y → (opt_told (absent_if_empty v)).len ≡ v.len
    go true q = rw q (sym (eqb-true v.len 0 q))
    go false q = rw q

-- the bytes of a vector are its length's and its own
pub vector_len : (w : ℕ) (p : List ℕ) → length (bytes_of w (length p) ++ p) ≡ w + length p
vector_len w p = length-append (bytes_of w (length p)) p ∙ ap (λ (n : ℕ). n + length p) (length_bytes w (length p))

pub same_view : {a b m n : ℕ} → a ≡ b → m ≡ n → ◌≡◌ {A = View} (record { start = a; len = m })
    (record { start = b; len = n })
same_view p q = rw (p, q)

-- the block and the tail behind fields that end at a place
module _ (n : ℕ) where
  block_ext : {m : ℕ} → n ≡ m → (o : Option (List ℕ))
      → block_view (some extensions) n o ≡ ext_from (opt_told (block_view (some extensions) n o)).present m
      (opt_told (block_view (some extensions) n o)).len
  block_ext e none = refl
  block_ext e (some p) = rw e

  block_tail : {m : ℕ} → n ≡ m → (o : Option (List ℕ))
      → n + length (block_bytes (some extensions) o) ≡ tail_from
      (opt_told (block_view (some extensions) n o)).present m (opt_told (block_view (some extensions) n o)).len
  block_tail e none = omega (arith, e)
  block_tail e (some p) = omega (arith, e, vector_len 2 p)

same_draft18 : (v c : ℕ) {r r' : View} {e e' : OptView} {t t' : ℕ} → r ≡ r' → e ≡ e' → t ≡ t'
    → ◌≡◌ {A = TlsServerHelloV13Draft18Contents} (record { version = v; random = r; cipher = c; ext = e; tail = t })
    (record { version = v; random = r'; cipher = c; ext = e'; tail = t' })
same_draft18 v c p q r = rw (p, q, r)

same_retry : (v c : ℕ) {e e' : OptView} {t t' : ℕ} → e ≡ e' → t ≡ t'
    → ◌≡◌ {A = TlsHelloRetryRequestContents} (record { version = v; cipher = c; ext = e; tail = t })
    (record { version = v; cipher = c; ext = e'; tail = t' })
same_retry v c p q = rw (p, q)

abbrev client_made : ℕ → View → OptView → View → View → OptView → ℕ → TlsClientHelloContents
client_made v r id cs ms e t = record {
  version = v;
  random = r;
  session_id = id;
  ciphers = cs;
  comp = ms;
  ext =
      e;
  tail = t;
}

same_client : (v : ℕ) {r r' : View} {id id' : OptView} {cs cs' ms ms' : View} {e e' : OptView} {t t' : ℕ} → r ≡ r'
    → id ≡ id'
    → cs ≡ cs' → ms ≡ ms' → e ≡ e' → t ≡ t' → client_made v r id cs ms e t ≡ client_made v r' id' cs' ms' e' t'
same_client v p q r s t u = rw (p, q, r, s, t, u)

client_value : (s : List ℕ) (x : Pieces client.grammar) → AllObey client.grammar.rows x.parts
    → value_of client s (handed_of client.grammar x) ≡ client_from
    (client_told (accepted (value_of client s (handed_of client.grammar x))))
unfolding views_of join
client_value s x o =
    let p = x.parts in
    let id = vector_len 1 p.1.1.0 in
    let cs = vector_len 2 p.1.1.1.0 in
    let ms = vector_len 1 p.1.1.1.1.0 in
    let l = same_len (handed_of client.grammar x).views.1.1.0 in
    let j : length (join client.grammar.rows p)
    ≡ 38 + length p.1.1.0 + length p.1.1.1.0 + length p.1.1.1.1.0 =
    simp (length-append, length_bytes) (omega (arith, o.0, o.1.0)) in
    same_client _
    (same_view (omega (arith, o.0)) o.1.0)
    (ap absent_if_empty (same_view (omega (arith, o.0, o.1.0)) (sym l)))
    (same_view (omega (arith, o.0, o.1.0, id, l)) refl)
    (same_view (omega (arith, o.0, o.1.0, id, cs, l)) refl)
    (block_ext (length (join client.grammar.rows p)) (omega (arith, j, l)) x.block)
    (block_tail (length (join client.grammar.rows p)) (omega (arith, j, l)) x.block)

abbrev server_made : ℕ → View → OptView → ℕ → ℕ → OptView → ℕ → TlsServerHelloContents
server_made v r id c m e t = record {
  version = v;
  random = r;
  session_id = id;
  cipher = c;
  compression = m;
  ext =
      e;
  tail = t;
}

same_server : (v c m : ℕ) {r r' : View} {id id' : OptView} {e e' : OptView} {t t' : ℕ} → r ≡ r' → id ≡ id' → e ≡ e'
    → t ≡ t'
    → server_made v r id c m e t ≡ server_made v r' id' c m e' t'
same_server v c m p q r s = rw (p, q, r, s)

server_value : (b : Bool) (s : List ℕ) (x : Pieces (server b).grammar) → AllObey (server b).grammar.rows x.parts
    → value_of (server b) s (handed_of (server b).grammar x) ≡ server_from
    (server_told (accepted (value_of (server b) s (handed_of (server b).grammar x))))
unfolding views_of join
server_value true s x o =
    let p = x.parts in
    let l = same_len (handed_of (server true).grammar x).views.1.1.0 in
    let j : length (join (server true).grammar.rows p) ≡ 38 + length p.1.1.0 =
    simp (length-append, length_bytes) (omega (arith, o.0, o.1.0, o.1.1.1.0, o.1.1.1.1.0)) in
    same_server _ _ _
    (same_view (omega (arith, o.0)) o.1.0)
    (ap absent_if_empty (same_view (omega (arith, o.0, o.1.0)) (sym l)))
    (block_ext (length (join (server true).grammar.rows p)) (omega (arith, j, l)) x.block)
    (block_tail (length (join (server true).grammar.rows p)) (omega (arith, j, l)) x.block)
server_value false s x o =
    let p = x.parts in
    let l = same_len (handed_of (server false).grammar x).views.1.1.0 in
    let j : length (join (server false).grammar.rows p) ≡ 38 + length p.1.1.0 =
    simp (length-append, length_bytes) (omega (arith, o.0, o.1.0, o.1.1.1.0, o.1.1.1.1.0)) in
    same_server _ _ _
    (same_view (omega (arith, o.0)) o.1.0)
    (ap absent_if_empty (same_view (omega (arith, o.0, o.1.0)) (sym l)))
    refl
    (omega (arith, j, l))

draft18_value : (s : List ℕ) (x : Pieces draft18.grammar) → AllObey draft18.grammar.rows x.parts
    → value_of draft18 s (handed_of draft18.grammar x) ≡ draft18_from
    (draft18_told (accepted (value_of draft18 s (handed_of draft18.grammar x))))
unfolding views_of join
draft18_value s x o =
    let p = x.parts in
    let j : length (join draft18.grammar.rows p) ≡ 36 = simp length-append
    (omega (arith, o.0, o.1.0, o.1.1.0)) in
    same_draft18 _ _
    (same_view (omega (arith, o.0)) o.1.0)
    (block_ext (length (join draft18.grammar.rows p)) j x.block)
    (block_tail (length (join draft18.grammar.rows p)) j x.block)

retry_value : (s : List ℕ) (x : Pieces retry.grammar) → AllObey retry.grammar.rows x.parts
    → value_of retry s (handed_of retry.grammar x) ≡ retry_from
    (retry_told (accepted (value_of retry s (handed_of retry.grammar x))))
unfolding views_of join
retry_value s x o =
    let p = x.parts in
    let j : length (join retry.grammar.rows p) ≡ 4 = simp length-append (omega (arith, o.0, o.1.0)) in
    same_retry _ _
    (block_ext (length (join retry.grammar.rows p)) j x.block)
    (block_tail (length (join retry.grammar.rows p)) j x.block)

-- what holds of the value made of a body's pieces holds of the one that was read
pub of_pieces : {C : Type 0} {k : Form C} {s : List ℕ} {c : C} (P : C → Type 0) → BySplit k s → reading k s ≡ accepted c
    → ((x : Pieces k.grammar) → AllObey k.grammar.rows x.parts
    → P (value_of k s (handed_of k.grammar x))) → P c
of_pieces {C} {k} {s} {c} P d e h = rw (made_of d e) (h (pieces k s c) (d.splits c e).obey)

module _ (s : List ℕ) (b : Bytes s) where
  client_back : (c : TlsClientHelloContents) → reading client s ≡ accepted c → c ≡ client_from (client_told (accepted c))
  client_back c e = of_pieces (λ c. c ≡ client_from (client_told (accepted c))) (clients.demand3 s b) e (client_value s)

  server_back : (c : TlsServerHelloContents) → by_version server_versions s ≡ accepted c → c
      ≡ server_from (server_told (accepted c))
  server_back c e =
      let w = which s b e in
      of_pieces (λ c. c ≡ server_from (server_told (accepted c))) (servers.demand3 w.0 s b) w.1
      (server_value w.0 s)

  draft18_back : (c : TlsServerHelloV13Draft18Contents) → reading draft18 s ≡ accepted c → c
      ≡ draft18_from (draft18_told (accepted c))
  draft18_back c e =
      of_pieces (λ c. c ≡ draft18_from (draft18_told (accepted c))) (servers.demand3_draft18 s b) e (draft18_value s)

  retry_back : (c : TlsHelloRetryRequestContents) → reading retry s ≡ accepted c → c
      ≡ retry_from (retry_told (accepted c))
  retry_back c e = of_pieces (λ c. c ≡ retry_from (retry_told (accepted c))) (others.splits_retry_lem s b) e (retry_value s)

  -- the version is the body's first number
  server_version : {c : TlsServerHelloContents} → by_version server_versions s ≡ accepted c → c.version ≡ be 2 s 0
  unfolding views_of
  server_version e =
      let w = which s b e in
      of_pieces (λ (c : TlsServerHelloContents). c.version ≡ be 2 s 0) (servers.demand3 w.0 s b) w.1
      (λ x o. refl)

  draft18_version : {c : TlsServerHelloV13Draft18Contents} → reading draft18 s ≡ accepted c → c.version ≡ be 2 s 0
  unfolding views_of
  draft18_version e =
      of_pieces (λ (c : TlsServerHelloV13Draft18Contents). c.version ≡ be 2 s 0) (servers.demand3_draft18 s b) e
      (λ x o. refl)

  message_back : (m : TlsMessageHandshake) → server_message s ≡ accepted m → m
      ≡ server_message_from (server_message_told (accepted m))
  unfolding server_message
  message_back m e =
      let t = then_accepted (number_at 2 s 0) (λ v. pick (eqb v.value tls13_draft18)
      (giving (λ c. ServerHelloV13Draft18 c) (reading draft18 s))
      (giving (λ c. ServerHello c) (by_version server_versions s))) e in
      go (eqb t.0.value tls13_draft18) refl (number_value 2 s 0 t.1) t.2
    where
      go : {v : ℕ} (y : Bool) → eqb v tls13_draft18 ≡ y → be 2 s 0 ≡ v
          → pick (eqb v tls13_draft18) (giving (λ c. ServerHelloV13Draft18 c) (reading draft18 s))
          (giving (λ c. ServerHello c) (by_version server_versions s)) ≡ accepted m
          → m ≡ server_message_from (server_message_told (accepted m))
      go {v} true q n p =
          let u = then_accepted (reading draft18 s) (λ c. accepted (ServerHelloV13Draft18 c)) (rw q at p) in
          let d : ServerHelloV13Draft18 u.0 ≡ m = cc u.2 in
          let z : eqb u.0.version tls13_draft18 ≡ true = rw (draft18_version u.1 ∙ n) q in
          rw (← d, z) (ap (λ (c : TlsServerHelloV13Draft18Contents). ServerHelloV13Draft18 c)
          (draft18_back u.0 u.1))
      go {v} false q n p =
          let u = then_accepted (by_version server_versions s) (λ c. accepted (ServerHello c)) (rw q at p) in
          let d : ServerHello u.0 ≡ m = cc u.2 in
          let z : eqb u.0.version tls13_draft18 ≡ false = rw (server_version u.1 ∙ n) q in
          rw (← d, z) (ap (λ (c : TlsServerHelloContents). ServerHello c) (server_back u.0 u.1))

pub hellos_back : (s : List ℕ) → Bytes s → HellosBack s
hellos_back s b =
    record {
      client_hello = client_back s b;
      strict_hello = λ c e. client_back s b c ((strict_demand3 s b).plain_too c e);
      server_hello = server_back s b;
      draft18_hello = draft18_back s b;
      retry_request = retry_back s b;
      message = message_back s b;
    }
