-- A hello that was read is made of its pieces: so its lengths are those that the grammar allows.
-- Assumes nothing.
use Prim.Native.Nat.{ℕ, ◌<◌}
use mathlib.Core.Path.{◌≡◌, refl, ap}
use mathlib.Core.Bool.{Bool, true, false}
use mathlib.Core.List.{List}
use mathlib.Core.Option.{Option, none, some}
use native.Mathlib.Omega.{arith}
use lib.Dec.{eqb}
use lib.ListN.{length}
use Rattle.refusal.specs.Answers.{accepted}
use Rattle.refusal.proofs.Then.{not_both, then_accepted}
use Rattle.wire.specs.Numbers.{Bytes, number_at}
use Rattle.wire.specs.Parts.{lookup, part_of, OptView}
use Rattle.field.specs.Fields.{Field}
use Rattle.wire.specs.declared.view.View.{View}
use Rattle.grammar.specs.Forms.{Form, absent_if_empty, reading, pieces, by_version, if_listed}
use Rattle.grammar.specs.Hellos.{extensions}
use Rattle.grammar.specs.Splits.{Split, BlockObeys, block_view, handed_of, join, views_of}
use Rattle.grammar.specs.Demand3.{BySplit}
use Rattle.grammar.proofs.Forms.{made_of}
use Rattle.message.proofs.Lookup.{◌&◌, by_rows}
use Rattle.read_client.specs.Client.{client}
use Rattle.read_client.specs.declared.TlsClientHelloContents.{TlsClientHelloContents}
use Rattle.read_client.proofs.Whole as clients
use Rattle.read_others.specs.Body.{retry}
use Rattle.read_others.specs.declared.retry.TlsHelloRetryRequestContents.{TlsHelloRetryRequestContents}
use Rattle.read_others.proofs.Whole as others
use Rattle.read_server.specs.Server.{server, draft18, server_versions}
use Rattle.read_server.specs.declared.tlsv12.TlsServerHelloContents.{TlsServerHelloContents}
use Rattle.read_server.specs.declared.tlsv13draft18.TlsServerHelloV13Draft18Contents.{TlsServerHelloV13Draft18Contents}
use Rattle.read_server.proofs.Whole as servers
use Rattle.norrabist_c.specs.Parts.{opt_told}
use Rattle.norrabist_c.specs.Hellos.{ClientFits}

-- a part that is absent where it is empty is no longer than it would be
short : (x : OptView) (v : View) → x ≡ absent_if_empty v → v.len < 256 → (opt_told x).len < 256
short x v e h = rw e (go (eqb v.len 0) refl)
  where
    go : (y : Bool) → eqb v.len 0 ≡ y → (opt_told (absent_if_empty v)).len < 256
    go true q = rw q (omega arith)
    go false q = rw q (omega (arith, h))

-- an extension block, if there is one, is no longer than its length can say
abbrev Extensions : Option Field → Type 0
Extensions none = Unit
Extensions (some f) = f ≡ extensions

block_len : (g : Option Field) → Extensions g → (o : Option (List ℕ)) (tail : List ℕ) (n : ℕ) → BlockObeys g o tail
    → (opt_told (block_view g n o)).len < 65536
block_len none h o tail n q = omega arith
block_len (some f) h none tail n q = omega arith
block_len (some f) h (some p) tail n q = let o = rw h at q in omega (arith, o.0)

block_small : {C : Type 0} (k : Form C) → Extensions k.grammar.block → {s : List ℕ} {c : C} → BySplit k s
    → reading k s ≡ accepted c → (opt_told (handed_of k.grammar (pieces k s c)).block).len < 65536
block_small k l {s} {c} d e =
    let x = pieces k s c in
    block_len k.grammar.block l x.block x.tail (length (join k.grammar.rows x.parts))
    (d.splits c e).last

module _ (s : List ℕ) (b : Bytes s) where
  module _ (c : TlsClientHelloContents) (e : reading client s ≡ accepted c) where
    abbrev split : Split client.grammar s (pieces client s c)
    split = (clients.demand3 s b).splits c e

    ciphers-len : c.ciphers.len < 65536
    unfolding views_of
    ciphers-len =
        let l : c.ciphers.len ≡ length (part_of s c.ciphers) =
        ap (λ (x : TlsClientHelloContents). x.ciphers.len) (made_of (clients.demand3 s b) e) in
        omega (arith, l, split.obey.1.1.1.0.0)

    comp-len : c.comp.len < 256
    unfolding views_of
    comp-len =
        let l : c.comp.len ≡ length (part_of s c.comp) =
        ap (λ (x : TlsClientHelloContents). x.comp.len) (made_of (clients.demand3 s b) e) in
        omega (arith, l, split.obey.1.1.1.1.0.0)

    id-len : (opt_told c.session_id).len < 256
    unfolding views_of
    id-len =
        let v = (handed_of client.grammar (pieces client s c)).views.1.1.0 in
        short c.session_id v
        (ap (λ (x : TlsClientHelloContents). x.session_id) (made_of (clients.demand3 s b) e))
        (omega (arith, split.obey.1.1.0.0))

    ext-len : (opt_told c.ext).len < 65536
    ext-len =
        let m = ap (λ (x : TlsClientHelloContents). x.ext) (made_of (clients.demand3 s b) e) in
        rw m (block_small client refl (clients.demand3 s b) e)

    pub client-fits : ClientFits c
    client-fits = record { ciphers = ciphers-len; comp = comp-len; id = id-len; ext = ext-len }

  module _ (c : TlsServerHelloV13Draft18Contents) (e : reading draft18 s ≡ accepted c) where
    pub draft18-ext-len : (opt_told c.ext).len < 65536
    draft18-ext-len =
        let d = servers.demand3_draft18 s b in
        let m = ap (λ (x : TlsServerHelloV13Draft18Contents). x.ext) (made_of d e) in
        rw m (block_small draft18 refl d e)

  module _ (c : TlsHelloRetryRequestContents) (e : reading retry s ≡ accepted c) where
    pub retry-ext-len : (opt_told c.ext).len < 65536
    retry-ext-len =
        let d = others.splits_retry_lem s b in
        let m = ap (λ (x : TlsHelloRetryRequestContents). x.ext) (made_of d e) in
        rw m (block_small retry refl d e)

  -- a ServerHello is read by one form or the other
  pub which : {c : TlsServerHelloContents} → by_version server_versions s ≡ accepted c
      → (x : Bool) × (reading (server x) s ≡ accepted c)
  unfolding by_version
  which {c} e =
      let t = then_accepted (number_at 2 s 0) (λ v. if_listed (lookup v.value server_versions) s) e in
      by_rows (λ o. if_listed o s ≡ accepted c → (x : Bool) × (reading (server x) s ≡ accepted c))
      t.0.value server_versions
      ((λ q h. (true, h)) & (λ q h. (true, h)) & (λ q h. (true, h)) & (λ q h. (false, h)) & tt)
      (λ h. absurd (not_both h refl))
      t.2

  server_block : (x : Bool) → Extensions (server x).grammar.block
  server_block true = refl
  server_block false = tt

  module _ (c : TlsServerHelloContents) (x : Bool) (e : reading (server x) s ≡ accepted c) where
    pub server-id-len : (opt_told c.session_id).len < 256
    unfolding views_of
    server-id-len =
        let d = servers.demand3 x s b in
        let v = (handed_of (server x).grammar (pieces (server x) s c)).views.1.1.0 in
        short c.session_id v
        (ap (λ (y : TlsServerHelloContents). y.session_id) (made_of d e))
        (omega (arith, (d.splits c e).obey.1.1.0.0))

    pub server-ext-len : (opt_told c.ext).len < 65536
    server-ext-len =
        let d = servers.demand3 x s b in
        let m = ap (λ (y : TlsServerHelloContents). y.ext) (made_of d e) in
        rw m (block_small (server x) (server_block x) d e)
