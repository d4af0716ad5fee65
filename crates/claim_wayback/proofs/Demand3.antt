-- Demand 3, its writing half, of the three hellos and of the strict ClientHello, instances of the
-- one theorem over every form. Assumes nothing.
use Prim.Native.Nat.{ℕ, ◌<◌, ◌≤◌}
use mathlib.Core.Path.{◌≡◌, refl, ap, ◌∙◌}
use mathlib.Core.Bool.{Bool, true, false}
use mathlib.Core.List.{List, [], ◌++◌, append-nil}
use mathlib.Core.Option.{none, some}
use native.Mathlib.Omega.{arith}
use lib.ListN.{length, take, drop, take-append-drop}
use lib.Dec.{eqb}
use Rattle.refusal.specs.Answers.{accepted}
use Rattle.refusal.proofs.Then.{not_both, then_accepted}
use Rattle.wire.specs.Parts.{pick, lookup}
use Rattle.wire.specs.Numbers.{Bytes, be, number_at}
use Rattle.wire.proofs.Numbers.{be_of}
use Rattle.grammar.specs.Forms.{Form, reading, if_listed, by_version}
use Rattle.grammar.specs.Hellos.{client_to_fill}
use Rattle.grammar.specs.Strict.{ToFill, ByExactSplit}
use Rattle.grammar.proofs.Versions.{decided}
use Rattle.read_client.specs.Client.{client}
use Rattle.read_client.specs.declared.TlsClientHelloContents.{TlsClientHelloContents}
use Rattle.read_client.proofs.Whole.{client_lawful}
use Rattle.read_client.proofs.Strict.{strict_demand3}
use Rattle.read_server.specs.Server.{server, server_versions, draft18}
use Rattle.read_server.proofs.Whole.{server_lawful, draft18_lawful}
use Rattle.read_server.specs.declared.tlsv12.TlsServerHelloContents.{TlsServerHelloContents}
use Rattle.read_server.specs.declared.tlsv13draft18.TlsServerHelloV13Draft18Contents.{TlsServerHelloV13Draft18Contents}
use Rattle.write_rules.specs.HelloTexts.{may_write, hello_bytes, hello_text}
use Rattle.write_rules.proofs.Hellos.{Obeyed}
use Rattle.claim_wayback.proofs.Wrote.{hello_wrote}
use Rattle.claim_wayback.proofs.Hellos.{OfHello, writes_back, reads_again}
use Rattle.write_client.proofs.Lengths.{client_length, client_bounds}
use Rattle.write_server.proofs.Lengths.{server_length, server_bounds}
use Rattle.write_draft18.proofs.Lengths.{draft18_length, draft18_bounds}
use Rattle.claim_wayback.specs.WayBack.{added, framed, WritesBack, WritesWhole, BackByVersion, OneText, ReadsAgain, AgainByVersion}

server_block : (hasExt : Bool) → OfHello (server hasExt).grammar.block
server_block true = refl
server_block false = tt

-- a ServerHello is written the same by both its forms
pub one_text : OneText
unfolding hello_text may_write hello_bytes
one_text hasExt s c = refl

-- and may be by one if it may by the other
one_obeyed : (hasExt : Bool) (s : List ℕ) (c : TlsServerHelloContents) → Obeyed (server hasExt) s c
    → Obeyed (server true) s c
one_obeyed hasExt s c o = record { fields = o.fields; last = o.last }

one_length_lem : (hasExt : Bool) (s : List ℕ) (c : TlsServerHelloContents)
    → length (hello_bytes (server hasExt) s c) ≡ length (hello_bytes (server true) s c)
unfolding hello_bytes
one_length_lem hasExt s c = refl

-- a hello begins with its version
server_version : (s : List ℕ) (c : TlsServerHelloContents) → c.version < 65536
    → be 2 (hello_bytes (server true) s c) 0 ≡ c.version
unfolding hello_bytes
server_version s c h = be_of 2 c.version _ h

pub draft18_version : (s : List ℕ) (c : TlsServerHelloV13Draft18Contents) → c.version < 65536
    → be 2 (hello_bytes draft18 s c) 0 ≡ c.version
unfolding hello_bytes
draft18_version s c h = be_of 2 c.version _ h

-- a ServerHello that was read was read by one of its two forms
chosen : (a b d e : Bool) (body : List ℕ) (c : TlsServerHelloContents)
    → if_listed (pick a (some (server true))
    (pick b (some (server true))
    (pick d (some (server true)) (pick e (some (server false)) none)))) body ≡ accepted c
    → (hasExt : Bool) × (reading (server hasExt) body ≡ accepted c)
chosen true b d e body c x = (true, x)
chosen false true d e body c x = (true, x)
chosen false false true e body c x = (true, x)
chosen false false false true body c x = (false, x)
chosen false false false false body c x = absurd (not_both x refl)

announced : (body : List ℕ) (c : TlsServerHelloContents) → by_version server_versions body ≡ accepted c
    → (hasExt : Bool) × (reading (server hasExt) body ≡ accepted c)
unfolding by_version
announced body c e =
    let t = then_accepted (number_at 2 body 0) (λ v. if_listed (lookup v.value server_versions) body) e in
    let n = t.0.value in
    chosen (eqb n 0x0303) (eqb n 0x0302) (eqb n 0x0301) (eqb n 0x0300) body c t.2

-- a hello that was read, written back. RULES 7.9: a ClientHello has at most 131,396 bytes before
-- its tail. A ServerHello has at most 2 + 32 + 33 + 2 + 1 + 2 + 65,535, one of draft 18 2 + 32 + 2
-- + 2 + 65,535
pub writes_client_lem : (body : List ℕ) → Bytes body → WritesBack client 0x01 131396 body
writes_client_lem body bytes =
    writes_back client client_lawful refl 0x01 131396 (omega arith) body bytes
    (λ c o. omega (arith, client_length body c o, client_bounds body c o))

-- the bytes before an empty tail are all
whole : (n : ℕ) (s : List ℕ) → drop n s ≡ [] → take n s ≡ s
whole n s e = let t : take n s ++ drop n s ≡ s = take-append-drop n s in rw (e, append-nil) at t

-- so a hello that was read strictly, whatever its form, is written back whole
writes_whole : {C : Type 0} (k : Form C) (ts : ToFill k.grammar.rows) (msgType most : ℕ) (body : List ℕ)
    → ByExactSplit k ts body → WritesBack k msgType most body → WritesWhole k ts msgType body
writes_whole k ts msgType most body d w c e =
    w.text c (d.plain_too c e)
    ∙ ap (λ (t : List ℕ). accepted (framed msgType (t ++ added (k.block c))))
    (whole (k.tail c) body (d.splits c e).1.1)

pub writes_strict_lem : (body : List ℕ) → Bytes body → WritesWhole client client_to_fill 0x01 body
writes_strict_lem body bytes =
    writes_whole client client_to_fill 0x01 131396 body (strict_demand3 body bytes) (writes_client_lem body bytes)

pub writes_server_lem : (hasExt : Bool) (body : List ℕ) → Bytes body → WritesBack (server hasExt) 0x02 65607 body
writes_server_lem hasExt body bytes =
    writes_back (server hasExt) (server_lawful hasExt) (server_block hasExt) 0x02 65607 (omega arith) body bytes (λ c o.
    let p = one_obeyed hasExt body c o in
    omega (arith, one_length_lem hasExt body c, server_length body c p, server_bounds body c p))

pub writes_draft18_lem : (body : List ℕ) → Bytes body → WritesBack draft18 0x02 65573 body
writes_draft18_lem body bytes =
    writes_back draft18 draft18_lawful refl 0x02 65573 (omega arith) body bytes
    (λ c o. omega (arith, draft18_length body c o, draft18_bounds body c o))

pub writes_by_version_lem : (body : List ℕ) → Bytes body → BackByVersion body
writes_by_version_lem body bytes c e =
    let a = announced body c e in
    rw (← one_text a.0 body c) ((writes_server_lem a.0 body bytes).text c a.1)

-- a hello that was written, read
pub again_client_lem : (s : List ℕ) → Bytes s → (c : TlsClientHelloContents) → ReadsAgain client s c
again_client_lem = reads_again client client_lawful refl

pub again_server_lem : (hasExt : Bool) (s : List ℕ) → Bytes s → (c : TlsServerHelloContents)
    → ReadsAgain (server hasExt) s c
again_server_lem hasExt = reads_again (server hasExt) (server_lawful hasExt) (server_block hasExt)

pub again_draft18_lem : (s : List ℕ) → Bytes s → (c : TlsServerHelloV13Draft18Contents) → ReadsAgain draft18 s c
again_draft18_lem = reads_again draft18 draft18_lawful refl

-- the version that was written is the one that is read
pub again_by_version_lem : AgainByVersion
again_by_version_lem s c b h e =
    let w = hello_wrote (server true) s c e in
    let l : 2 ≤ length b = omega (arith, server_length s c w.0, ap length w.1) in
    let n : be 2 b 0 ≡ c.version = rw w.1 at (server_version s c h) in
    decided server_versions b l ∙ rw n
