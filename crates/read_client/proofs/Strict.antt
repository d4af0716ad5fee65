-- Demand 3, its reading half, of the strict ClientHello, an instance of the one theorem; and the
-- strict reading goes by what `exactness` tells. Assumes nothing.
use Prim.Native.Nat.{ℕ, ◌≤◌}
use mathlib.Core.Path.{◌≡◌, refl, sym, ap, ◌∙◌}
use mathlib.Core.Bool.{Bool, true, false}
use mathlib.Core.List.{List}
use mathlib.Core.Option.{Option, some}
use native.Mathlib.Omega.{arith}
use borrow.Author.Tests.{eq-eqb, ne_eqb, leb-true, leb-false}
use lib.ListN.{length, drop, length-drop}
use lib.Dec.{leb, eqb}
use Rattle.std.specs.Prelude.{Result, Ok}
use Rattle.refusal.specs.Answers.{accepted, refused, as_answer}
use Rattle.refusal.specs.Refusals.{refusal}
use Rattle.refusal.specs.declared.Reason.TheVariants.{LengthValue}
use Rattle.refusal.specs.declared.Refusal.{Refusal}
use Rattle.refusal.proofs.Told.{case}
use Rattle.wire.specs.Numbers.{Bytes}
use Rattle.wire.specs.Parts.{if_some, part_of}
use Rattle.grammar.specs.Splits.{views_of}
use Rattle.grammar.specs.Forms.{reading, pieces}
use Rattle.grammar.specs.Hellos.{client_hello, client_to_fill}
use Rattle.grammar.specs.Strict.{inexact, ByExactSplit}
use Rattle.grammar.proofs.Forms.{made_of}
use Rattle.grammar.proofs.Strict.{by_exact_split, from_plain_lem}
use Rattle.read_client.specs.Client.{client, strict_client, exactness, fails_at, held_to, TellsExactness}
use Rattle.read_client.specs.declared.TlsClientHelloContents.{TlsClientHelloContents}
use Rattle.read_client.specs.declared.Inexact.{Inexact}
use Rattle.read_client.proofs.Whole.{client_lawful, demand3}

pub strict_demand3 : (body : List ℕ) → Bytes body → ByExactSplit client client_to_fill body
strict_demand3 = by_exact_split client client_lawful client_to_fill

-- a list begins behind its length
pub begins : (s : List ℕ) → Bytes s → (c : TlsClientHelloContents) → reading client s ≡ accepted c
    → (2 ≤ c.ciphers.start) × (1 ≤ c.comp.start)
unfolding views_of
begins s b c e =
    let m = made_of (demand3 s b) e in
    let cs = ap (λ (d : TlsClientHelloContents). d.ciphers.start) m in
    let ms = ap (λ (d : TlsClientHelloContents). d.comp.start) m in
    (omega (arith, cs), omega (arith, ms))

-- the tail has bytes just where it begins before the end
tail_empty : (s : List ℕ) (tail : ℕ) → leb (length s) tail ≡ true → eqb (length (drop tail s)) 0 ≡ true
tail_empty s tail q =
    let h = leb-true (length s) tail q in
    eq-eqb (length (drop tail s)) 0 (rw length-drop (omega arith))

tail_full : (s : List ℕ) (tail : ℕ) → leb (length s) tail ≡ false → eqb (length (drop tail s)) 0 ≡ false
tail_full s tail q =
    let h = leb-false (length s) tail q in
    ne_eqb (length (drop tail s)) 0 (λ e. omega (arith, rw length-drop at e))

-- where a value that was read fails
place : (s : List ℕ) → Bytes s → (c : TlsClientHelloContents) → reading client s ≡ accepted c
    → inexact client_hello client_to_fill (pieces client s c) ≡ fails_at (exactness s c) c
unfolding views_of
place s b c e =
    go (eqb (length (part_of s c.ciphers)) 0) refl (eqb (length (part_of s c.comp)) 0) refl
    (leb (length s) c.tail) refl
  where
    go : (t : Bool) → eqb (length (part_of s c.ciphers)) 0 ≡ t
        → (u : Bool) → eqb (length (part_of s c.comp)) 0 ≡ u
        → (v : Bool) → leb (length s) c.tail ≡ v
        → inexact client_hello client_to_fill (pieces client s c) ≡ fails_at (exactness s c) c
    go true p u q v r =
        let cs = ap (λ (d : TlsClientHelloContents). d.ciphers.start) (made_of (demand3 s b) e) in
        rw p (ap (λ (n : ℕ). some n) (omega (arith, cs)))
    go false p true q v r =
        let ms = ap (λ (d : TlsClientHelloContents). d.comp.start) (made_of (demand3 s b) e) in
        rw (p, q) (ap (λ (n : ℕ). some n) (omega (arith, ms)))
    go false p false q true r = rw (p, q, r, tail_empty s c.tail r)
    go false p false q false r =
        let ts = ap (λ (d : TlsClientHelloContents). d.tail) (made_of (demand3 s b) e) in
        rw (p, q, r, tail_full s c.tail r) (ap (λ (n : ℕ). some n) (sym ts))

pub tells_exactness : (s : List ℕ) → Bytes s → TellsExactness s
tells_exactness s b c e =
    let p = place s b c e in
    record {
      answer = from_plain_lem client client_lawful client_to_fill s b c e
          ∙ ap (λ (o : Option ℕ). if_some o (λ n. refused (refusal LengthValue n 0)) (accepted c)) p;
      place = p;
    }

-- and by each case of it, of what a reader has
pub by_case : (s : List ℕ) → Bytes s → {a : Result TlsClientHelloContents Refusal} {c : TlsClientHelloContents}
    → as_answer a ≡ reading client s → a ≡ Ok c → {e d : Result Unit Inexact} → e ≡ exactness s c → e ≡ d
    → held_to d c ≡ strict_client s
by_case s b {c = c} g w e i =
    sym ((tells_exactness s b c (case as_answer g w)).answer
    ∙ ap (λ (d : Result Unit Inexact). held_to d c) (sym e ∙ i))
