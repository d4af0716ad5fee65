-- Equal numbers, an equal index and equal values mean equal answers. Assumes nothing.
use Prim.Native.Nat.{ℕ}
use mathlib.Core.Path.{◌≡◌, refl, sym, ap, ap₂}
use mathlib.Core.Option.{none, some}
use native.Mathlib.Omega.{arith}
use Rattle.refusal.specs.Answers.{Answer, accepted, refused, TellSame, then}
use Rattle.refusal.specs.declared.Refusal.{Refusal}
use Rattle.refusal.proofs.Then.{not_both}
use Rattle.refusal.proofs.Told.{told}
use Rattle.read_ext.specs.Extensions.{extensions_says, extension_says, answer_in, index_in, OneBlock}
use Rattle.read_ext.specs.declared.Damage.{Damage}
use Rattle.read_ext.specs.declared.TlsExtensionFound.{TlsExtensionFound}
use Rattle.std.specs.Prelude.{Result, Ok, Err}
use Rattle.read_ext.specs.declared.Damage.{Damage}
use Rattle.read_ext.specs.declared.NotHad.{NotHad}
use Rattle.read_ext.specs.declared.TlsExtensionFound.{TlsExtensionFound}
use Rattle.read_ext.specs.declared.NotHad.TheVariants as one

-- no index is there and is not
not_none : {n : ℕ} → some n ≡ none → ⊥
not_none e = let z : ◌≡◌ {A = ℕ} 0 1 = cc in omega arith

-- damage is its index and its refusal
damage_same : {A : Type 0} (d e : Damage) → some d.index ≡ some e.index
    → ◌≡◌ {A = Answer A} (refused d.refusal) (refused e.refusal) → d ≡ e
damage_same d e i r =
    let n : d.index ≡ e.index = cc in
    let q : d.refusal ≡ e.refusal = cc in
    ap₂ (λ (k : ℕ) (w : Refusal). record { index = k; refusal = w }) n q

of_count_lem : (x y : Result ℕ Damage) → index_in (extensions_says x) ≡ index_in (extensions_says y)
    → TellSame (answer_in (extensions_says x)) (answer_in (extensions_says y)) → x ≡ y
of_count_lem (Err d) (Err e) i t = ap Err (damage_same {A = ℕ} d e i (told _ _ t))
of_count_lem (Err d) (Ok m) i t = absurd (not_none i)
of_count_lem (Ok n) (Err e) i t = absurd (not_none (sym i))
of_count_lem (Ok n) (Ok m) i t =
    let q : ◌≡◌ {A = Answer ℕ} (accepted n) (accepted m) = told _ _ t in
    ap Ok (cc q)

of_one : (x y : Result TlsExtensionFound NotHad) → index_in (extension_says x) ≡ index_in (extension_says y)
    → TellSame (then (answer_in (extension_says x)) (λ a. a)) (then (answer_in (extension_says y)) (λ a. a)) → x ≡ y
of_one (Err (one.Damaged d)) (Err (one.Damaged e)) i t = ap (λ w. Err (one.Damaged w)) (damage_same {A = TlsExtensionFound} d e i (told _ _ t))
of_one (Err (one.Damaged d)) (Err (one.Refused r)) i t = absurd (not_none i)
of_one (Err (one.Damaged d)) (Ok x) i t = absurd (not_none i)
of_one (Err (one.Refused r)) (Err (one.Damaged e)) i t = absurd (not_none (sym i))
of_one (Err (one.Refused r)) (Err (one.Refused s)) i t =
    let q : ◌≡◌ {A = Answer TlsExtensionFound} (refused r) (refused s) = told _ _ t in
    ap (λ r. Err (one.Refused r)) (cc q)
of_one (Err (one.Refused r)) (Ok x) i t =
    let q : ◌≡◌ {A = Answer TlsExtensionFound} (refused r) (accepted x) = told _ _ t in
    absurd (not_both q refl)
of_one (Ok x) (Err (one.Damaged e)) i t = absurd (not_none (sym i))
of_one (Ok x) (Err (one.Refused r)) i t =
    let q : ◌≡◌ {A = Answer TlsExtensionFound} (accepted x) (refused r) = told _ _ t in
    absurd (not_both refl q)
of_one (Ok x) (Ok y) i t =
    let q : ◌≡◌ {A = Answer TlsExtensionFound} (accepted x) (accepted y) = told _ _ t in
    ap Ok (cc q)

pub one_block_lem : OneBlock
one_block_lem = record { of_count = of_count_lem; of_one_of = of_one }
