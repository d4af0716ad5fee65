-- What a message lacks, by its bytes from the first on. Assumes nothing.
use Prim.Native.Nat.{ℕ, ◌+◌, ◌-◌, ◌<◌, ◌≤◌}
use mathlib.Core.Path.{◌≡◌, sym, ap, ◌∙◌}
use mathlib.Core.List.{List}
use native.Mathlib.Omega.{arith}
use borrow.Author.Tests.{le-leb, lt-leb}
use lib.ListN.{length, drop, length-drop}
use lib.Seq.{drop-drop}
use Rattle.refusal.specs.Answers.{accepted, refused}
use Rattle.refusal.specs.declared.Refusal.{Refusal}
use Rattle.wire.specs.Numbers.{be, number_at}
use Rattle.wire.specs.declared.number.Number.{Number}
use Rattle.wire.proofs.Numbers.{be_drop, number_is, number_short}
use Rattle.record_tally.specs.Tally.{lacking_at}

pub no_head_lem : (s : List ℕ) (at : ℕ) → length (drop at s) < 4 → lacking_at s at ≡ 0
unfolding lacking_at
no_head_lem s at h = rw (lt-leb (at + 4) (length s) (omega (arith, length-drop at s)))

-- the number in the head, counted from the message's first byte
same_number : (s : List ℕ) (at : ℕ) → be 3 s (at + 1) ≡ be 3 (drop at s) 1
same_number s at = be_drop 3 s (at + 1)
    ∙ sym (be_drop 3 (drop at s) 1 ∙ ap (λ (d : List ℕ). be 3 d 0) (drop-drop 1 at s))

pub by_head : (s : List ℕ) (at : ℕ) → 4 ≤ length (drop at s)
    → lacking_at s at ≡ be 3 (drop at s) 1 - (length (drop at s) - 4)
unfolding lacking_at
by_head s at h =
    let l : length (drop at s) ≡ length s - at = length-drop at s in
    rw (le-leb (at + 4) (length s) (omega arith), same_number s at) (omega arith)

-- by the number that is read there, or that is not
pub by_number : (s : List ℕ) (at : ℕ) {n : Number} → number_at 3 (drop at s) 1 ≡ accepted n
    → (n.next ≡ 4) × (4 ≤ length (drop at s)) × (lacking_at s at ≡ n.value - (length (drop at s) - 4))
by_number s at e =
    let i = number_is 3 (drop at s) 1 e in
    (ap (λ (n : Number). n.next) i.is, i.inside, by_head s at i.inside ∙ rw i.is)

pub no_number : (s : List ℕ) (at : ℕ) {r : Refusal} → number_at 3 (drop at s) 1 ≡ refused r → lacking_at s at ≡ 0
no_number s at e = no_head_lem s at (number_short 3 (drop at s) 1 e).outside
