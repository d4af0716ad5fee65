-- The fields of a ServerHello of TLS 1.3 draft 18, written one behind the other into a buffer with
-- room for them, are its text. Assumes nothing.
use Prim.Native.Nat.{ℕ, ◌<◌, ◌≤◌}
use mathlib.Core.Path.{◌≡◌, refl}
use mathlib.Core.List.{List}
use native.Mathlib.Omega.{arith}
use lib.ListN.{length}
use Rattle.refusal.specs.Answers.{accepted}
use Rattle.wire.specs.Numbers.{number_text}
use Rattle.wire.specs.Puts.{put, written}
use Rattle.field.specs.Texts.{field_text}
use Rattle.grammar.specs.Hellos.{random, extensions}
use Rattle.write_rules.specs.JoinTexts.{join_bytes}
use Rattle.write_rules.proofs.Joins.{Joined, in_row, row_join}
use Rattle.write_rules.proofs.Fields.{begin, and, number, close}
use Rattle.write_draft18.specs.Slices.{draft18_rows, draft18_parts}

pub draft18_put : (d : List ℕ) (v : ℕ) (r : List ℕ) (c : ℕ) (e : List ℕ) (o₁ o₂ o₃ o₄ : List ℕ)
    → Joined draft18_rows (draft18_parts v r c) e
    → length (join_bytes draft18_rows (draft18_parts v r c) e) ≤ length d → v < 65536 → c < 65536
    → o₁ ≡ written (number_text 2 v) 0 d
    → o₂ ≡ written (accepted r) 2 o₁
    → o₃ ≡ written (number_text 2 c) 34 o₂
    → o₄ ≡ written (field_text extensions e) 36 o₃
    → o₄ ≡ put d 0 (join_bytes draft18_rows (draft18_parts v r c) e)
draft18_put d v r c e o₁ o₂ o₃ o₄ h f w₁ w₂ e₁ e₂ e₃ e₄ =
    let j = row_join draft18_rows (draft18_parts v r c) e in
    let a = begin d (in_row draft18_rows (draft18_parts v r c) e) (rw j at f) in
    let a₁ = number 2 _ 2 v a w₁ e₁ (omega arith) in
    let a₂ = and 34 _ random.0 r a₁ {t = accepted r} refl e₂ (omega (arith, h.fields.1.0)) in
    let a₃ = number 36 _ 2 c a₂ w₂ e₃ (omega arith) in
    rw j (close extensions e a₃ h.last e₄)
