-- The fields of a ClientHello, written one behind the other into a buffer with room for them, are
-- its text. Assumes nothing.
use Prim.Native.Nat.{ℕ, ◌+◌, ◌<◌, ◌≤◌}
use mathlib.Core.Path.{◌≡◌, refl}
use mathlib.Core.List.{List}
use native.Mathlib.Omega.{arith}
use lib.ListN.{length}
use Rattle.refusal.specs.Answers.{accepted}
use Rattle.wire.specs.Numbers.{number_text}
use Rattle.wire.specs.Puts.{put, written}
use Rattle.field.specs.Texts.{field_text}
use Rattle.grammar.specs.Hellos.{random, session_id_of, ciphers, methods, extensions}
use Rattle.write_rules.specs.JoinTexts.{join_bytes}
use Rattle.write_rules.proofs.Joins.{Joined, in_row, row_join}
use Rattle.write_rules.proofs.Fields.{begin, and, number, part, close}
use Rattle.write_client.specs.Slices.{client_rows, client_parts}

pub client_put : (d : List ℕ) (v : ℕ) (r i c m e : List ℕ) (o₁ o₂ o₃ o₄ o₅ o₆ : List ℕ) (n₁ n₂ n₃ : ℕ)
    → Joined client_rows (client_parts v r i c m) e
    → length (join_bytes client_rows (client_parts v r i c m) e) ≤ length d → v < 65536
    → o₁ ≡ written (number_text 2 v) 0 d
    → o₂ ≡ written (accepted r) 2 o₁
    → o₃ ≡ written (field_text session_id_of.0 i) 34 o₂ → n₁ ≡ 35 + length i
    → o₄ ≡ written (field_text ciphers.0 c) n₁ o₃ → n₂ ≡ n₁ + 2 + length c
    → o₅ ≡ written (field_text methods.0 m) n₂ o₄ → n₃ ≡ n₂ + 1 + length m
    → o₆ ≡ written (field_text extensions e) n₃ o₅
    → o₆ ≡ put d 0 (join_bytes client_rows (client_parts v r i c m) e)
client_put d v r i c m e o₁ o₂ o₃ o₄ o₅ o₆ n₁ n₂ n₃ h f w e₁ e₂ e₃ x₁ e₄ x₂ e₅ x₃ e₆ =
    let p = h.fields in
    let j = row_join client_rows (client_parts v r i c m) e in
    let a = begin d (in_row client_rows (client_parts v r i c m) e) (rw j at f) in
    let a₁ = number 2 _ 2 v a w e₁ (omega arith) in
    let a₂ = and 34 _ random.0 r a₁ {t = accepted r} refl e₂ (omega (arith, p.1.0)) in
    let a₃ = part n₁ _ _ _ i a₂ p.1.1.0 e₃ (omega arith) in
    let a₄ = part n₂ _ _ _ c a₃ p.1.1.1.0 e₄ (omega arith) in
    let a₅ = part n₃ _ _ _ m a₄ p.1.1.1.1.0 e₅ (omega arith) in
    rw j (close extensions e a₅ h.last e₆)
