-- The fields of a ServerHello, written one behind the other into a buffer with room for them, are
-- its text. Assumes nothing.
use Prim.Native.Nat.{ℕ, ◌+◌, ◌<◌, ◌≤◌}
use mathlib.Core.Path.{◌≡◌, refl}
use mathlib.Core.List.{List}
use native.Mathlib.Omega.{arith}
use lib.ListN.{length}
use Rattle.refusal.specs.Answers.{accepted}
use Rattle.wire.specs.Numbers.{number_text}
use Rattle.wire.specs.Puts.{put, written}
use Rattle.field.specs.Texts.{field_text}
use Rattle.grammar.specs.Hellos.{random, session_id_of, extensions}
use Rattle.write_rules.specs.JoinTexts.{join_bytes}
use Rattle.write_rules.proofs.Joins.{Joined, in_row, row_join}
use Rattle.write_rules.proofs.Fields.{begin, and, number, part, close}
use Rattle.write_server.specs.Slices.{server_rows, server_parts}

pub server_put : (d : List ℕ) (v : ℕ) (r i : List ℕ) (c k : ℕ) (e : List ℕ) (o₁ o₂ o₃ o₄ o₅ o₆ : List ℕ) (n : ℕ)
    → Joined server_rows (server_parts v r i c k) e
    → length (join_bytes server_rows (server_parts v r i c k) e) ≤ length d → v < 65536 → c < 65536 → k < 256
    → o₁ ≡ written (number_text 2 v) 0 d
    → o₂ ≡ written (accepted r) 2 o₁
    → o₃ ≡ written (field_text session_id_of.0 i) 34 o₂ → n ≡ 35 + length i
    → o₄ ≡ written (number_text 2 c) n o₃
    → o₅ ≡ written (number_text 1 k) (n + 2) o₄
    → o₆ ≡ written (field_text extensions e) (n + 3) o₅
    → o₆ ≡ put d 0 (join_bytes server_rows (server_parts v r i c k) e)
server_put d v r i c k e o₁ o₂ o₃ o₄ o₅ o₆ n h f w₁ w₂ w₃ e₁ e₂ e₃ x e₄ e₅ e₆ =
    let p = h.fields in
    let j = row_join server_rows (server_parts v r i c k) e in
    let a = begin d (in_row server_rows (server_parts v r i c k) e) (rw j at f) in
    let a₁ = number 2 _ 2 v a w₁ e₁ (omega arith) in
    let a₂ = and 34 _ random.0 r a₁ {t = accepted r} refl e₂ (omega (arith, p.1.0)) in
    let a₃ = part n _ _ _ i a₂ p.1.1.0 e₃ (omega arith) in
    let a₄ = number (n + 2) _ 2 c a₃ w₂ e₄ (omega arith) in
    let a₅ = number (n + 3) _ 1 k a₄ w₃ e₅ (omega arith) in
    rw j (close extensions e a₅ h.last e₆)
