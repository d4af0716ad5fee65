-- What the answer for version, random and session id says of a reading that begins with them.
-- Assumes nothing.
use Prim.Native.Nat.{ℕ}
use mathlib.Core.Path.{◌≡◌, refl, ap, sym, ◌∙◌}
use mathlib.Core.Logic.{◌⊎◌, inl, inr}
use mathlib.Core.List.{List, ◌++◌}
use Rattle.std.specs.Prelude.{Result, Ok, Err, IsErr, IsErrAnd}
use Rattle.refusal.specs.Answers.{Answer, accepted, refused, then, as_answer}
use Rattle.refusal.specs.declared.Refusal.{Refusal}
use Rattle.refusal.proofs.Then.{not_both, then_accepted, then_refused}
use Rattle.refusal.proofs.Told.{case, hands_on}
use Rattle.wire.specs.Numbers.{be}
use Rattle.grammar.specs.Grammars.{Row, Views}
use Rattle.grammar.specs.Reading.{fields_at, last_at, with_last}
use Rattle.grammar.specs.Forms.{absent_if_empty, value_of, reading}
use Rattle.grammar.proofs.Chain.{So, both, begin_on, and_all_on, stop_all}
use Rattle.read_start.specs.Start.{hello_start}
use Rattle.read_start.specs.declared.Start.{Start}

abbrev pub start_rows : List Row
start_rows = hello_start.grammar.rows

abbrev start_of : List ℕ → Views start_rows × ℕ → Start
start_of s q =
    value_of hello_start s (with_last hello_start.grammar q.0 (last_at hello_start.grammar.block s q.1))

-- the three fields that were found
pub record Begun (s : List ℕ) (a : Start) : Type 0 where
  pub q : Views start_rows × ℕ
  pub found : fields_at start_rows s 0 ≡ accepted q
  pub version : be 2 s q.0.0.start ≡ a.version
  pub random : q.0.1.0 ≡ a.random
  pub id : absent_if_empty q.0.1.1.0 ≡ a.session_id
  pub next : q.1 ≡ a.next

pub begun : (s : List ℕ) {a : Start} → reading hello_start s ≡ accepted a → Begun s a
begun s {a} e =
    let t = then_accepted (fields_at start_rows s 0) (λ q. accepted (start_of s q)) (sym (begin_on hello_start s) ∙ e) in
    let d : start_of s t.0 ≡ a = cc t.2 in
    record {
      q = t.0;
      found = t.1;
      version = ap (λ (x : Start). x.version) d;
      random = ap (λ (x : Start). x.random) d;
      id = ap (λ (x : Start). x.session_id) d;
      next = ap (λ (x : Start). x.next) d;
    }

pub not_begun : (s : List ℕ) {r : Refusal} → reading hello_start s ≡ refused r → fields_at start_rows s 0 ≡ refused r
not_begun s {r} e =
    go (then_refused (fields_at start_rows s 0) (λ q. accepted (start_of s q)) (sym (begin_on hello_start s) ∙ e))
  where
    go : (fields_at start_rows s 0 ≡ refused r) ⊎
        ((q : Views start_rows × ℕ) × (fields_at start_rows s 0 ≡ accepted q)
        × (◌≡◌ {A = Answer Start} (accepted (start_of s q)) (refused r))) → fields_at start_rows s 0 ≡ refused r
    go (inl x) = x
    go (inr (q, x, z)) = absurd (not_both refl z)

-- the fields after them, from the place that was reached
pub after_on : {X : Type 0} {whole : Answer X} {s : List ℕ} (us : List Row)
    (k : Views (start_rows ++ us) × ℕ → Answer X) → whole ≡ then (fields_at (start_rows ++ us) s 0) k
    → {a : Start} (b : Begun s a)
    → whole ≡ then (fields_at us s a.next) (λ t. k (both start_rows us b.q.0 t.0, t.1))
after_on us k on b = rw (← b.next) (and_all_on start_rows us (record { n = 0; k = k; on = on }) b.found)

abbrev pub after : {X : Type 0} {whole : Answer X} {s : List ℕ} (us : List Row)
    (k : Views (start_rows ++ us) × ℕ → Answer X) → whole ≡ then (fields_at (start_rows ++ us) s 0) k → {a : Start}
    → Begun s a → So whole s us
after us k on {a} b =
    record { n = a.next; k = λ t. k (both start_rows us b.q.0 t.0, t.1); on = after_on us k on b }

-- the same by what a reader has of them
abbrev pub began : {X : Type 0} {whole : Answer X} {s : List ℕ} (us : List Row)
    (k : Views (start_rows ++ us) × ℕ → Answer X) → whole ≡ then (fields_at (start_rows ++ us) s 0) k
    → {x : Result Start Refusal} {a : Start} → as_answer x ≡ reading hello_start s → x ≡ Ok a → So whole s us
began us k on e g = after us k on (begun _ (case as_answer e g))

-- and where one of them cannot be had
pub unbegun : {X : Type 0} {whole : Answer X} {s : List ℕ} (us : List Row) (o : So whole s (start_rows ++ us))
    → o.n ≡ 0 → {a : Result Start Refusal} {r : Refusal} → as_answer a ≡ reading hello_start s → a ≡ Err r
    → (x : Result X Refusal) → IsErr x × IsErrAnd x (λ d. d ≡ r) → as_answer x ≡ whole
unbegun us o z e g x h =
    hands_on x h (sym (stop_all start_rows us o (rw z (not_begun _ (case as_answer e g)))))
