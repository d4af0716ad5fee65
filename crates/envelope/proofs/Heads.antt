-- What head and body say of the message that begins at a place; and where a message that was met
-- lies: its body behind four bytes, and both within the bytes. Assumes nothing.
use Prim.Native.Nat.{ℕ, ◌+◌, ◌≤◌}
use mathlib.Core.Path.{◌≡◌, refl}
use mathlib.Core.List.{List}
use mathlib.Core.Option.{Option, none, some}
use native.Mathlib.Omega.{arith}
use lib.ListN.{length}
use Rattle.refusal.specs.Answers.{Answer, accepted, refused, within, giving}
use Rattle.refusal.specs.Refusals.{refusal, unplaced, inside}
use Rattle.refusal.specs.declared.Reason.TheVariants.{Switch}
use Rattle.refusal.specs.declared.Refusal.{Refusal}
use Rattle.refusal.proofs.Then.{not_both, then_accepted}
use Rattle.refusal.proofs.Told.{unplaced_inside}
use Rattle.wire.specs.Numbers.{number_at}
use Rattle.wire.specs.Parts.{part_of, lookup, if_some}
use Rattle.wire.proofs.Numbers.{number_is}
use Rattle.field.specs.Fields.{rule_of, step, sized}
use Rattle.field.specs.declared.RuleName.TheVariants.{Plain}
use Rattle.field.proofs.Rules.{vector_lies}
use Rattle.message.specs.declared.handshake.TlsMessageHandshake.{TlsMessageHandshake}
use Rattle.envelope.specs.Opening.{head_at, Met, openings, opened, by_type, by_type_in, met_at}
use Rattle.envelope.specs.declared.TlsMessageHead.{TlsMessageHead}

-- a body's answer in its message, by that of the body alone
module _ (at start k : ℕ) (s : List ℕ) where
  pub in_got : {m : TlsMessageHandshake} → by_type k s ≡ accepted m → by_type_in at start k s ≡ accepted m
  unfolding by_type opened by_type_in
  in_got {m} e = go (lookup k (openings (length s) s)) e
    where
      go : (o : Option (Answer TlsMessageHandshake)) → if_some o (λ a. a) (refused (unplaced Switch)) ≡ accepted m
          → if_some o (within start) (refused (refusal Switch at 0)) ≡ accepted m
      go none d = absurd (not_both d refl)
      go (some a) d = rw d

  in_refused : {r : Refusal} → by_type k s ≡ refused r → by_type_in at start k s ≡ refused (inside start r)
  unfolding by_type opened by_type_in
  in_refused {r} e = go (lookup k (openings (length s) s)) e
    where
      go : (o : Option (Answer TlsMessageHandshake)) → if_some o (λ a. a) (refused (unplaced Switch)) ≡ refused r
          → if_some o (within start) (refused (refusal Switch at 0)) ≡ refused (inside start r)
      go none d = let y : unplaced Switch ≡ r = cc in rw (← (unplaced_inside Switch at 0 start), y)
      go (some a) d = rw d

module _ (s : List ℕ) (at : ℕ) where
  pub met_no_head : {r : Refusal} → head_at s at ≡ refused r → met_at s at ≡ refused r
  unfolding met_at
  met_no_head e = rw e

  pub met_no_body : {h : TlsMessageHead} {r : Refusal} → head_at s at ≡ accepted h
      → by_type h.msg_type (part_of s h.body) ≡ refused r → met_at s at ≡ refused (inside h.body.start r)
  unfolding met_at
  met_no_body {h} e d = rw (e, in_refused at h.body.start h.msg_type (part_of s h.body) d)

  pub met_got : {h : TlsMessageHead} {m : TlsMessageHandshake} → head_at s at ≡ accepted h
      → by_type h.msg_type (part_of s h.body) ≡ accepted m → met_at s at ≡ accepted (record { head = h; says = m })
  unfolding met_at
  met_got {h} e d = rw (e, in_got at h.body.start h.msg_type (part_of s h.body) d)

pub record Lies (s : List ℕ) (at : ℕ) (h : TlsMessageHead) : Type 0 where
  pub start : h.body.start ≡ at + 4
  pub next : h.next ≡ at + 4 + h.body.len
  pub inside : h.next ≤ length s

pub head_lies : (s : List ℕ) (at : ℕ) {h : TlsMessageHead} → head_at s at ≡ accepted h → Lies s at h
unfolding head_at
head_lies s at {h} e =
    let t = then_accepted (number_at 1 s at)
    (λ k. giving (λ b. record { msg_type = k.value; body = b.view; next = b.next })
    (step (sized 3) s k.next)) e in
    let n = number_is 1 s at t.1 in
    let u = then_accepted (step (sized 3) s t.0.next)
    (λ b. accepted (record { msg_type = t.0.value; body = b.view; next = b.next })) t.2 in
    let i = vector_lies 3 (rule_of Plain) s t.0.next u.1 in
    let d : record { msg_type = t.0.value; body = u.0.view; next = u.0.next } ≡ h = cc u.2 in
    let z : t.0.next ≡ at + 1 = rw n.is in
    rw (← d) (record { start = omega (arith, i.start, z); next = omega (arith, i.next, z); inside = i.inside })

pub met_head_lem : (s : List ℕ) (at : ℕ) {x : Met} → met_at s at ≡ accepted x → head_at s at ≡ accepted x.head
unfolding met_at
met_head_lem s at {x} e =
    let t = then_accepted (head_at s at)
    (λ h. giving (λ m. record { head = h; says = m })
    (by_type_in at h.body.start h.msg_type (part_of s h.body))) e in
    let u = then_accepted (by_type_in at t.0.body.start t.0.msg_type (part_of s t.0.body))
    (λ (m : TlsMessageHandshake). accepted (record { head = t.0; says = m })) t.2 in
    let d : record { head = t.0; says = u.0 } ≡ x = cc u.2 in
    rw (← d) t.1

pub met_lies : (s : List ℕ) (at : ℕ) {x : Met} → met_at s at ≡ accepted x → Lies s at x.head
met_lies s at e = head_lies s at (met_head_lem s at e)
