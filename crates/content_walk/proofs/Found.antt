-- What is found at a place by the type of a record: where it ends. Assumes nothing.
use Prim.Native.Nat.{ℕ, ◌+◌, ◌≤◌}
use mathlib.Core.Path.{◌≡◌, refl, sym, ap, ◌∙◌}
use mathlib.Core.Bool.{Bool, true, false, ◌||◌}
use mathlib.Core.List.{List}
use mathlib.Core.Logic.{◌⊎◌, inl, inr}
use native.Mathlib.Omega.{arith}
use mathlib.Core.Option.{none, some}
use borrow.Author.Tests.{eqb-true}
use lib.Dec.{eqb}
use lib.ListN.{length}
use Rattle.refusal.specs.Answers.{Answer, accepted, refused, giving}
use Rattle.refusal.specs.Refusals.{refusal}
use Rattle.refusal.specs.declared.Reason.TheVariants.{LengthValue, Switch}
use Rattle.refusal.specs.declared.Refusal.{Refusal}
use Rattle.refusal.proofs.Then.{not_both, then_accepted, then_refused}
use Rattle.wire.specs.Numbers.{number_at}
use Rattle.wire.specs.Parts.{pick, if_some}
use Rattle.wire.specs.declared.number.Number.{Number}
use Rattle.wire.proofs.Numbers.{number_is}
use Rattle.list.specs.Stopping.{Takes}
use Rattle.envelope.specs.Opening.{met_at}
use Rattle.envelope.proofs.Heads.{met_lies}
use Rattle.content.specs.Contents.{cipher_spec_at, alert_at, application_data, heartbeat, one_or_two}
use Rattle.content.specs.declared.TlsMessageAlert.{TlsMessageAlert}
use Rattle.content_walk.specs.ContentWalks.{alert_found, application_found, cipher_spec_found, found_at, handshake_found}
use Rattle.content_walk.specs.ContentWalks.{heartbeat_found, is_single, past_at}
use Rattle.content_walk.specs.declared.TlsFound.{TlsFound}

-- one of two is taken, and it is accepted
pub picked : {A : Type 0} (t : Bool) (x : Answer A) (r : Refusal) {a : A} → pick t x (refused r) ≡ accepted a
    → (t ≡ true) × (x ≡ accepted a)
picked true x r e = (refl, e)
picked false x r e = absurd (not_both e refl)

no : true ≡ false → ⊥
no e = let z : ◌≡◌ {A = ℕ} 0 1 = cc in omega arith

-- a ChangeCipherSpec is one byte
pub cipher_spec_is : (s : List ℕ) (at : ℕ) {n : Number} → cipher_spec_at s at ≡ accepted n
    → (n.value ≡ 1) × (n.next ≡ at + 1) × (at + 1 ≤ length s) × (number_at 1 s at ≡ accepted n)
unfolding cipher_spec_at
cipher_spec_is s at {n} e =
    let t = then_accepted (number_at 1 s at)
    (λ m. pick (eqb m.value 1) (accepted m) (refused (refusal LengthValue at 0))) e in
    let p = picked (eqb t.0.value 1) (accepted t.0) (refusal LengthValue at 0) t.2 in
    let d : t.0 ≡ n = cc p.1 in
    let i = number_is 1 s at t.1 in
    rw (← d) (eqb-true t.0.value 1 p.0, ap (λ (l : Number). l.next) i.is, i.inside, t.1)

-- an alert is two
pub alert_is : (s : List ℕ) (at : ℕ) {a : TlsMessageAlert} → alert_at s at ≡ accepted a
    → (l d : Number) × (number_at 1 s at ≡ accepted l) × (number_at 1 s (at + 1) ≡ accepted d)
    × (a ≡ record { severity = l.value; code = d.value }) × (at + 2 ≤ length s)
unfolding alert_at
alert_is s at {a} e =
    let t = then_accepted (number_at 1 s at)
    (λ l. pick (one_or_two l.value)
    (giving (λ d. record { severity = l.value; code = d.value }) (number_at 1 s l.next))
    (refused (refusal LengthValue at 0))) e in
    let p = picked (one_or_two t.0.value) _ (refusal LengthValue at 0) t.2 in
    let i = number_is 1 s at t.1 in
    let z : t.0.next ≡ at + 1 = ap (λ (l : Number). l.next) i.is in
    let u = then_accepted (number_at 1 s t.0.next)
    (λ d. accepted (record { severity = t.0.value; code = d.value })) p.1 in
    let j = number_is 1 s t.0.next u.1 in
    (t.0, u.0, t.1, rw (← z) u.1, sym (cc u.2), omega (arith, j.inside, z))

-- the five types
pub found_14 : (s : List ℕ) (at : ℕ) → found_at 0x14 s at ≡ cipher_spec_found s at
unfolding found_at
found_14 s at = refl

pub found_15 : (s : List ℕ) (at : ℕ) → found_at 0x15 s at ≡ alert_found s at
unfolding found_at
found_15 s at = refl

pub found_16 : (s : List ℕ) (at : ℕ) → found_at 0x16 s at ≡ handshake_found s at
unfolding found_at
found_16 s at = refl

pub found_17 : (s : List ℕ) (at : ℕ) → found_at 0x17 s at ≡ application_found s
unfolding found_at
found_17 s at = refl

pub found_18 : (s : List ℕ) (at : ℕ) → found_at 0x18 s at ≡ heartbeat_found s
unfolding found_at
found_18 s at = refl

-- what takes a row of the table
row_of : (a b c d e : Bool) (x₁ x₂ x₃ x₄ x₅ : Answer TlsFound) (r : Refusal) {x : TlsFound}
    → if_some (pick a (some x₁) (pick b (some x₂) (pick c (some x₃) (pick d (some x₄) (pick e (some x₅) none)))))
    (λ y. y) (refused r) ≡ accepted x
    → ((x₁ ≡ accepted x) ⊎ ((x₂ ≡ accepted x) ⊎ (x₃ ≡ accepted x)))
    ⊎ ((d || e ≡ true) × ((x₄ ≡ accepted x) ⊎ (x₅ ≡ accepted x)))
row_of true b c d e x₁ x₂ x₃ x₄ x₅ r q = inl (inl q)
row_of false true c d e x₁ x₂ x₃ x₄ x₅ r q = inl (inr (inl q))
row_of false false true d e x₁ x₂ x₃ x₄ x₅ r q = inl (inr (inr q))
row_of false false false true e x₁ x₂ x₃ x₄ x₅ r q = inr (refl, inl q)
row_of false false false false true x₁ x₂ x₃ x₄ x₅ r q = inr (refl, inr q)
row_of false false false false false x₁ x₂ x₃ x₄ x₅ r q = absurd (not_both q refl)

module _ (s : List ℕ) (at : ℕ) where
  cipher_takes : {x : TlsFound} → cipher_spec_found s at ≡ accepted x → (at + 1 ≤ x.next) × (x.next ≤ length s)
  unfolding cipher_spec_found
  cipher_takes {x} e =
      let t = then_accepted (cipher_spec_at s at) _ e in
      let i = cipher_spec_is s at t.1 in
      let z : t.0.next ≡ x.next = cc t.2 in
      (omega (arith, i.1, z), omega (arith, i.1, i.2, z))

  alert_takes : {x : TlsFound} → alert_found s at ≡ accepted x → (at + 1 ≤ x.next) × (x.next ≤ length s)
  unfolding alert_found
  alert_takes {x} e =
      let t = then_accepted (alert_at s at) _ e in
      let i = alert_is s at t.1 in
      let z : at + 2 ≡ x.next = cc t.2 in
      (omega (arith, z), omega (arith, i.5, z))

  handshake_takes : {x : TlsFound} → handshake_found s at ≡ accepted x → (at + 1 ≤ x.next) × (x.next ≤ length s)
  unfolding handshake_found
  handshake_takes {x} e =
      let t = then_accepted (met_at s at) _ e in
      let i = met_lies s at t.1 in
      let z : t.0.head.next ≡ x.next = cc t.2 in
      (omega (arith, i.next, z), omega (arith, i.inside, z))

  application_takes : {x : TlsFound} → application_found s ≡ accepted x → x.next ≡ length s
  unfolding application_found
  application_takes {x} e =
      let t = then_accepted (application_data s) _ e in
      let z : length s ≡ x.next = cc t.2 in sym z

  heartbeat_takes : {x : TlsFound} → heartbeat_found s ≡ accepted x → x.next ≡ length s
  unfolding heartbeat_found
  heartbeat_takes {x} e =
      let t = then_accepted (heartbeat s) _ e in
      let z : length s ≡ x.next = cc t.2 in sym z

  -- whatever the type, what is found ends within the bytes; behind its place, or it is the whole
  pub found_ends : (t : ℕ) {x : TlsFound} → found_at t s at ≡ accepted x
      → ((at + 1 ≤ x.next) × (x.next ≤ length s)) ⊎ ((is_single t ≡ true) × (x.next ≡ length s))
  unfolding found_at
  found_ends t {x} e =
      go (row_of (eqb t 0x14) (eqb t 0x15) (eqb t 0x16) (eqb t 0x17) (eqb t 0x18) (cipher_spec_found s at)
      (alert_found s at) (handshake_found s at) (application_found s) (heartbeat_found s) (refusal Switch 0 0) e)
    where
      go : ((cipher_spec_found s at ≡ accepted x) ⊎ ((alert_found s at ≡ accepted x) ⊎ (handshake_found s at ≡ accepted x)))
          ⊎ ((is_single t ≡ true) × ((application_found s ≡ accepted x) ⊎ (heartbeat_found s ≡ accepted x)))
          → ((at + 1 ≤ x.next) × (x.next ≤ length s)) ⊎ ((is_single t ≡ true) × (x.next ≡ length s))
      go (inl (inl q)) = inl (cipher_takes q)
      go (inl (inr (inl q))) = inl (alert_takes q)
      go (inl (inr (inr q))) = inl (handshake_takes q)
      go (inr (y, inl q)) = inr (y, application_takes q)
      go (inr (y, inr q)) = inr (y, heartbeat_takes q)

-- by a type that repeats, each takes a byte at least
pub takes_one : (t : ℕ) (s : List ℕ) → is_single t ≡ false → Takes (found_at t s) (λ (x : TlsFound). x.next) 1 (length s)
takes_one t s f = record { one = omega arith; on = λ at x e. go at x (found_ends s at t e) }
  where
    go : (at : ℕ) (x : TlsFound)
        → ((at + 1 ≤ x.next) × (x.next ≤ length s)) ⊎ ((is_single t ≡ true) × (x.next ≡ length s))
        → (at + 1 ≤ x.next) × (x.next ≤ length s)
    go at x (inl h) = h
    go at x (inr (y, h)) = absurd (no (sym y ∙ f))

-- by one that does not, it is the whole content
pub takes_all : (t : ℕ) (s : List ℕ) (at : ℕ) {x : TlsFound} → is_single t ≡ true → found_at t s at ≡ accepted x
    → x.next ≡ length s
unfolding found_at
takes_all t s at {x} y e = go (eqb t 0x17) refl (eqb t 0x18) refl
  where
    go : (d : Bool) → eqb t 0x17 ≡ d → (b : Bool) → eqb t 0x18 ≡ b → x.next ≡ length s
    go true q b p = let z = eqb-true t 0x17 q in application_takes s at (sym (found_17 s at) ∙ (rw z at e))
    go false q true p = let z = eqb-true t 0x18 p in heartbeat_takes s at (sym (found_18 s at) ∙ (rw z at e))
    go false q false p = absurd (no (sym y ∙ rw (q, p)))

-- whatever the type, it ends within the bytes
pub found_in : (t : ℕ) (s : List ℕ) (at : ℕ) {x : TlsFound} → found_at t s at ≡ accepted x → x.next ≤ length s
found_in t s at {x} e = go (found_ends s at t e)
  where
    go : ((at + 1 ≤ x.next) × (x.next ≤ length s)) ⊎ ((is_single t ≡ true) × (x.next ≡ length s)) → x.next ≤ length s
    go (inl h) = h.1
    go (inr (y, h)) = omega (arith, h)

-- where a message ends, by the message
pub past_got : (t : ℕ) (s : List ℕ) (at : ℕ) {n : ℕ} → past_at t s at ≡ accepted n → (x : TlsFound)
    × (found_at t s at ≡ accepted x) × (x.next ≡ n)
unfolding past_at
past_got t s at {n} e =
    let u = then_accepted (found_at t s at) (λ x. accepted x.next) e in
    (u.0, u.1, cc u.2)

pub past_not : (t : ℕ) (s : List ℕ) (at : ℕ) {r : Refusal} → past_at t s at ≡ refused r → found_at t s at ≡ refused r
unfolding past_at
past_not t s at {r} e = go (then_refused (found_at t s at) (λ x. accepted x.next) e)
  where
    go : (found_at t s at ≡ refused r) ⊎
        ((x : TlsFound) × (found_at t s at ≡ accepted x) × (◌≡◌ {A = Answer ℕ} (accepted x.next) (refused r)))
        → found_at t s at ≡ refused r
    go (inl x) = x
    go (inr (x, y, z)) = absurd (not_both refl z)
