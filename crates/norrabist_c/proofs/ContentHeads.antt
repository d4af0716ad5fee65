-- The head of a record's first message, by the type of the record. Assumes nothing.
use Prim.Native.Nat.{ℕ, ◌≤◌}
use mathlib.Core.Path.{◌≡◌, refl, sym, ◌∙◌}
use mathlib.Core.Bool.{Bool, true, false}
use mathlib.Core.List.{List}
use mathlib.Core.Logic.{◌⊎◌, inl, inr}
use native.Mathlib.Omega.{arith}
use borrow.Author.Tests.{eq-eqb, ne_eqb}
use lib.Dec.{eqb}
use lib.ListN.{length}
use Rattle.refusal.specs.Answers.{Answer, accepted, refused, giving}
use Rattle.refusal.specs.Refusals.{refusal}
use Rattle.refusal.specs.declared.Reason.TheVariants.{Switch}
use Rattle.refusal.proofs.Then.{not_both, then_accepted}
use Rattle.list.specs.Items.{place}
use Rattle.envelope.specs.Opening.{met_at}
use Rattle.envelope.specs.declared.TlsMessageHead.{TlsMessageHead}
use Rattle.content_walk.specs.ContentWalks.{found_at, handshake_found, messages_of}
use Rattle.content_walk.specs.declared.TlsFound.{TlsFound}
use Rattle.content_walk.proofs.Found.{found_16, picked}
use Rattle.content_walk.proofs.Walking.{first_on}
use Rattle.record_open.specs.Plaintext.{as_content, as_first, first_of, is_opened}
use Rattle.norrabist_c.specs.Contents.{as_found}
use Rattle.norrabist_c.specs.Heads.{content_head, listed_head, no_head}

-- an answer that is accepted as the record's was accepted
pub first_accepted : {A : Type 0} (at : ℕ) (a : Answer A) {x : A} → as_first at a ≡ accepted x → a ≡ accepted x
first_accepted at (accepted y) e = e
first_accepted at (refused r) e = absurd (not_both e refl)

content_accepted : {A : Type 0} (t at : ℕ) (a : Answer A) {x : A} → as_content t at a ≡ accepted x → a ≡ accepted x
content_accepted t at (accepted y) e = e
content_accepted t at (refused r) e = absurd (not_both e refl)

module _ (at : ℕ) (content : List ℕ) where
  -- the first message of a handshake record is a handshake message
  pub first_16 : first_of 0x16 at content ≡ as_first at (giving as_found (met_at content 0))
  unfolding first_of handshake_found
  first_16 = rw (found_16 content 0) (go (giving as_found (met_at content 0)))
    where
      go : (a : Answer TlsFound) → as_content 0x16 at a ≡ as_first at a
      go (accepted x) = refl
      go (refused r) = refl

module _ (t at : ℕ) (content : List ℕ) where
  pub head_16 : eqb t 0x16 ≡ true → content_head t at content ≡ as_first at (listed_head content 0)
  unfolding content_head
  head_16 q = rw q

  pub head_other : eqb t 0x16 ≡ false → content_head t at content ≡ giving (λ x. no_head) (first_of t at content)
  unfolding content_head
  head_other q = rw q

  -- that of a handshake message is told
  pub own_got : {h : TlsMessageHead} → t ≡ 0x16 → listed_head content 0 ≡ accepted h
      → content_head t at content ≡ accepted h
  own_got z e = head_16 (eq-eqb t 0x16 z) ∙ rw e

  -- a first message was found, and is the first of all
  pub first_found : {x : TlsFound} → first_of t at content ≡ accepted x → found_at t content 0 ≡ accepted x
  unfolding first_of
  first_found e =
      content_accepted t at (found_at t content 0)
      (picked (is_opened t) (as_content t at (found_at t content 0)) (refusal Switch 0 0) e).1

  pub first_place : {x : TlsFound} → first_of t at content ≡ accepted x → place 0 (messages_of t content) ≡ accepted x
  unfolding place
  first_place e = rw (first_on t content (first_found e))

  -- a head that is told is that of a handshake message, or none
  pub told_head : {h : TlsMessageHead} → content_head t at content ≡ accepted h
      → (listed_head content 0 ≡ accepted h) ⊎ (no_head ≡ h)
  told_head {h} e = go (eqb t 0x16) refl
    where
      go : (y : Bool) → eqb t 0x16 ≡ y → (listed_head content 0 ≡ accepted h) ⊎ (no_head ≡ h)
      go true q = inl (first_accepted at (listed_head content 0) (sym (head_16 q) ∙ e))
      go false q =
          let u = then_accepted (first_of t at content) (λ x. accepted no_head) (sym (head_other q) ∙ e) in
          inr (cc u.2)

  -- where it is none, there is a message
  pub other_message : {h : TlsMessageHead} → content_head t at content ≡ accepted h → (t ≡ 0x16 → ⊥)
      → 1 ≤ length (messages_of t content)
  other_message e out =
      let u = then_accepted (first_of t at content) (λ x. accepted no_head)
      (sym (head_other (ne_eqb t 0x16 out)) ∙ e) in
      rw (first_on t content (first_found u.1)) (omega arith)
