-- `record_walk::opens_any` meets its contract: of 0x00 and 0x05 no body is read, and the others'
-- are handed out whole; of every other type the body of no bytes is refused. Assumes nothing.
use Prim.Native.Nat.{ℕ, zero, suc, ◌+◌, ◌-◌, ◌<◌, ◌≤◌}
use mathlib.Core.Path.{◌≡◌, refl}
use mathlib.Core.Logic.{◌⊎◌, inl, inr}
use mathlib.Core.List.{[]}
use native.Mathlib.Omega.{arith}
use Rattle.refusal.specs.Answers.{Answer, refused}
use Rattle.refusal.specs.Refusals.{unplaced}
use Rattle.refusal.specs.declared.Reason.TheVariants.{Switch}
use Rattle.refusal.specs.declared.Refusal.{Refusal}
use Rattle.refusal.proofs.Then.{not_both}
use Rattle.wire.specs.Parts.{if_some, part_at}
use Rattle.wire.specs.Numbers.{number_at}
use Rattle.field.specs.Fields.{step}
use Rattle.grammar.specs.Reading.{fields_at, read}
use Rattle.grammar.specs.Forms.{reading}
use Rattle.read_certs.specs.Certs.{certificate_request}
use Rattle.read_others.specs.Body.{session_ticket}
use Rattle.message.specs.declared.handshake.TlsMessageHandshake.{TlsMessageHandshake}
use Rattle.message.proofs.Lookup.{◌&◌, by_rows}
use Rattle.open_hellos.specs.HelloMessages.{server_message}
use Rattle.open_whole.specs.Whole.{whole_body}
use Rattle.envelope.specs.Opening.{by_type, openings, opened}
use Rattle.envelope.proofs.Whole.{whole_body_lem}
use Rattle.record_walk.specs.Walks.{OpensAny}
use Rattle.record_walk.proofs.opens_any.Goals as goal

-- the types that stand alone
lone : (k : ℕ) → (k ≡ 0x00) ⊎ ((k ≡ 0x05) ⊎ ((k ≡ 0x0c) ⊎ (k ≡ 0x14))) → OpensAny k
unfolding by_type opened
lone k (inl e) s = rw e (_, refl)
lone k (inr (inl e)) s = rw e (_, refl)
lone k (inr (inr (inl e))) s = rw e (_, whole_body_lem _ s)
lone k (inr (inr (inr e))) s = rw e (_, whole_body_lem _ s)

-- those of the range
ranged : (d : ℕ) → d < 3 → OpensAny (0x0e + d)
unfolding by_type opened
ranged zero h s = (_, whole_body_lem _ s)
ranged (suc zero) h s = (_, whole_body_lem _ s)
ranged (suc (suc zero)) h s = (_, whole_body_lem _ s)
ranged (suc (suc (suc d))) h s = absurd (omega arith)

-- a body that is refused
abbrev Refuses : Answer TlsMessageHandshake → Type 0
Refuses a = (r : Refusal) × (a ≡ refused r)

module _ (k : ℕ) (lacks : (k ≡ 0x00) ⊎ ((k ≡ 0x05) ⊎ ((k ≡ 0x0c) ⊎ (k ≡ 0x14))) → ⊥)
    (outside : (k < 0x0e) ⊎ (0x10 < k)) where
  not-ranged : {j : ℕ} → k ≡ j → 0x0e ≤ j → j ≤ 0x10 → ⊥
  not-ranged {j} q l h = go outside
    where
      go : (k < 0x0e) ⊎ (0x10 < k) → ⊥
      go (inl m) = omega (arith, q)
      go (inr m) = omega (arith, q)

  -- of no bytes, every other type's body
  empty-refused : Refuses (by_type k [])
  unfolding by_type opened server_message whole_body session_ticket certificate_request reading read fields_at step number_at part_at
  empty-refused =
      by_rows (λ o. Refuses (if_some o (λ a. a) (refused (unplaced Switch)))) k (openings 0 [])
      ((λ q. absurd (lacks (inl q)))
      & (λ q. (_, refl))
      & (λ q. (_, refl))
      & (λ q. (_, refl))
      & (λ q. absurd (lacks (inr (inl q))))
      & (λ q. (_, refl))
      & (λ q. (_, refl))
      & (λ q. absurd (lacks (inr (inr (inl q)))))
      & (λ q. (_, refl))
      & (λ q. absurd (not-ranged q (omega arith) (omega arith)))
      & (λ q. absurd (not-ranged q (omega arith) (omega arith)))
      & (λ q. absurd (not-ranged q (omega arith) (omega arith)))
      & (λ q. absurd (lacks (inr (inr (inr q)))))
      & (λ q. (_, refl))
      & (λ q. (_, refl))
      & (λ q. (_, refl))
      & tt)
      (_, refl)

  shut : OpensAny k → ⊥
  shut o = not_both (o []).1 empty-refused.1

pub returns-in_default : goal.returns-in_default
returns-in_default c =
    (λ e. cc, λ o. absurd (shut _ c.in_default.in_default-own.rest.1 (inl (omega arith)) o))

pub returns-in_default-2 : goal.returns-in_default-2
returns-in_default-2 c =
    (λ e. cc, λ o. absurd (shut _ c.in_default.in_default-own.rest.1 (inr (omega arith)) o))

pub returns-in-0 : goal.returns-in-0
returns-in-0 c = (λ e. lone _ c.in-0.in-0-own.keys1, λ o. refl)

pub returns-in-0-2 : goal.returns-in-0-2
returns-in-0-2 c =
    let k = c.args.msg_type in
    let d : k ≡ 0x0e + (k - 0x0e) = omega arith in
    (λ e. rw d (ranged (k - 0x0e) (omega arith)), λ o. refl)
