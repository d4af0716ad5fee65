-- `field::RuleName::broken` meets its contract: a rule that refuses has one refusal for a length
-- that it does not allow, another allows all. Assumes nothing.
use Prim.Native.Nat.{ℕ, ◌%◌}
use mathlib.Core.Path.{◌≡◌}
use mathlib.Core.Bool.{false}
use mathlib.Core.List.{List}
use mathlib.Core.Logic.{◌⊎◌, inl, inr}
use lib.Dec.{leb, eqb}
use Rattle.std.proofs.lemmas.Bool.{true≢false}
use Rattle.refusal.specs.Refusals.{refusal}
use Rattle.refusal.specs.declared.Reason.TheVariants.{Verify, LengthValue, TooLarge}
use Rattle.refusal.specs.Answers.{refused}
use Rattle.refusal.specs.declared.Refusal.{Refusal}
use Rattle.field.specs.Fields.{rule_of, ruled}
use Rattle.field.specs.Texts.{allows}
use Rattle.field.specs.declared.RuleName.{RuleName}
use Rattle.field.specs.declared.RuleName.TheVariants.{Ciphers, Methods}
use Rattle.field.proofs.Rules.{unless_fails}
use Rattle.field.proofs.RuleName.broken.Goals as goal

pub returns-in-Plain : goal.returns-in-Plain
returns-in-Plain c s n e = absurd (true≢false (rw c.in-Plain.is at e))

pub returns-in-SessionId : goal.returns-in-SessionId
unfolding ruled
returns-in-SessionId c s n =
    rw c.in-SessionId.is
    (unless_fails (leb n 32) (λ at behind. refusal Verify at 0) _ _ _ c.refuse-in-SessionId.ensures)

of_pair : (k : RuleName) (s : List ℕ) (at next n : ℕ) {y : Refusal} → (k ≡ Ciphers) ⊎ (k ≡ Methods)
    → y ≡ refusal LengthValue next 0 → allows (rule_of k) n ≡ false → ruled (rule_of k) s at next n ≡ refused y
unfolding ruled
of_pair k s at next n (inl e) q a =
    rw e (unless_fails (eqb (n % 2) 0) (λ at behind. refusal LengthValue behind 0) _ _ _ q (rw e at a))
of_pair k s at next n (inr e) q a = absurd (true≢false (rw e at a))

pub returns-in-Ciphers : goal.returns-in-Ciphers
returns-in-Ciphers c s n = of_pair _ s _ _ n c.in-Ciphers.is c.refuse-in-Ciphers.ensures

pub returns-in-Fragment : goal.returns-in-Fragment
unfolding ruled
returns-in-Fragment c s n =
    rw c.in-Fragment.is
    (unless_fails (leb n 16640) (λ at behind. refusal TooLarge at 0) _ _ _ c.refuse-in-Fragment.ensures)
