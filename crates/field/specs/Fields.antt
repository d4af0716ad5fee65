-- A field, its rule, and what reading it at a place finds: RULES 2.2 to 2.5, RFC 5246 4.3. A
-- variable-length vector is its length in bytes and then its bytes.
use Rattle.std.specs.Prelude.{◌%◌}
use Rattle.refusal.specs.{ℕ, List, Bool, Option, none, some, leb, eqb, refusal, Answer, refused, then, Reason, Incomplete, Verify, LengthValue, TooLarge, BadLength, Refusal}
use Rattle.registry.specs.Limits.{session_id_limit, fragment_limit}
use Rattle.wire.specs.{pick, if_some, part_at, number_at, Part}
use Rattle.field.specs.declared.RuleName.{RuleName}
use Rattle.field.specs.declared.RuleName.TheVariants.{Plain, SessionId, Ciphers, Methods, Fragment}

-- the rule of a length. `broken`: the refusal that a length gets, made of the place of the length
-- and the place behind it; none where the length is allowed. `past`: why it is refused to read
-- where fewer bytes follow than the length says. `unfit`: why it is refused to write a part whose
-- length is not allowed
pub record Rule : Type 0 where
  pub broken : ℕ → Option (ℕ → ℕ → Refusal)
  pub past : Reason
  pub unfit : Reason

-- none where the test holds
abbrev pub unless : {A : Type 0} → Bool → A → Option A
unless t a = pick t none (some a)

-- RULES 2.4: Verify for a session id over 32; LengthValue for ciphers odd or past the end, and for
-- methods past the end; TooLarge for a record's fragment over 16,640, in writing too; else
-- Incomplete, and BadLength in writing
abbrev pub rule_of : RuleName → Rule
rule_of Plain = record { broken = λ n. none; past = Incomplete; unfit = BadLength }
rule_of SessionId = record { broken = λ n. unless (leb n session_id_limit) (λ at behind. refusal Verify at 0); past = Incomplete; unfit = BadLength }
rule_of Ciphers = record { broken = λ n. unless (eqb (n % 2) 0) (λ at behind. refusal LengthValue behind 0); past = LengthValue; unfit = BadLength }
rule_of Methods = record { broken = λ n. none; past = LengthValue; unfit = BadLength }
rule_of Fragment = record { broken = λ n. unless (leb n fragment_limit) (λ at behind. refusal TooLarge at 0); past = Incomplete; unfit = TooLarge }

-- a fixed number of bytes, or a length of w bytes and that many bytes
pub data Field : Type 0 where
  fixed : ℕ → Field
  vector : ℕ → Rule → Field

-- any bytes, behind a length of w bytes
abbrev pub sized : ℕ → Field
sized w = vector w (rule_of Plain)

-- the n bytes behind the length that stands at a place, n being the length announced
unfoldable pub ruled : Rule → List ℕ → ℕ → ℕ → ℕ → Answer Part
ruled r s at behind n = if_some (r.broken n) (λ no. refused (no at behind)) (part_at r.past s behind n)

-- the field that begins at a place
unfoldable pub step : Field → List ℕ → ℕ → Answer Part
step (fixed n) s at = part_at Incomplete s at n
step (vector w r) s at = then (number_at w s at) (λ l. ruled r s at l.next l.value)
