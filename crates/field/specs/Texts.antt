-- A field written: RULES 2.4, 7.2; RFC 5246 4.3. Its bytes are those that a reader splits off,
-- `field_bytes`.
use Rattle.std.specs.Prelude.{◌^◌, ◌&&◌}
use Rattle.refusal.specs.{ℕ, List, Bool, true, false, length, ltb, eqb, unplaced, Answer, accepted, refused, Reason, BadLength}
use Rattle.wire.specs.{pick, if_some}
use Rattle.field.specs.Fields.{Field, fixed, vector, Rule}
use Rattle.field.specs.Standing.{field_bytes}

-- the rule allows the length
abbrev pub allows : Rule → ℕ → Bool
allows r n = if_some (r.broken n) (λ no. false) true

-- `Obeys` as a test of the length
abbrev pub allowed : Field → ℕ → Bool
allowed (fixed k) n = eqb n k
allowed (vector w r) n = ltb n (256 ^ w) && allows r n

-- why it is refused to write a part that may not stand in the field
abbrev pub unfit : Field → Reason
unfit (fixed k) = BadLength
unfit (vector w r) = r.unfit

-- the field's bytes for a part, where it may stand there
unfoldable pub field_text : Field → List ℕ → Answer (List ℕ)
field_text f p = pick (allowed f (length p)) (accepted (field_bytes f p)) (refused (unplaced (unfit f)))
