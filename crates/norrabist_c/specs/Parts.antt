-- What is told of a part that may be missing: whether it is there, and its length.
use Rattle.refusal.specs.{ℕ, is_some}
use Rattle.wire.specs.{OptView, None, Some}
use Rattle.norrabist_c.specs.declared.parts.OptTold.{OptTold}

-- the length of a part, of an absent one 0
abbrev pub opt_len : OptView → ℕ
opt_len None = 0
opt_len (Some v) = v.len

abbrev pub opt_told : OptView → OptTold
opt_told v = record { len = opt_len v; present = is_some v }
