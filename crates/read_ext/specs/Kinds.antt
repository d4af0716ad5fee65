-- What the data of an extension has to be, by its type: RULES 11.3; RFC 6066 3, 4, RFC 8422 5.1.1.
-- A kind is a field that has to be the data to the last byte (`field/specs/Closing.antt`), and what
-- may stand in it. So the rules of lengths are said and shown once, of any kind.
use Rattle.std.specs.Prelude.{◌≡◌, ◌⊎◌, ◌∷◌}
use Rattle.refusal.specs.{ℕ, List, [], Bool, true, false, length, refusal, Answer, accepted, refused, LengthValue}
use Rattle.registry.specs.Extensions.{server_name_ext, max_fragment_length_ext, supported_groups_ext}
use Rattle.wire.specs.{if_some, lookup, part_of, Bytes, Part}
use Rattle.field.specs.{Field, fixed, vector, sized, rule_of, Ciphers, close_at}
use Rattle.field.specs.Closing.{Closes}
use Rattle.list.specs.Tagged.{any_data, filled}

-- `field` is what the data is, to the last byte; `held` tests its content
pub record Kind : Type 0 where
  pub field : Field
  pub held : List ℕ → Bool

abbrev pub anything : List ℕ → Bool
anything c = true

-- names one behind the other, each a type of a byte and the name behind a length of two
abbrev pub names_fill : List ℕ → Bool
names_fill c = filled 1 any_data c

-- RFC 6066 3: a list of names behind its length, which they fill
abbrev pub server_names : Kind
server_names = record { field = sized 2; held = names_fill }

-- RFC 6066 4: one byte, whatever its value
abbrev pub fragment_length : Kind
fragment_length = record { field = fixed 1; held = anything }

-- RFC 8422 5.1.1: a list of groups of two bytes each behind its length, which is even
abbrev pub supported_groups : Kind
supported_groups = record { field = vector 2 (rule_of Ciphers); held = anything }

-- RULES 11.4: all other types stay raw, their data being whatever it is
abbrev pub raw : ℕ → Kind
raw n = record { field = fixed n; held = anything }

-- the types that are opened
abbrev pub kinds : List (ℕ × Kind)
kinds = (server_name_ext, server_names) ∷ (max_fragment_length_ext, fragment_length) ∷ (supported_groups_ext, supported_groups) ∷ []

-- the kind of a type whose data has n bytes
abbrev pub kind_of : ℕ → ℕ → Kind
kind_of t n = if_some (lookup t kinds) (λ k. k) (raw n)

-- whether a type stays raw
abbrev pub is_raw : ℕ → Bool
is_raw t = if_some (lookup t kinds) (λ k. false) true

abbrev pub held_in : Kind → List ℕ → Answer Part → Bool
held_in k d (accepted p) = k.held (part_of d p.view)
held_in k d (refused r) = false

-- the data is of the kind: its field closes it, and the content may stand there
unfoldable pub is_of : Kind → List ℕ → Bool
is_of k d = held_in k d (close_at k.field (refusal LengthValue 0 0) d 0)

-- the data of a type
abbrev pub fits : ℕ → List ℕ → Bool
fits t d = is_of (kind_of t (length d)) d

-- content that the kind takes, and the data that it makes; no reader in it
abbrev pub Takes : Kind → List ℕ → List ℕ → Type 0
Takes k d c = Closes k.field d c × (k.held c ≡ true)

-- the law of lengths, for any kind and all data: it is of the kind just where it is made of one
-- content that the kind takes
pub record ByKind (k : Kind) (d : List ℕ) : Type 0 where
  pub whichever : ((c : List ℕ) × Takes k d c) ⊎ ((c : List ℕ) → Takes k d c → ⊥)
  pub accepts : (c : List ℕ) → Takes k d c → is_of k d ≡ true
  pub splits : is_of k d ≡ true → (c : List ℕ) × Takes k d c
  pub only : (c e : List ℕ) → Takes k d c → Takes k d e → c ≡ e
  pub refuses : ((c : List ℕ) → Takes k d c → ⊥) → is_of k d ≡ false

-- shown by `proofs/OfKind.antt`
abbrev pub EveryKind : Type 0
EveryKind = (k : Kind) (d : List ℕ) → Bytes d → ByKind k d
