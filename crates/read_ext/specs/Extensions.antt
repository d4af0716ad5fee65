-- An extension block, read: RULES 11; RFC 5246 7.4.1.4. Its items fill it, each with data of its
-- kind, or the block is refused as a whole, with the index of the first item that cannot be had.
use Rattle.std.specs.Prelude.{◌-◌, ◌≡◌}
use Rattle.refusal.specs.{ℕ, List, Bool, length, eqb, Option, none, some, refusal, Answer, accepted, refused, then, Refusal, LengthValue, giving, Result, Ok, Err}
use Rattle.refusal.specs.Answers.{TellSame}
use Rattle.wire.specs.{pick, number_at, Number, View}
use Rattle.field.specs.Standing.{place_of}
use Rattle.list.specs.{place, or_no_such}
use Rattle.list.specs.Tagged.{any_data, fit_at, tagged_at, tagged_in, tagged_end, filled}
use Rattle.list.specs.declared.steps.Counted.{Counted}
use Rattle.list.specs.declared.tagged.Tagged.{Tagged}
use Rattle.registry.specs.Extensions.{server_name_ext, max_fragment_length_ext, supported_groups_ext}
use Rattle.read_ext.specs.Kinds.{kind_of, fits}
use Rattle.read_ext.specs.declared.{TlsExtension.TlsExtension, TlsExtensionFound.TlsExtensionFound, Damage.Damage, NotHad.NotHad}
use Rattle.read_ext.specs.declared.TlsExtension.TheVariants.{SNI, MaxFragmentLength, EllipticCurves, Unknown}

-- what is said of a block that is sound, or the index and the refusal of its first bad item
pub data InBlock (A : Type 0) : Type 0 where
  sound : A → InBlock A
  damaged : ℕ → Refusal → InBlock A

-- the same as an answer, without the index
abbrev pub answer_in : {A : Type 0} → InBlock A → Answer A
answer_in (sound a) = accepted a
answer_in (damaged n r) = refused r

-- the items, up to the first that cannot be had
abbrev pub items_of : List ℕ → List Tagged
items_of s = tagged_in 2 fits s

-- where the item ends that begins at a place; NoSuch where none does
abbrev pub past_item : List ℕ → ℕ → Answer ℕ
past_item s at = giving (λ x. x.next) (or_no_such (fit_at 2 fits s at))

-- what a sound block gives; LengthValue for a damaged one, at the first byte of its first bad item
unfoldable pub if_sound : {A : Type 0} → List ℕ → A → InBlock A
if_sound s a = pick (filled 2 fits s) (sound a) (damaged (length (items_of s)) (refusal LengthValue (tagged_end 2 fits s) 0))

-- the content: the data behind the length that the kind's field has, if it has one
abbrev pub content_view : ℕ → View → View
content_view t v = record { start = place_of (kind_of t v.len).field v.start; len = v.len - place_of (kind_of t v.len).field 0 }

-- the number at a place; 0 where there are not as many bytes
abbrev pub value_or_none : Answer Number → ℕ
value_or_none (accepted n) = n.value
value_or_none (refused r) = 0

unfoldable pub number_there : ℕ → List ℕ → ℕ → ℕ
number_there w s at = value_or_none (number_at w s at)

-- the extension of a type, by where its content lies
unfoldable pub extension_of : List ℕ → ℕ → View → TlsExtension
extension_of s t v =
    pick (eqb t server_name_ext) (SNI v)
    (pick (eqb t max_fragment_length_ext) (MaxFragmentLength (number_there 1 s v.start))
    (pick (eqb t supported_groups_ext) (EllipticCurves v)
    (Unknown t v)))

-- an item as it is handed out
unfoldable pub opened : List ℕ → Tagged → TlsExtensionFound
opened s x = record { ext_type = x.tag; content = content_view x.tag x.view; next = x.next; extension = extension_of s x.tag (content_view x.tag x.view) }

-- the item that begins at a place; NoSuch where none does
unfoldable pub opened_from : List ℕ → ℕ → Answer TlsExtensionFound
opened_from s at = or_no_such (giving (opened s) (fit_at 2 fits s at))

-- RULES 11.6: how many there are
unfoldable pub extensions : List ℕ → InBlock ℕ
extensions s = if_sound s (length (items_of s))

-- RULES 11.7: the one at a place, counted from 0
unfoldable pub extension_place : ℕ → List ℕ → InBlock (Answer TlsExtensionFound)
extension_place n s = if_sound s (giving (opened s) (place n (items_of s)))

-- RULES 11.8: a walk. At the front the whole block is looked at; a place behind it was handed out
-- of a sound one
unfoldable pub extension_from : List ℕ → ℕ → InBlock (Answer TlsExtensionFound)
extension_from s at = pick (eqb at 0) (if_sound s (opened_from s at)) (sound (opened_from s at))

-- how many items there are, and where they end
abbrev pub reach_in : ℕ → (ℕ → List ℕ → Bool) → List ℕ → Counted
reach_in w fit s = record { count = length (tagged_in w fit s); end = tagged_end w fit s }

-- RULES 11.9: of a list of names, those up to the first that does not fit
unfoldable pub name_from : List ℕ → ℕ → Answer Tagged
name_from s at = or_no_such (tagged_at 1 s at)

abbrev pub past_name : List ℕ → ℕ → Answer ℕ
past_name s at = giving (λ x. x.next) (name_from s at)

abbrev pub names_in : List ℕ → List Tagged
names_in s = tagged_in 1 any_data s

abbrev pub extensions_says : Result ℕ Damage → InBlock ℕ
extensions_says (Err d) = damaged d.index d.refusal
extensions_says (Ok n) = sound n

abbrev pub extension_says : Result TlsExtensionFound NotHad → InBlock (Answer TlsExtensionFound)
extension_says (Err (NotHad.Damaged d)) = damaged d.index d.refusal
extension_says (Err (NotHad.Refused r)) = sound (refused r)
extension_says (Ok x) = sound (accepted x)

-- what an answer of a block tells: the index, where it is damaged, and number and values
abbrev pub index_in : {A : Type 0} → InBlock A → Option ℕ
index_in (sound a) = none
index_in (damaged n r) = some n

-- RULES 10.16: an equal index, equal numbers and equal values are one result
pub record OneBlock : Type 0 where
  pub of_count : (x y : Result ℕ Damage) → index_in (extensions_says x) ≡ index_in (extensions_says y) → TellSame (answer_in (extensions_says x)) (answer_in (extensions_says y)) → x ≡ y
  pub of_one_of : (x y : Result TlsExtensionFound NotHad) → index_in (extension_says x) ≡ index_in (extension_says y) → TellSame (then (answer_in (extension_says x)) (λ a. a)) (then (answer_in (extension_says y)) (λ a. a)) → x ≡ y
