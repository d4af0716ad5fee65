-- What it is for a block to be made of extensions, with no reader in it, and what is shown of it:
-- RULES 11.5; RFC 5246 7.4.1.4. An extension is its type and its content; its data is the content
-- in the field of its kind.
use Rattle.std.specs.Prelude.{◌+◌, ◌^◌, ◌<◌, ◌≤◌, ◌≡◌, ◌⊎◌, ◌∷◌, ◌++◌}
use Rattle.refusal.specs.{ℕ, suc, List, [], map, true, length, refusal, accepted, refused, Refusal, LengthValue, NoSuch}
use Rattle.wire.specs.{part_of, Bytes}
use Rattle.field.specs.{field_bytes, Obeys}
use Rattle.registry.specs.Extensions.{server_name_ext, max_fragment_length_ext, supported_groups_ext}
use Rattle.list.specs.{place}
use Rattle.list.specs.Tagged.{tagged_bytes}
use Rattle.list.specs.declared.tagged.Tagged.{Tagged}
use Rattle.read_ext.specs.Kinds.{kind_of}
use Rattle.read_ext.specs.Extensions.{sound, damaged, items_of, content_view, extensions, extension_place, extension_from}
use Rattle.read_ext.specs.declared.TlsExtension.{TlsExtension}
use Rattle.read_ext.specs.declared.TlsExtension.TheVariants.{SNI, MaxFragmentLength, EllipticCurves, Unknown}
use Rattle.read_ext.specs.declared.TlsExtensionFound.{TlsExtensionFound}

-- the data that content makes, and the bytes of the extension
abbrev pub data_bytes : ℕ → List ℕ → List ℕ
data_bytes t c = field_bytes (kind_of t (length c)).field c

abbrev pub ext_bytes : ℕ × List ℕ → List ℕ
ext_bytes (t, c) = tagged_bytes 2 (t, data_bytes t c)

-- type and content are an extension: the kind takes the content, and two bytes hold the type and
-- the length of the data
abbrev pub IsExt : ℕ × List ℕ → Type 0
IsExt (t, c) = (t < 256 ^ 2) × Obeys (kind_of t (length c)).field c × ((kind_of t (length c)).held c ≡ true) × (length (data_bytes t c) < 256 ^ 2)

abbrev pub EachExt : List (ℕ × List ℕ) → Type 0
EachExt [] = Unit
EachExt (x ∷ xs) = IsExt x × EachExt xs

unfoldable pub join_exts : List (ℕ × List ℕ) → List ℕ
join_exts [] = []
join_exts (x ∷ xs) = ext_bytes x ++ join_exts xs

-- no extension stands at the front of the bytes
abbrev pub NoneExt : List ℕ → Type 0
NoneExt b = (x : ℕ × List ℕ) (rest : List ℕ) → IsExt x → b ≡ ext_bytes x ++ rest → ⊥

-- the block is the join of these
pub record BlockSplit (s : List ℕ) (xs : List (ℕ × List ℕ)) : Type 0 where
  pub each : EachExt xs
  pub whole : s ≡ join_exts xs

-- the block is these, and then bytes at whose front none stands
pub record BlockBreak (s : List ℕ) (xs : List (ℕ × List ℕ)) (rest : List ℕ) : Type 0 where
  pub each : EachExt xs
  pub whole : s ≡ join_exts xs ++ rest
  pub left : 1 ≤ length rest
  pub none_had : NoneExt rest

-- the extensions handed out, as type and content
abbrev pub contents_of : List ℕ → List Tagged → List (ℕ × List ℕ)
contents_of s xs = map (λ (x : Tagged). (x.tag, part_of s (content_view x.tag x.view))) xs

-- what a value says: its type and its content
abbrev pub value_says : List ℕ → TlsExtension → ℕ × List ℕ
value_says s (SNI v) = (server_name_ext, part_of s v)
value_says s (MaxFragmentLength b) = (max_fragment_length_ext, b ∷ [])
value_says s (EllipticCurves v) = (supported_groups_ext, part_of s v)
value_says s (Unknown t v) = (t, part_of s v)

-- what is handed out is the extension at the place, its value says just that, and it ends where its
-- content ends
pub record HandedAs (s : List ℕ) (k : ℕ) (x : TlsExtensionFound) : Type 0 where
  pub its : place k (contents_of s (items_of s)) ≡ accepted (x.ext_type, part_of s x.content)
  pub value : value_says s x.extension ≡ (x.ext_type, part_of s x.content)
  pub ends : x.next ≡ x.content.start + x.content.len
  pub inside : x.next ≤ length s

pub record ByExtensions (s : List ℕ) : Type 0 where
  -- a block is the join of extensions, or it breaks behind some
  pub whichever : ((xs : List (ℕ × List ℕ)) × BlockSplit s xs) ⊎ ((xs : List (ℕ × List ℕ)) × (rest : List ℕ) × BlockBreak s xs rest)
  -- a block that is a join is accepted, and the extensions handed out are that split
  pub accepts : (xs : List (ℕ × List ℕ)) → BlockSplit s xs → (extensions s ≡ sound (length xs)) × (contents_of s (items_of s) ≡ xs)
  -- and only such a one is
  pub splits : (n : ℕ) → extensions s ≡ sound n → BlockSplit s (contents_of s (items_of s)) × (n ≡ length (items_of s))
  -- in one way
  pub only : (xs ys : List (ℕ × List ℕ)) → BlockSplit s xs → BlockSplit s ys → xs ≡ ys
  -- one that breaks is refused with the index of the first that cannot be had, at its first byte
  pub refuses : (xs : List (ℕ × List ℕ)) (rest : List ℕ) → BlockBreak s xs rest → extensions s ≡ damaged (length xs) (refusal LengthValue (length (join_exts xs)) 0)
  -- and only for that
  pub lacks : (n : ℕ) (r : Refusal) → extensions s ≡ damaged n r → (rest : List ℕ) × BlockBreak s (contents_of s (items_of s)) rest × (n ≡ length (items_of s))
  -- nothing is handed out of a damaged block: by place, or at the front of a walk
  pub withheld : (n : ℕ) (r : Refusal) → extensions s ≡ damaged n r → ((k : ℕ) → extension_place k s ≡ damaged n r) × (extension_from s 0 ≡ damaged n r)
  -- of a sound one there is an extension at every place below the count, the one of the split with
  -- its type and content, and NoSuch from there on
  pub below : (n k : ℕ) → extensions s ≡ sound n → k < n → (x : TlsExtensionFound) × (extension_place k s ≡ sound (accepted x)) × HandedAs s k x
  pub past : (n k : ℕ) → extensions s ≡ sound n → n ≤ k → extension_place k s ≡ sound (refused (refusal NoSuch 0 0))
  -- a walk from the front, each time from the place handed out, meets all of them in order
  pub begins : extension_from s 0 ≡ extension_place 0 s
  pub goes_on_of : (k : ℕ) (x : TlsExtensionFound) → extension_place k s ≡ sound (accepted x) → extension_from s x.next ≡ extension_place (suc k) s

-- the theorem; shown by `proofs/Blocks.antt`
abbrev pub EveryBlock : Type 0
EveryBlock = (s : List ℕ) → Bytes s → ByExtensions s
