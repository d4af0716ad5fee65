-- What is shown of a list that is written: RULES 11.12 to 11.14. When it is refused and with what,
-- that reading gives it back, that a block that was read is written to the same bytes, and where
-- the outer length ends it.
use Rattle.std.specs.Prelude.{◌+◌, ◌*◌, ◌%◌, ◌<◌, ◌≤◌, ◌≡◌, ◌∷◌, ◌++◌, ◌&&◌}
use Rattle.refusal.specs.{ℕ, List, [], map, true, false, Bool, length, drop, unplaced, accepted, refused, BadLength, NotYetImplemented}
use Rattle.wire.specs.{part_of, bytes_of, lies_in, Bytes}
use Rattle.list.specs.Tagged.{tagged_bytes}
use Rattle.list.specs.declared.tagged.Tagged.{Tagged}
use Rattle.read_ext.specs.Extensions.{sound, extensions, items_of, content_view}
use Rattle.read_ext.specs.Splits.{EachExt, join_exts, contents_of, value_says}
use Rattle.read_ext.specs.declared.TlsExtension.{TlsExtension}
use Rattle.registry.specs.Extensions.{server_name_ext, supported_groups_ext}
use Rattle.write_ext.specs.ExtTexts.{any_raw, list_text, ext_text, value_text, rows, rows_text, raw_row, row_length}
use Rattle.write_ext.specs.declared.rows.Row.{Row}

-- RULES 11.12: the order over the whole list
pub record ByList (xs : List (ℕ × List ℕ)) : Type 0 where
  -- NotYetImplemented where a raw one is anywhere
  pub with_raw : any_raw xs ≡ true → list_text xs ≡ refused (unplaced NotYetImplemented)
  -- then BadLength where one is no extension, or two bytes cannot hold the length of all
  pub bad : any_raw xs ≡ false → (EachExt xs × (length (join_exts xs) < 65536) → ⊥) → list_text xs ≡ refused (unplaced BadLength)
  -- else the extensions behind their length
  pub good : any_raw xs ≡ false → EachExt xs → length (join_exts xs) < 65536 → list_text xs ≡ accepted (bytes_of 2 (length (join_exts xs)) ++ join_exts xs)
  -- and what is written is just that
  pub written : (b : List ℕ) → list_text xs ≡ accepted b → EachExt xs × (length (join_exts xs) < 65536) × (b ≡ bytes_of 2 (length (join_exts xs)) ++ join_exts xs)
  -- read from behind the outer length, the list comes back
  pub back : (b : List ℕ) → Bytes b → list_text xs ≡ accepted b → (extensions (drop 2 b) ≡ sound (length xs)) × (contents_of (drop 2 b) (items_of (drop 2 b)) ≡ xs)

-- a block that was read and has no raw extension is written to the same bytes, where an outer
-- length can stand before it
pub record ByBlock (s : List ℕ) : Type 0 where
  pub same : (n : ℕ) → extensions s ≡ sound n → any_raw (contents_of s (items_of s)) ≡ false → length s < 65536 → list_text (contents_of s (items_of s)) ≡ accepted (bytes_of 2 (length s) ++ s)
  pub long : (n : ℕ) → extensions s ≡ sound n → any_raw (contents_of s (items_of s)) ≡ false → 65536 ≤ length s → list_text (contents_of s (items_of s)) ≡ refused (unplaced BadLength)

-- the rows of the extensions of a block, as they are told
unfoldable pub told_rows : List Tagged → List ℕ
told_rows [] = []
told_rows (x ∷ xs) = (bytes_of 2 x.tag ++ (bytes_of 4 (content_view x.tag x.view).start ++ bytes_of 4 (content_view x.tag x.view).len)) ++ told_rows xs

abbrev pub all_lie : List ℕ → List Row → Bool
all_lie s [] = true
all_lie s (r ∷ rs) = lies_in s r.content && all_lie s rs

-- what rows name in the bytes lent with them
abbrev pub named : List ℕ → List Row → List (ℕ × List ℕ)
named s rs = map (λ (r : Row). (r.ext_type, part_of s r.content)) rs

-- RULES 11.13: rows, whatever they hold, are the list that they name, or refused
pub record ByRows (v s : List ℕ) : Type 0 where
  pub with_raw : raw_row (rows v) ≡ true → rows_text v s ≡ refused (unplaced NotYetImplemented)
  pub left_over_of : raw_row (rows v) ≡ false → (length v % row_length ≡ 0 → ⊥) → rows_text v s ≡ refused (unplaced BadLength)
  pub outside : raw_row (rows v) ≡ false → all_lie s (rows v) ≡ false → rows_text v s ≡ refused (unplaced BadLength)
  pub list : length v % row_length ≡ 0 → all_lie s (rows v) ≡ true → rows_text v s ≡ list_text (named s (rows v))

-- the rows told of a block name its extensions, so that one that was read is written to the same
-- bytes by them
pub record ByTold (s : List ℕ) : Type 0 where
  pub told : length s < 65536 → rows_text (told_rows (items_of s)) s ≡ list_text (contents_of s (items_of s))

-- an extension that is lent as a value is written as its type and content
pub record ByValue (s : List ℕ) (m : TlsExtension) : Type 0 where
  pub wrote : (b : List ℕ) → value_text s m ≡ accepted b → ext_text (value_says s m).0 (value_says s m).1 ≡ accepted b

-- RULES 11.14: the outer length decides: one host name of 65,526 bytes and no more, 32,764 groups
-- and no more
pub record AtEdge : Type 0 where
  pub name : (t : ℕ) (h : List ℕ) → t < 256 → length h ≤ 65526 → (b : List ℕ) × (list_text ((server_name_ext, tagged_bytes 1 (t, h)) ∷ []) ≡ accepted b) × (length b ≡ length h + 11)
  pub longer_name : (t : ℕ) (h : List ℕ) → 65526 < length h → list_text ((server_name_ext, tagged_bytes 1 (t, h)) ∷ []) ≡ refused (unplaced BadLength)
  pub groups : (g : List ℕ) (n : ℕ) → length g ≡ n * 2 → n ≤ 32764 → (b : List ℕ) × (list_text ((supported_groups_ext, g) ∷ []) ≡ accepted b) × (length b ≡ n * 2 + 8)
  pub more_groups : (g : List ℕ) (n : ℕ) → length g ≡ n * 2 → 32764 < n → list_text ((supported_groups_ext, g) ∷ []) ≡ refused (unplaced BadLength)

-- the theorems; shown by `proofs/WholeLists.antt`, and of rows and blocks by `proofs/RowLists.antt`
abbrev pub EveryList : Type 0
EveryList = (xs : List (ℕ × List ℕ)) → ByList xs

abbrev pub EveryRead : Type 0
EveryRead = (s : List ℕ) → Bytes s → ByBlock s × ByTold s

abbrev pub EveryRows : Type 0
EveryRows = (v s : List ℕ) → ByRows v s

abbrev pub EveryValue : Type 0
EveryValue = (s : List ℕ) (m : TlsExtension) → ByValue s m
