-- What is written of extensions: RULES 11.10 to 11.14; tls-parser's `gen_tls_extension` and
-- `gen_tls_extensions`. A text is the finished bytes, or the refusal to write any.
use Rattle.std.specs.Prelude.{◌+◌, ◌%◌, ◌^◌, ◌≤◌, ◌≡◌, ◌∷◌, ◌++◌, ◌&&◌}
use Rattle.refusal.specs.{ℕ, List, [], map, Bool, true, false, length, ltb, eqb, unplaced, Answer, accepted, refused, then, giving, BadLength, NotYetImplemented}
use Rattle.wire.specs.{pick, bytes_of, Part}
use Rattle.field.specs.{fixed, sized, step, field_bytes, allowed, field_text}
use Rattle.list.specs.{items_from}
use Rattle.read_ext.specs.Kinds.{kind_of, is_raw}
use Rattle.read_ext.specs.declared.TlsExtension.{TlsExtension}
use Rattle.read_ext.specs.declared.TlsExtension.TheVariants.{SNI, MaxFragmentLength, EllipticCurves, Unknown}
use Rattle.registry.specs.Extensions.{server_name_ext, max_fragment_length_ext, supported_groups_ext}
use Rattle.read_ext.specs.Extensions.{number_there}
use Rattle.read_ext.specs.Splits.{data_bytes, ext_bytes}
use Rattle.write_rules.specs.MessageTexts.{view_text}
use Rattle.write_ext.specs.declared.{rows.Row.Row}

-- content may be written, `IsExt` as a test: the kind takes it, and two bytes can hold the length
-- of the data
unfoldable pub may_stand : ℕ → List ℕ → Bool
may_stand t c = allowed (kind_of t (length c)).field (length c) && ((kind_of t (length c)).held c && ltb (length (data_bytes t c)) (256 ^ 2))

-- RULES 11.11: NotYetImplemented for a raw one, then BadLength
unfoldable pub ext_text : ℕ → List ℕ → Answer (List ℕ)
ext_text t c = pick (is_raw t) (refused (unplaced NotYetImplemented)) (pick (may_stand t c) (accepted (ext_bytes (t, c))) (refused (unplaced BadLength)))

-- an extension as a value: its views are of the bytes lent with it
unfoldable pub value_text : List ℕ → TlsExtension → Answer (List ℕ)
value_text s (SNI v) = then (view_text s v) (ext_text server_name_ext)
value_text s (MaxFragmentLength b) = ext_text max_fragment_length_ext (b ∷ [])
value_text s (EllipticCurves v) = then (view_text s v) (ext_text supported_groups_ext)
value_text s (Unknown t v) = refused (unplaced NotYetImplemented)

-- the texts joined, or the first refusal
unfoldable pub join_texts : List (Answer (List ℕ)) → Answer (List ℕ)
join_texts [] = accepted []
join_texts (a ∷ more) = then a (λ b. giving (λ bs. b ++ bs) (join_texts more))

-- a raw one among them
abbrev pub any_raw : List (ℕ × List ℕ) → Bool
any_raw [] = false
any_raw ((t, c) ∷ xs) = pick (is_raw t) true (any_raw xs)

-- what stands behind a length of two bytes, where that can hold its length
unfoldable pub capped : List ℕ → Answer (List ℕ)
capped bs = pick (allowed (sized 2) (length bs)) (accepted bs) (refused (unplaced BadLength))

-- RULES 11.12: a list of extensions as type and content, behind its outer length: NotYetImplemented
-- where a raw one is anywhere, then BadLength
unfoldable pub list_text : List (ℕ × List ℕ) → Answer (List ℕ)
list_text xs = pick (any_raw xs) (refused (unplaced NotYetImplemented)) (giving (field_bytes (sized 2)) (then (join_texts (map (λ x. ext_text x.0 x.1) xs)) capped))

-- RULES 11.13: a list of values is lent as rows of ten bytes, an extension each, as the exports
-- tell one: its type (2), and where its content begins (4) and how long it is (4) in the bytes lent
-- with them
abbrev pub row_length : ℕ
row_length = 10

abbrev pub row_of : List ℕ → Part → Row
row_of v p = record {
  ext_type = number_there 2 v p.view.start;
  content = record { start = number_there 4 v (p.view.start + 2); len = number_there 4 v (p.view.start + 6) };
  next = p.next;
}

unfoldable pub row_from : List ℕ → ℕ → Answer Row
row_from v at = giving (row_of v) (step (fixed row_length) v at)

abbrev pub rows : List ℕ → List Row
rows v = items_from (length v) (row_from v) (λ r. r.next) 0

-- the text of a row: NotYetImplemented, then BadLength, also where its content lies outside
unfoldable pub row_text : List ℕ → Row → Answer (List ℕ)
row_text s r = pick (is_raw r.ext_type) (refused (unplaced NotYetImplemented)) (then (view_text s r.content) (ext_text r.ext_type))

-- a raw one among them
unfoldable pub raw_row : List Row → Bool
raw_row [] = false
raw_row (r ∷ rs) = pick (is_raw r.ext_type) true (raw_row rs)

-- the extensions of all rows
unfoldable pub joined_in : List ℕ → List ℕ → Answer (List ℕ)
joined_in v s = then (join_texts (map (row_text s) (rows v))) capped

-- the text of the rows: NotYetImplemented where a raw one is anywhere, then BadLength, also where
-- bytes are left behind the last row
unfoldable pub rows_text : List ℕ → List ℕ → Answer (List ℕ)
rows_text v s =
    pick (raw_row (rows v)) (refused (unplaced NotYetImplemented))
    (pick (eqb (length v % row_length) 0) (giving (field_bytes (sized 2)) (joined_in v s)) (refused (unplaced BadLength)))

-- the rows may be put into an output
abbrev pub RowsFit : List ℕ → List ℕ → List ℕ → Type 0
RowsFit v s d = (bs : List ℕ) × (joined_in v s ≡ accepted bs) × (length bs ≤ length d)

-- RULES 11.14: an entry of a list of server names: its type, and the name behind its length
unfoldable pub name_text : ℕ → List ℕ → Answer (List ℕ)
name_text t n = giving (λ b. bytes_of 1 t ++ b) (field_text (sized 2) n)
