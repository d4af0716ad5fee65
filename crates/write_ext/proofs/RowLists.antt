-- Rows of extensions: they are the list that they name, or refused, and those told of a block name
-- its extensions. Assumes nothing.
use Prim.Native.Nat.{ℕ, zero, suc, ◌+◌, ◌-◌, ◌*◌, ◌%◌, ◌^◌, ◌<◌, ◌≤◌}
use mathlib.Core.Path.{◌≡◌, refl, ap, ap₂, sym, ◌∙◌}
use mathlib.Core.Logic.{inl, inr}
use mathlib.Core.Bool.{Bool, true, false}
use mathlib.Core.List.{List, [], ◌∷◌, ◌++◌, map, append_assoc}
use native.Mathlib.Omega.{arith}
use borrow.Author.Tests.{ne_eqb, eq-eqb, le-leb}
use lib.Dec.{eqb}
use lib.ListN.{length, drop, length-append, length-drop}
use lib.Seq.{drop_at, drop-drop}
use Rattle.refusal.specs.Answers.{Answer, accepted, refused}
use Rattle.refusal.specs.Refusals.{unplaced}
use Rattle.refusal.specs.declared.Reason.TheVariants.{Incomplete, BadLength, NotYetImplemented}
use Rattle.refusal.proofs.Then.{then_accepted}
use Rattle.wire.specs.Numbers.{Bytes, be, bytes_of}
use Rattle.wire.specs.Parts.{part_of, lies_in}
use Rattle.wire.proofs.Parts.{part_in}
use Rattle.wire.proofs.Numbers.{length_bytes, be_drop, be_of, number_got}
use Rattle.field.specs.Fields.{fixed, step}
use Rattle.field.proofs.Rules.{step_in, fixed_in}
use Rattle.field.proofs.Texts.{both_true}
use Rattle.list.specs.Items.{items_from}
use Rattle.list.specs.Tagged.{fit_at}
use Rattle.list.specs.declared.tagged.Tagged.{Tagged}
use Rattle.list.proofs.Walk.{Moves, rest, rest_all, rest_on}
use Rattle.read_ext.specs.Kinds.{is_raw, fits}
use Rattle.read_ext.specs.Extensions.{sound, extensions, items_of, content_view, number_there}
use Rattle.read_ext.specs.Splits.{contents_of}
use Rattle.read_ext.proofs.Blocks.{every_block}
use Rattle.read_ext.proofs.Data.{openable, says_content}
use Rattle.write_ext.specs.ExtTexts.{ext_text, join_texts, any_raw, list_text, row_length, row_of, row_from, rows}
use Rattle.write_ext.specs.ExtTexts.{row_text, raw_row, joined_in, rows_text}
use Rattle.write_ext.specs.ListsBack.{told_rows, all_lie, named, EveryRead, EveryRows}
use Rattle.write_ext.specs.declared.rows.Row.{Row}
use Rattle.write_ext.proofs.OneText.{text_raw}
use Rattle.write_ext.proofs.AllRows.{row_raw, row_inside, row_outside}
use Rattle.write_ext.proofs.WholeLists.{true_false, neither, OneText, ext_either, texts_of, every_list}

-- the text of a row whose content lies in the bytes, raw or not
row_in : (s : List ℕ) (r : Row) → lies_in s r.content ≡ true
    → row_text s r ≡ ext_text r.ext_type (part_of s r.content)
row_in s r q = go (is_raw r.ext_type) refl
  where
    go : (b : Bool) → is_raw r.ext_type ≡ b → row_text s r ≡ ext_text r.ext_type (part_of s r.content)
    go true e = row_raw s r e ∙ sym (text_raw r.ext_type (part_of s r.content) e)
    go false e = row_inside s r e q

module _ (s : List ℕ) where
  -- rows whose contents lie in the bytes have the texts of what they name
  rows_texts : (rs : List Row) → all_lie s rs ≡ true → map (row_text s) rs ≡ texts_of (named s rs)
  rows_texts [] h = refl
  rows_texts (r ∷ rs) h =
      let b = both_true (lies_in s r.content) (all_lie s rs) h in
      ap₂ (λ (x : Answer (List ℕ)) (xs : List (Answer (List ℕ))). x ∷ xs) (row_in s r b.0) (rows_texts rs b.1)

  -- a raw one is among the rows where one is among what they name
  rows_raw : (rs : List Row) → raw_row rs ≡ any_raw (named s rs)
  unfolding raw_row
  rows_raw [] = refl
  rows_raw (r ∷ rs) = rw (rows_raw rs)

  -- where none is raw and the content of one lies outside, the texts end in BadLength
  rows_out : (rs : List Row) → raw_row rs ≡ false → all_lie s rs ≡ false
      → join_texts (map (row_text s) rs) ≡ refused (unplaced BadLength)
  unfolding raw_row join_texts
  rows_out [] n h = absurd (true_false h)
  rows_out (r ∷ rs) n h =
      let k = neither _ _ n in
      go k.0 (λ y. rows_out rs k.1 y) (lies_in s r.content) refl
    where
      within : lies_in s r.content ≡ true → join_texts (map (row_text s) rs) ≡ refused (unplaced BadLength)
          → OneText r.ext_type (part_of s r.content)
          → join_texts (map (row_text s) (r ∷ rs)) ≡ refused (unplaced BadLength)
      within q y (inl (x, e)) = rw (row_in s r q ∙ e, y)
      within q y (inr (x, e)) = rw (row_in s r q ∙ e)

      go : is_raw r.ext_type ≡ false
          → (all_lie s rs ≡ false → join_texts (map (row_text s) rs) ≡ refused (unplaced BadLength)) → (b : Bool)
          → lies_in s r.content ≡ b → join_texts (map (row_text s) (r ∷ rs)) ≡ refused (unplaced BadLength)
      go e ih true q =
          within q (ih (rw q at h)) (ext_either r.ext_type (part_of s r.content) e)
      go e ih false q = rw (row_outside s r e q)

module _ (v s : List ℕ) where
  all_raw : raw_row (rows v) ≡ true → rows_text v s ≡ refused (unplaced NotYetImplemented)
  unfolding rows_text
  all_raw e = rw e

  left_over : raw_row (rows v) ≡ false → (length v % row_length ≡ 0 → ⊥) → rows_text v s ≡ refused (unplaced BadLength)
  unfolding rows_text
  left_over e h = rw (e, ne_eqb (length v % row_length) 0 h)

  outside : raw_row (rows v) ≡ false → all_lie s (rows v) ≡ false → rows_text v s ≡ refused (unplaced BadLength)
  unfolding rows_text joined_in
  outside e h = go (eqb (length v % row_length) 0) refl
    where
      go : (b : Bool) → eqb (length v % row_length) 0 ≡ b → rows_text v s ≡ refused (unplaced BadLength)
      go true q = rw (e, q, rows_out s (rows v) e h)
      go false q = rw (e, q)

  as_list : length v % row_length ≡ 0 → all_lie s (rows v) ≡ true → rows_text v s ≡ list_text (named s (rows v))
  unfolding rows_text joined_in list_text
  as_list m h = rw (eq-eqb (length v % row_length) 0 m, rows_raw s (rows v), rows_texts s (rows v) h)

-- the theorem: rows are the list that they name, or refused
pub every_rows : EveryRows
every_rows v s = record {
  with_raw = all_raw v s;
  left_over_of = left_over v s;
  outside = outside v s;
  list = as_list v s;
}

-- a number whose bytes stand at a place is the one there, and what stood behind it is left
number_told_lem : (w n : ℕ) (v : List ℕ) (at : ℕ) (r : List ℕ) → at ≤ length v → n < 256 ^ w → drop at v ≡ bytes_of w n ++ r
    → (number_there w v at ≡ n) × (at + w ≤ length v) × (drop (at + w) v ≡ r)
unfolding number_there
number_told_lem w n v at r h l e =
    let z : length (drop at v) ≡ w + length r = ap length e ∙ simp (length-append, length_bytes) in
    let i : at + w ≤ length v = omega (arith, length-drop at v) in
    let b : be w v at ≡ n = be_drop w v at ∙ rw e (be_of w n r l) in (
      rw (number_got w v at (part_in Incomplete v at w i)) b,
      i,
      rw (← drop-drop w at v, e) (drop_at (bytes_of w n) r w (length_bytes w n)),
    )

-- a row told of numbers
abbrev row_bytes : ℕ → ℕ → ℕ → List ℕ
row_bytes t a n = bytes_of 2 t ++ (bytes_of 4 a ++ bytes_of 4 n)

length_row : (t a n : ℕ) → length (row_bytes t a n) ≡ 10
length_row t a n = simp (length-append, length_bytes)

-- each row that is found ends behind where it begins
row_moves : (v : List ℕ) → Moves (row_from v) (λ (r : Row). r.next) (length v)
unfolding row_from
row_moves v = record {
  on = λ at r e.
      let t = then_accepted (step (fixed row_length) v at) (λ p. accepted (row_of v p)) e in
      let i = step_in (fixed row_length) v at t.1 in
      let d : row_of v t.0 ≡ r = cc t.2 in
      let n : t.0.next ≡ r.next = ap (λ (x : Row). x.next) d in
      (omega (arith, n, i.0), omega (arith, n, i.1));
}

-- where a row's bytes stand, the row is found
row_found : (v : List ℕ) (at t a n : ℕ) (r : List ℕ) → at ≤ length v → t < 256 ^ 2 → a < 256 ^ 4 → n < 256 ^ 4
    → drop at v ≡ row_bytes t a n ++ r
    → (row_from v at ≡ accepted (record { ext_type = t; content = record { start = a; len = n }; next = at + 10 }))
    × (at + 10 ≤ length v) × (drop (at + 10) v ≡ r)
unfolding row_from
row_found v at t a n r h k l m e =
    let c : drop at v ≡ bytes_of 2 t ++ (bytes_of 4 a ++ (bytes_of 4 n ++ r)) = e
    ∙ append_assoc (bytes_of 2 t) (bytes_of 4 a ++ bytes_of 4 n) r
    ∙ ap (λ (x : List ℕ). bytes_of 2 t ++ x) (append_assoc (bytes_of 4 a) (bytes_of 4 n) r) in
    let x = number_told_lem 2 t v at _ h k c in
    let y = number_told_lem 4 a v (at + 2) _ x.1 l x.2 in
    let p : at + 2 + 4 ≡ at + 6 = omega arith in
    let z = number_told_lem 4 n v (at + 6) r (omega (arith, y.1)) m (rw p at y.2) in
    let q : at + 6 + 4 ≡ at + 10 = omega arith in (
      rw (fixed_in 10 v at (omega (arith, z.1)), x.0, y.0, z.0),
      omega (arith, z.1),
      rw q at z.2,
    )

-- an item whose row can be told
abbrev Tellable : List ℕ → Tagged → Type 0
Tellable s x =
    (x.tag < 65536) × ((content_view x.tag x.view).start + (content_view x.tag x.view).len ≤ length s)

abbrev AllTellable : List ℕ → List Tagged → Type 0
AllTellable s [] = Unit
AllTellable s (x ∷ xs) = Tellable s x × AllTellable s xs

-- so is each that is found
tellable : (s : List ℕ) → Bytes s → (k at : ℕ)
    → AllTellable s (items_from k (fit_at 2 fits s) (λ (x : Tagged). x.next) at)
unfolding items_from
tellable s b zero at = tt
tellable s b (suc k) at = go (λ m. tellable s b k m) (fit_at 2 fits s at) refl
  where
    go : ((m : ℕ) → AllTellable s (items_from k (fit_at 2 fits s) (λ (x : Tagged). x.next) m)) → (a : Answer Tagged)
        → fit_at 2 fits s at ≡ a → AllTellable s (items_from (suc k) (fit_at 2 fits s) (λ (x : Tagged). x.next) at)
    go ih (accepted x) e =
        let o = openable s at b e in
        let c = says_content s at b e in
        rw e ((o.0, omega (arith, c.1, c.2)), ih x.next)
    go ih (refused r) e = rw e tt

-- the rows told, where they stand
rows_at : ℕ → List Tagged → List Row
rows_at at [] = []
rows_at at (x ∷ xs) =
    record { ext_type = x.tag; content = content_view x.tag x.view; next = at + 10 } ∷ rows_at (at + 10) xs

-- they are as many bytes as rows of ten
told_long : (xs : List Tagged) → length (told_rows xs) ≡ length xs * 10
unfolding told_rows
told_long [] = refl
told_long (x ∷ xs) =
    let t = x.tag in
    let v = content_view x.tag x.view in
    length-append (row_bytes t v.start v.len) (told_rows xs)
    ∙ omega (arith, length_row t v.start v.len, told_long xs)

-- they are found
rows_found : (s v : List ℕ) (at : ℕ) (xs : List Tagged) → length s < 65536 → at ≤ length v → AllTellable s xs
    → drop at v ≡ told_rows xs → rest (row_from v) (λ (r : Row). r.next) (length v) at ≡ rows_at at xs
unfolding items_from told_rows rows_at
rows_found s v at [] l h o e =
    let z : length v - at ≡ 0 = omega (arith, length-drop at v, ap length e) in
    rw z
rows_found s v at (x ∷ xs) l h (o, os) e =
    let w = content_view x.tag x.view in
    let f =
    row_found v at x.tag w.start w.len (told_rows xs) h (omega (arith, o.0)) (omega (arith, o.1, l))
    (omega (arith, o.1, l)) e in
    rest_on (row_moves v) at f.0
    ∙ ap (λ (rs : List Row). record { ext_type = x.tag; content = w; next = at + 10 } ∷ rs)
    (rows_found s v (at + 10) xs l f.1 os f.2)

-- they name the items' types and contents
named_told : (s : List ℕ) (at : ℕ) (xs : List Tagged) → named s (rows_at at xs) ≡ contents_of s xs
unfolding rows_at
named_told s at [] = refl
named_told s at (x ∷ xs) =
    ap (λ (ys : List (ℕ × List ℕ)). (x.tag, part_of s (content_view x.tag x.view)) ∷ ys)
    (named_told s (at + 10) xs)

-- and the contents lie in the bytes
told_lie : (s : List ℕ) (at : ℕ) (xs : List Tagged) → AllTellable s xs → all_lie s (rows_at at xs) ≡ true
unfolding rows_at
told_lie s at [] o = refl
told_lie s at (x ∷ xs) (o, os) = rw (le-leb _ _ o.1) (told_lie s (at + 10) xs os)

module _ (s : List ℕ) (b : Bytes s) where
  -- the rows told of a block name its extensions
  told : length s < 65536
      → rows_text (told_rows (items_of s)) s ≡ list_text (contents_of s (items_of s))
  told l =
      let xs = items_of s in
      let v = told_rows xs in
      let o = tellable s b (length s) 0 in
      let r : rows v ≡ rows_at 0 xs = rest_all (row_from v) (λ (r : Row). r.next) (length v)
      ∙ rows_found s v 0 xs l (omega arith) o refl in
      let m : length v % row_length ≡ 0 = omega (arith, told_long xs) in
      as_list v s m (ap (all_lie s) r ∙ told_lie s 0 xs o) ∙ ap list_text (ap (named s) r ∙ named_told s 0 xs)

  -- a block without a raw extension is written to the same bytes
  same : (n : ℕ) → extensions s ≡ sound n → any_raw (contents_of s (items_of s)) ≡ false → length s < 65536
      → list_text (contents_of s (items_of s)) ≡ accepted (bytes_of 2 (length s) ++ s)
  same n e r l =
      let y = ((every_block s b).splits n e).0 in
      (every_list (contents_of s (items_of s))).good r y.each (rw (← y.whole) l)
      ∙ ap (λ (x : List ℕ). accepted (bytes_of 2 (length x) ++ x)) (sym y.whole)

  -- or is too long
  long : (n : ℕ) → extensions s ≡ sound n → any_raw (contents_of s (items_of s)) ≡ false → 65536 ≤ length s
      → list_text (contents_of s (items_of s)) ≡ refused (unplaced BadLength)
  long n e r l =
      let y = ((every_block s b).splits n e).0 in
      (every_list (contents_of s (items_of s))).bad r (λ z. omega (arith, z.1, l, ap length y.whole))

-- the theorem: a block that was read is written to the same bytes, by its extensions and by the
-- rows told of them
pub every_read : EveryRead
every_read s b = (record { same = same s b; long = long s b }, record { told = told s b })
