-- Extension blocks: the theorem, over all bytes. What is shown of items with a tag and data holds
-- of extensions with a type and content, the data being the content in the field of its kind.
-- Assumes nothing.
use Prim.Native.Nat.{ℕ, zero, suc, ◌+◌, ◌-◌, ◌<◌, ◌≤◌}
use mathlib.Core.Path.{◌≡◌, refl, ap, ap₂, sym, ◌∙◌}
use mathlib.Core.Logic.{◌⊎◌, inl, inr}
use mathlib.Core.Bool.{Bool, true, false}
use mathlib.Core.List.{List, [], ◌∷◌, ◌++◌, map, append_assoc, append-nil}
use native.Mathlib.Omega.{arith}
use borrow.Author.Tests.{ne_eqb}
use lib.Dec.{eqb}
use lib.ListN.{length, drop, length-append, length-drop}
use lib.Seq.{get_or-append-add, drop_at, drop-drop}
use Rattle.refusal.specs.Answers.{Answer, accepted, refused, giving}
use Rattle.refusal.specs.Refusals.{refusal}
use Rattle.refusal.specs.declared.Reason.TheVariants.{NoSuch, LengthValue}
use Rattle.refusal.specs.declared.Refusal.{Refusal}
use Rattle.refusal.proofs.Then.{not_both, then_accepted}
use Rattle.wire.specs.Numbers.{Bytes, bytes_of}
use Rattle.wire.specs.Parts.{pick, part_of}
use Rattle.wire.proofs.Numbers.{length_bytes}
use Rattle.field.specs.Fields.{Field, fixed, vector, sized}
use Rattle.field.specs.Standing.{field_bytes, place_of}
use Rattle.field.proofs.Steps.{view_of_lem, length_vector}
use Rattle.list.specs.Items.{place, or_no_such}
use Rattle.list.specs.Tagged.{fit_at, tagged_end, filled, tagged_bytes, IsTagged, EachTagged, join_tagged, NoneTagged}
use Rattle.list.specs.Tagged.{Fills, Breaks, stand_tagged, ByTagged}
use Rattle.list.specs.declared.tagged.Tagged.{Tagged}
use Rattle.list.proofs.Stopping.{moves_by}
use Rattle.list.proofs.Tags.{moves, every_tagged, length_tagged}
use Rattle.list.proofs.Walk.{Moves, rest_all, rest_on, first, got, go_on, past_last, place_below, place_past}
use Rattle.read_ext.specs.Kinds.{kind_of, fits, Takes}
use Rattle.read_ext.specs.Extensions.{InBlock, sound, damaged, items_of, if_sound, content_view, opened, opened_from}
use Rattle.read_ext.specs.Extensions.{extensions, extension_place, extension_from}
use Rattle.read_ext.specs.Splits.{data_bytes, ext_bytes, IsExt, EachExt, join_exts, NoneExt, BlockSplit, BlockBreak}
use Rattle.read_ext.specs.Splits.{contents_of, HandedAs, EveryBlock}
use Rattle.read_ext.specs.declared.TlsExtensionFound.{TlsExtensionFound}
use Rattle.read_ext.proofs.Data.{says_content}
use Rattle.read_ext.proofs.OfKind.{every_kind, kind_same, kind_made}
use Rattle.read_ext.proofs.Turns.{past, left, opened_or, sound_if, damaged_if}

-- what stands before others is bytes where the whole is
bytes_front : (xs ys : List ℕ) → Bytes (xs ++ ys) → Bytes xs
bytes_front [] ys b i = omega arith
bytes_front (x ∷ xs) ys b zero = b 0
bytes_front (x ∷ xs) ys b (suc i) = bytes_front xs ys (λ j. b (suc j)) i

-- and so is what stands behind them
bytes_behind : (xs ys : List ℕ) → Bytes (xs ++ ys) → Bytes ys
bytes_behind xs ys b i = rw (← get_or-append-add xs ys i 0) (b (length xs + i))

-- the data of an item is bytes where the item is
bytes_data : (t : ℕ) (d : List ℕ) → Bytes (tagged_bytes 2 (t, d)) → Bytes d
bytes_data t d b = bytes_behind (bytes_of 2 (length d)) d (bytes_behind (bytes_of 2 t) _ b)

-- an extension is an item whose data fits its type
is_tagged : (t : ℕ) (c : List ℕ) → Bytes (data_bytes t c) → IsExt (t, c) → IsTagged 2 fits (t, data_bytes t c)
is_tagged t c b (l, o, h, m) =
    let y = (every_kind (kind_of t (length c)) (data_bytes t c) b).accepts c ((o, refl), h) in
    (l, m, rw (kind_made t c) y)

-- an item whose data fits its type is an extension, of the content that makes the data
is_ext : (t : ℕ) (d : List ℕ) → Bytes d → IsTagged 2 fits (t, d) → (c : List ℕ) × IsExt (t, c) × (data_bytes t c ≡ d)
is_ext t d b (l, m, f) = go ((every_kind (kind_of t (length d)) d b).splits f)
  where
    go : (c : List ℕ) × Takes (kind_of t (length d)) d c → (c : List ℕ) × IsExt (t, c) × (data_bytes t c ≡ d)
    go (c, ((o, e), h)) =
        let q = kind_same t d c (o, e) in
        let z : d ≡ data_bytes t c = rw q at e in
        (c, (l, rw q at o, rw q at h, rw (← z) m), sym z)

-- the item that an extension is
abbrev item_of : ℕ × List ℕ → ℕ × List ℕ
item_of (t, c) = (t, data_bytes t c)

-- the items that extensions are
abbrev made : List (ℕ × List ℕ) → List (ℕ × List ℕ)
made xs = map item_of xs

-- their bytes are the same
join_made : (xs : List (ℕ × List ℕ)) → join_tagged 2 (made xs) ≡ join_exts xs
unfolding join_tagged join_exts
join_made [] = refl
join_made ((t, c) ∷ xs) = ap (λ (r : List ℕ). tagged_bytes 2 (t, data_bytes t c) ++ r) (join_made xs)

-- extensions are items whose data fits
each_tagged : (xs : List (ℕ × List ℕ)) → Bytes (join_exts xs) → EachExt xs → EachTagged 2 fits (made xs)
unfolding join_exts
each_tagged [] b o = tt
each_tagged ((t, c) ∷ xs) b (o, os) = (
  is_tagged t c (bytes_data t (data_bytes t c) (bytes_front (ext_bytes (t, c)) (join_exts xs) b)) o,
  each_tagged xs (bytes_behind (ext_bytes (t, c)) (join_exts xs) b) os,
)

-- and items whose data fits are extensions
each_ext : (ds : List (ℕ × List ℕ)) → Bytes (join_tagged 2 ds) → EachTagged 2 fits ds
    → (xs : List (ℕ × List ℕ)) × EachExt xs × (made xs ≡ ds)
unfolding join_tagged
each_ext [] b o = ([], tt, refl)
each_ext ((t, d) ∷ ds) b (o, os) =
    let y = is_ext t d (bytes_data t d (bytes_front (tagged_bytes 2 (t, d)) (join_tagged 2 ds) b)) o in
    let z = each_ext ds (bytes_behind (tagged_bytes 2 (t, d)) (join_tagged 2 ds) b) os in (
      (t, y.0) ∷ z.0,
      (y.1, z.1),
      ap₂ (λ (e : List ℕ) (es : List (ℕ × List ℕ)). (t, e) ∷ es) y.2 z.2,
    )

-- where no extension stands, no item stands whose data fits
none_tagged : (s : List ℕ) → Bytes s → NoneExt s → NoneTagged 2 fits s
none_tagged s b n (t, d) r o e =
    let a : Bytes (tagged_bytes 2 (t, d) ++ r) = rw e at b in
    let y = is_ext t d (bytes_data t d (bytes_front (tagged_bytes 2 (t, d)) r a)) o in
    n (t, y.0) r y.1 (rw y.2 e)

-- and where no such item stands, no extension does
none_ext : (s : List ℕ) → Bytes s → NoneTagged 2 fits s → NoneExt s
none_ext s b n (t, c) r o e =
    let a : Bytes (ext_bytes (t, c) ++ r) = rw e at b in
    n (t, data_bytes t c) r (is_tagged t c (bytes_data t (data_bytes t c) (bytes_front (ext_bytes (t, c)) r a)) o) e

-- behind its length, or at the front where it has none, stands the content of a field
field_seen : (f : Field) (s : List ℕ) (at : ℕ) (c r : List ℕ) → at ≤ length s → drop at s ≡ field_bytes f c ++ r
    → part_of s (record { start = place_of f at; len = length (field_bytes f c) - place_of f 0 }) ≡ c
field_seen f s at c r h e =
    let n : length (field_bytes f c) - place_of f 0 ≡ length c = go f in
    rw n (view_of_lem f s at c r h e)
  where
    go : (f : Field) → length (field_bytes f c) - place_of f 0 ≡ length c
    go (fixed n) = omega arith
    go (vector w k) = rw (length_vector w k c) (omega arith)

-- so the view of an extension's content is the content
content_seen : (s : List ℕ) (at t : ℕ) (c r : List ℕ) → at ≤ length s → drop at s ≡ data_bytes t c ++ r
    → part_of s (content_view t (record { start = at; len = length (data_bytes t c) })) ≡ c
content_seen s at t c r h e = rw (kind_made t c) (field_seen (kind_of t (length c)).field s at c r h e)

-- the data of an item stands behind its type and its length
data_at : (s : List ℕ) (at t : ℕ) (d r : List ℕ) → drop at s ≡ tagged_bytes 2 (t, d) ++ r → drop (at + 2 + 2) s ≡ d ++ r
data_at s at t d r e =
    let a : drop at s ≡ bytes_of 2 t ++ (bytes_of 2 (length d) ++ (d ++ r)) = e
    ∙ append_assoc (bytes_of 2 t) (field_bytes (sized 2) d) r
    ∙ ap (λ (x : List ℕ). bytes_of 2 t ++ x) (append_assoc (bytes_of 2 (length d)) d r) in
    let b : drop (at + 2) s ≡ bytes_of 2 (length d) ++ (d ++ r) =
    rw (← drop-drop 2 at s, a) (drop_at (bytes_of 2 t) _ 2 (length_bytes 2 t)) in
    rw (← drop-drop 2 (at + 2) s, b) (drop_at (bytes_of 2 (length d)) _ 2 (length_bytes 2 (length d)))

-- what stands at a place of a list made of another is made of what stands there
place_map : {A B : Type 0} (f : A → B) (k : ℕ) (xs : List A) → place k (map f xs) ≡ giving f (place k xs)
unfolding place
place_map f k [] = refl
place_map f zero (x ∷ xs) = refl
place_map f (suc k) (x ∷ xs) = place_map f k xs

-- as many are handed out as stand there
length_stand : (at : ℕ) (xs : List (ℕ × List ℕ)) → length (stand_tagged 2 at (made xs)) ≡ length xs
unfolding stand_tagged
length_stand at [] = refl
length_stand at ((t, c) ∷ xs) = ap suc (length_stand (at + length (ext_bytes (t, c))) xs)

module _ (s : List ℕ) where
  -- the extensions that stand from a place on are those handed out
  handed : (at : ℕ) (xs : List (ℕ × List ℕ)) (r : List ℕ) → at ≤ length s → drop at s ≡ join_exts xs ++ r
      → contents_of s (stand_tagged 2 at (made xs)) ≡ xs
  unfolding join_exts stand_tagged
  handed at [] r h e = refl
  handed at ((t, c) ∷ xs) r h e =
      let d : drop at s ≡ ext_bytes (t, c) ++ (join_exts xs ++ r) = e
      ∙ append_assoc (ext_bytes (t, c)) (join_exts xs) r in
      let n : length s - at ≡ length (ext_bytes (t, c)) + length (join_exts xs ++ r) = sym (length-drop at s)
      ∙ ap length d ∙ length-append (ext_bytes (t, c)) (join_exts xs ++ r) in
      let m = length_tagged 2 t (data_bytes t c) in
      let i = handed (at + length (ext_bytes (t, c))) xs r (omega arith)
      (rw (← drop-drop (length (ext_bytes (t, c))) at s, d) (drop_at (ext_bytes (t, c)) _ _ refl)) in
      let v = content_seen s (at + 2 + 2) t c (join_exts xs ++ r) (omega arith) (data_at s at t (data_bytes t c) _ d) in
      ap₂ (λ (y : List ℕ) (ys : List (ℕ × List ℕ)). (t, y) ∷ ys) v i

  -- no block is both
  not_sound_damaged : {A : Type 0} {a : A} {n : ℕ} {r : Refusal} {x : InBlock A} → x ≡ sound a → x ≡ damaged n r → ⊥
  not_sound_damaged p q = let z : ◌≡◌ {A = ℕ} 0 1 = cc in omega arith

  -- what is said of a sound block is what was to be said, and its items fill it
  sound_back : {A : Type 0} (a : A) {x : A} → if_sound s a ≡ sound x → (filled 2 fits s ≡ true) × (a ≡ x)
  sound_back {A} a {x} e = go (filled 2 fits s) refl
    where
      go : (t : Bool) → filled 2 fits s ≡ t → (filled 2 fits s ≡ true) × (a ≡ x)
      go true q =
          let d : sound a ≡ sound x = sym (sound_if s a q) ∙ e in
          (q, cc)
      go false q = absurd (not_sound_damaged e (damaged_if s a q))

  -- what is said of a damaged one is where its items end, and they do not fill it
  damaged_back : {A : Type 0} (a : A) {n : ℕ} {r : Refusal} → if_sound s a ≡ damaged n r
      → (filled 2 fits s ≡ false) × (n ≡ length (items_of s)) × (r ≡ refusal LengthValue (tagged_end 2 fits s) 0)
  damaged_back {A} a {n} {r} e = go (filled 2 fits s) refl
    where
      go : (t : Bool) → filled 2 fits s ≡ t
          → (filled 2 fits s ≡ false) × (n ≡ length (items_of s)) × (r ≡ refusal LengthValue (tagged_end 2 fits s) 0)
      go true q = absurd (not_sound_damaged (sound_if s a q) e)
      go false q =
          let d : ◌≡◌ {A = InBlock A} (damaged n r)
          (damaged (length (items_of s)) (refusal LengthValue (tagged_end 2 fits s) 0)) = sym e ∙ damaged_if s a q in
          (q, cc, cc)

  -- each item found ends behind where it begins
  walks : Moves (fit_at 2 fits s) past (length s)
  walks = moves_by (moves 2 fits s)

  -- all items are what is left at the front
  all_left : items_of s ≡ left 2 fits s 0
  all_left = rest_all (fit_at 2 fits s) past (length s)

  -- an item handed out from a place on was found there, or behind it
  met : (k at : ℕ) {x : Tagged} → place k (left 2 fits s at) ≡ accepted x
      → (m : ℕ) × (at ≤ m) × (fit_at 2 fits s m ≡ accepted x)
  unfolding place
  met zero at {x} e = (at, omega arith, got (fit_at 2 fits s at) (sym (first walks at) ∙ e))
  met (suc k) at {x} e = go (λ m y. met k m y) (fit_at 2 fits s at) refl
    where
      go : ((m : ℕ) → place k (left 2 fits s m) ≡ accepted x → (n : ℕ) × (m ≤ n) × (fit_at 2 fits s n ≡ accepted x))
          → (a : Answer Tagged) → fit_at 2 fits s at ≡ a → (m : ℕ) × (at ≤ m) × (fit_at 2 fits s m ≡ accepted x)
      go ih (accepted y) q =
          let i = walks.on at y q in
          let j = ih y.next (rw (rest_on walks at q) at e) in
          (j.0, omega (arith, i.0, j.1), j.2)
      go ih (refused r) q = absurd (not_both e (past_last walks at (suc k) q))

  -- behind its front the block is not looked at again
  later : (at : ℕ) → (at ≡ 0 → ⊥) → extension_from s at ≡ sound (opened_from s at)
  unfolding extension_from
  later at h = rw (ne_eqb at 0 h)

module _ (s : List ℕ) (b : Bytes s) where
  -- the block as items whose data fits
  tags : ByTagged 2 fits s
  tags = every_tagged 2 fits s b

  -- a block that is a join of extensions is filled by the items that they are
  of_split : (xs : List (ℕ × List ℕ)) → BlockSplit s xs → Fills 2 fits s (made xs)
  of_split xs y = record {
    each = each_tagged xs (rw y.whole at b) y.each;
    whole = y.whole ∙ sym (join_made xs);
  }

  -- and where items fill it, it is a join of extensions
  to_split : (ds : List (ℕ × List ℕ)) → Fills 2 fits s ds → (xs : List (ℕ × List ℕ)) × BlockSplit s xs
  to_split ds y =
      let a : Bytes (join_tagged 2 ds) = rw y.whole at b in
      let z = each_ext ds a y.each in
      (z.0, record { each = z.1; whole = y.whole ∙ sym (ap (join_tagged 2) z.2) ∙ join_made z.0 })

  -- a block that breaks behind extensions breaks behind the items that they are
  of_break : (xs : List (ℕ × List ℕ)) (r : List ℕ) → BlockBreak s xs r → Breaks 2 fits s (made xs) r
  of_break xs r y =
      let a : Bytes (join_exts xs ++ r) = rw y.whole at b in
      record {
        each = each_tagged xs (bytes_front (join_exts xs) r a) y.each;
        whole = y.whole ∙ ap (λ (x : List ℕ). x ++ r) (sym (join_made xs));
        left = y.left;
        none_had = none_tagged r (bytes_behind (join_exts xs) r a) y.none_had;
      }

  -- and where it breaks behind items, it breaks behind extensions
  to_break : (ds : List (ℕ × List ℕ)) (r : List ℕ) → Breaks 2 fits s ds r
      → (xs : List (ℕ × List ℕ)) × BlockBreak s xs r
  to_break ds r y =
      let a : Bytes (join_tagged 2 ds ++ r) = rw y.whole at b in
      let z = each_ext ds (bytes_front (join_tagged 2 ds) r a) y.each in
      let m : join_tagged 2 ds ≡ join_exts z.0 = sym (ap (join_tagged 2) z.2) ∙ join_made z.0 in (
        z.0,
        record {
          each = z.1;
          whole = y.whole ∙ ap (λ (x : List ℕ). x ++ r) m;
          left = y.left;
          none_had = none_ext r (bytes_behind (join_tagged 2 ds) r a) y.none_had;
        },
      )

  -- items handed out where extensions stand are as many and have their contents
  contents : (xs : List (ℕ × List ℕ)) (r : List ℕ) → s ≡ join_exts xs ++ r → items_of s ≡ stand_tagged 2 0 (made xs)
      → (contents_of s (items_of s) ≡ xs) × (length (items_of s) ≡ length xs)
  contents xs r e i = (ap (contents_of s) i ∙ handed s 0 xs r (omega arith) e, ap length i ∙ length_stand 0 xs)

  -- so it is in a block that is a join
  split_contents : (xs : List (ℕ × List ℕ)) → BlockSplit s xs
      → (contents_of s (items_of s) ≡ xs) × (length (items_of s) ≡ length xs)
  split_contents xs y =
      contents xs [] (y.whole ∙ sym (append-nil (join_exts xs))) (tags.fills (made xs) (of_split xs y)).1

  -- and in one that breaks
  break_contents : (xs : List (ℕ × List ℕ)) (r : List ℕ) → BlockBreak s xs r
      → (contents_of s (items_of s) ≡ xs) × (length (items_of s) ≡ length xs)
  break_contents xs r y = contents xs r y.whole (tags.breaks (made xs) r (of_break xs r y)).1

  -- a block is a join, or it breaks
  whichever : ((xs : List (ℕ × List ℕ)) × BlockSplit s xs) ⊎
      ((xs : List (ℕ × List ℕ)) × (r : List ℕ) × BlockBreak s xs r)
  whichever = go tags.whichever
    where
      go : ((ds : List (ℕ × List ℕ)) × Fills 2 fits s ds) ⊎
          ((ds : List (ℕ × List ℕ)) × (r : List ℕ) × Breaks 2 fits s ds r)
          → ((xs : List (ℕ × List ℕ)) × BlockSplit s xs) ⊎
          ((xs : List (ℕ × List ℕ)) × (r : List ℕ) × BlockBreak s xs r)
      go (inl (ds, y)) = inl (to_split ds y)
      go (inr (ds, r, y)) = let z = to_break ds r y in inr (z.0, r, z.1)

  -- a block that is a join is sound, and its extensions are handed out
  accepts : (xs : List (ℕ × List ℕ)) → BlockSplit s xs
      → (extensions s ≡ sound (length xs)) × (contents_of s (items_of s) ≡ xs)
  unfolding extensions
  accepts xs y =
      let z = split_contents xs y in
      (sound_if s _ (tags.fills (made xs) (of_split xs y)).0 ∙ ap sound z.1, z.0)

  -- a sound block is the join of what is handed out
  splits : (n : ℕ) → extensions s ≡ sound n → BlockSplit s (contents_of s (items_of s)) × (n ≡ length (items_of s))
  unfolding extensions
  splits n e =
      let q = sound_back s _ e in
      let y = to_split _ (tags.splits q.0) in
      rw (split_contents y.0 y.1).0 (y.1, sym q.1)

  -- in one way
  only : (xs ys : List (ℕ × List ℕ)) → BlockSplit s xs → BlockSplit s ys → xs ≡ ys
  only xs ys x y = sym (split_contents xs x).0 ∙ (split_contents ys y).0

  -- a block that breaks is damaged
  refuses : (xs : List (ℕ × List ℕ)) (r : List ℕ) → BlockBreak s xs r
      → extensions s ≡ damaged (length xs) (refusal LengthValue (length (join_exts xs)) 0)
  unfolding extensions
  refuses xs r y =
      let k = tags.breaks (made xs) r (of_break xs r y) in
      let n : tagged_end 2 fits s ≡ length (join_exts xs) = k.2 ∙ ap length (join_made xs) in
      damaged_if s _ k.0
      ∙ ap₂ (λ (i p : ℕ). damaged i (refusal LengthValue p 0)) (break_contents xs r y).1 n

  -- a damaged block breaks behind what would be handed out
  lacks : (n : ℕ) (r : Refusal) → extensions s ≡ damaged n r
      → (t : List ℕ) × BlockBreak s (contents_of s (items_of s)) t × (n ≡ length (items_of s))
  unfolding extensions
  lacks n r e =
      let q = damaged_back s _ e in
      let l = tags.lacks q.0 in
      let y = to_break _ l.0 l.1 in
      rw (break_contents y.0 l.0 y.1).0 (l.0, y.1, q.1)

  -- of a damaged block nothing is handed out
  withheld : (n : ℕ) (r : Refusal) → extensions s ≡ damaged n r
      → ((k : ℕ) → extension_place k s ≡ damaged n r) × (extension_from s 0 ≡ damaged n r)
  unfolding extensions extension_place extension_from
  withheld n r e =
      let q = damaged_back s _ e in
      let z : (A : Type 0) (a : A) → if_sound s a ≡ damaged n r = λ A a. damaged_if s a q.0
      ∙ ap₂ damaged (sym q.1) (sym q.2) in
      (λ k. z _ _, z _ _)

  -- an item at a place is handed out as the extension there
  handed_as : (k : ℕ) (x : Tagged) → place k (items_of s) ≡ accepted x → HandedAs s k (opened s x)
  unfolding opened
  handed_as k x e =
      let m = met s k 0 {x = x} (rw (← all_left s) e) in
      let c = says_content s m.0 b m.2 in
      record { its = place_map _ k (items_of s) ∙ rw e; value = c.0; ends = c.1; inside = c.2 }

  -- of a sound one there is one at each place below the count, that of the split
  below : (n k : ℕ) → extensions s ≡ sound n → k < n
      → (x : TlsExtensionFound) × (extension_place k s ≡ sound (accepted x)) × HandedAs s k x
  unfolding extensions extension_place
  below n k e h =
      let q = sound_back s _ e in
      let y = place_below k (items_of s) (omega (arith, q.1)) in (
        opened s y.0,
        sound_if s _ q.0 ∙ ap (λ a. sound (giving (opened s) a)) y.1,
        handed_as k y.0 y.1,
      )

  -- and none from there on
  past_count : (n k : ℕ) → extensions s ≡ sound n → n ≤ k → extension_place k s ≡ sound (refused (refusal NoSuch 0 0))
  unfolding extensions extension_place
  past_count n k e h =
      let q = sound_back s _ e in
      sound_if s _ q.0
      ∙ ap (λ a. sound (giving (opened s) a)) (place_past k (items_of s) (omega (arith, q.1)))

  -- a walk begins with the first
  begins : extension_from s 0 ≡ extension_place 0 s
  unfolding extension_from extension_place opened_from
  begins =
      let f : place 0 (items_of s) ≡ or_no_such (fit_at 2 fits s 0) = rw (all_left s) (first (walks s) 0) in
      ap (if_sound s) (opened_or s (fit_at 2 fits s 0) ∙ ap (giving (opened s)) (sym f))

  -- and goes on with the one behind
  goes_on : (k : ℕ) (x : TlsExtensionFound) → extension_place k s ≡ sound (accepted x)
      → extension_from s x.next ≡ extension_place (suc k) s
  unfolding extension_place opened opened_from
  goes_on k x e =
      let q = sound_back s _ e in
      go q.0 (then_accepted (place k (items_of s)) _ q.1)
    where
      go : filled 2 fits s ≡ true
          → (y : Tagged) × (place k (items_of s) ≡ accepted y) × (accepted (opened s y) ≡ accepted x)
          → extension_from s x.next ≡ extension_place (suc k) s
      go q (y, p, z) =
          let w : opened s y ≡ x = cc in
          let n : y.next ≡ x.next = ap (λ (v : TlsExtensionFound). v.next) w in
          let l : place k (left 2 fits s 0) ≡ accepted y = rw (← all_left s) p in
          let m = met s k 0 l in
          let i = (walks s).on m.0 y m.2 in
          let g : place (suc k) (items_of s) ≡ or_no_such (fit_at 2 fits s y.next) =
          rw (all_left s) (go_on (walks s) k 0 l) in
          rw (← n)
          (later s y.next (λ h. omega (arith, i.0))
          ∙ ap sound (opened_or s (fit_at 2 fits s y.next) ∙ ap (giving (opened s)) (sym g)) ∙ sym (sound_if s _ q))

-- the theorem: a block is the extensions handed out, or it breaks behind some and is damaged
pub every_block : EveryBlock
every_block s b = record {
  whichever = whichever s b;
  accepts = accepts s b;
  splits = splits s b;
  only = only s b;
  refuses = refuses s b;
  lacks = lacks s b;
  withheld = withheld s b;
  below = below s b;
  past = past_count s b;
  begins = begins s b;
  goes_on_of = goes_on s b;
}

-- what a walk or a place hands out is an item that was found, opened
module _ (s : List ℕ) where
  abbrev pub Item : TlsExtensionFound → Type 0
  Item y = (m : ℕ) × (x : Tagged) × (fit_at 2 fits s m ≡ accepted x) × (opened s x ≡ y)

  opened_item : (at : ℕ) {y : TlsExtensionFound} → opened_from s at ≡ accepted y → Item y
  unfolding opened_from
  opened_item at {y} e =
      let t =
      then_accepted (fit_at 2 fits s at) (λ (x : Tagged). accepted (opened s x))
      (got (giving (opened s) (fit_at 2 fits s at)) e) in
      (at, t.0, t.1, cc t.2)

  pub from_item : (at : ℕ) (y : TlsExtensionFound) → extension_from s at ≡ sound (accepted y) → Item y
  unfolding extension_from
  from_item at y e = go (eqb at 0) e
    where
      go : (t : Bool) → pick t (if_sound s (opened_from s at)) (sound (opened_from s at)) ≡ sound (accepted y) → Item y
      go true q = opened_item at (sound_back s (opened_from s at) q).1
      go false q = opened_item at (cc q)

  pub place_item : (k : ℕ) (y : TlsExtensionFound) → extension_place k s ≡ sound (accepted y) → Item y
  unfolding extension_place
  place_item k y e =
      let t =
      then_accepted (place k (items_of s)) (λ (x : Tagged). accepted (opened s x)) (sound_back s _ e).1 in
      let m = met s k 0 (ap (place k) (sym (all_left s)) ∙ t.1) in
      (m.0, t.0, m.2, cc t.2)
