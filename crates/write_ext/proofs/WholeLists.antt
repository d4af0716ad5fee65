-- Lists of extensions written: when they are refused and with what, and what stands written.
-- Assumes nothing.
use Prim.Native.Nat.{ℕ, ◌+◌, ◌-◌, ◌%◌, ◌^◌, ◌<◌, ◌≤◌}
use mathlib.Core.Path.{◌≡◌, refl, ap, sym, ◌∙◌}
use mathlib.Core.Logic.{◌⊎◌, inl, inr}
use mathlib.Core.Bool.{Bool, true, false}
use mathlib.Core.List.{List, [], ◌∷◌, ◌++◌, map, append-nil}
use native.Mathlib.Omega.{arith}
use borrow.Author.Tests.{ne_eqb, eq-eqb, ltb-true, ltb-false, lt-ltb, leb-true, leb-false}
use lib.Dec.{leb, ltb}
use lib.ListN.{length, drop, length-append}
use lib.Seq.{get_or-drop, drop_at}
use Rattle.refusal.specs.Answers.{Answer, accepted, refused, then}
use Rattle.refusal.specs.Refusals.{unplaced}
use Rattle.refusal.specs.declared.Reason.TheVariants.{BadLength, NotYetImplemented}
use Rattle.refusal.proofs.Then.{not_both, then_accepted}
use Rattle.wire.specs.Numbers.{Bytes, bytes_of}
use Rattle.wire.specs.Parts.{pick, part_of, lies_in}
use Rattle.wire.specs.declared.view.View.{View}
use Rattle.wire.proofs.Numbers.{length_bytes}
use Rattle.field.specs.Fields.{rule_of}
use Rattle.field.specs.declared.RuleName.TheVariants.{Ciphers, Plain}
use Rattle.field.proofs.Steps.{length_vector}
use Rattle.field.proofs.Texts.{both_true, obeys, obeyed}
use Rattle.list.specs.Items.{items_from}
use Rattle.list.specs.Stopping.{end_of}
use Rattle.list.specs.Tagged.{any_data, fit_at, tagged_in, tagged_end, tagged_bytes}
use Rattle.list.specs.declared.tagged.Tagged.{Tagged}
use Rattle.list.proofs.Stopping.{moves_by}
use Rattle.list.proofs.Tags.{moves, fit_of, tag_placed, length_tagged}
use Rattle.list.proofs.Walk.{rest_all, rest_on}
use Rattle.registry.specs.Extensions.{server_name_ext, supported_groups_ext}
use Rattle.read_ext.specs.Kinds.{kind_of, is_raw, names_fill}
use Rattle.read_ext.specs.Extensions.{sound, extensions, items_of}
use Rattle.read_ext.specs.Splits.{data_bytes, ext_bytes, IsExt, EachExt, join_exts, contents_of, value_says}
use Rattle.read_ext.specs.declared.TlsExtension.{TlsExtension}
use Rattle.read_ext.specs.declared.TlsExtension.TheVariants.{SNI, MaxFragmentLength, EllipticCurves, Unknown}
use Rattle.read_ext.proofs.Blocks.{every_block}
use Rattle.write_rules.specs.MessageTexts.{view_text}
use Rattle.write_ext.specs.ExtTexts.{may_stand, ext_text, value_text, join_texts, any_raw, capped, list_text}
use Rattle.write_ext.specs.ListsBack.{EveryList, EveryValue, AtEdge}
use Rattle.write_ext.proofs.OneText.{text_bad, text_made}

-- a test has one outcome
pub true_false : true ≡ false → ⊥
true_false e = let z : ◌≡◌ {A = ℕ} 0 1 = cc in omega arith

-- a raw one that is nowhere is neither first nor later
pub neither : (a b : Bool) → pick a true b ≡ false → (a ≡ false) × (b ≡ false)
neither true b e = absurd (true_false e)
neither false b e = (refl, e)

-- a type that is not raw is one that two bytes hold
type_below : (t : ℕ) → is_raw t ≡ false → t < 256 ^ 2
type_below t e = go (leb t 10) refl
  where
    go : (b : Bool) → leb t 10 ≡ b → t < 256 ^ 2
    go true q = omega (arith, leb-true t 10 q)
    go false q =
        let h : 10 < t = leb-false t 10 q in
        let a : (n : ℕ) → n ≤ 10 → t ≡ n → ⊥ = λ n l d. omega (arith, h, l, d) in
        let z : is_raw t ≡ true =
        rw (ne_eqb t 0 (a 0 (omega arith)), ne_eqb t 1 (a 1 (omega arith)), ne_eqb t 10 (a 10 (omega arith))) in
        absurd (true_false (sym z ∙ e))

-- type and content are an extension, which is written, or none, and BadLength
abbrev pub OneText : ℕ → List ℕ → Type 0
OneText t c =
    (IsExt (t, c) × (ext_text t c ≡ accepted (ext_bytes (t, c)))) ⊎
    ((IsExt (t, c) → ⊥) × (ext_text t c ≡ refused (unplaced BadLength)))

-- content may be written just where it is that of an extension
module _ (t : ℕ) (c : List ℕ) where
  is_ext : is_raw t ≡ false → may_stand t c ≡ true → IsExt (t, c)
  unfolding may_stand
  is_ext r e =
      let a = both_true _ _ e in
      let b = both_true _ _ a.1 in
      (type_below t r, obeys (kind_of t (length c)).field c a.0, b.0, ltb-true _ _ b.1)

  may_stand_lem : IsExt (t, c) → may_stand t c ≡ true
  unfolding may_stand
  may_stand_lem (l, o, h, m) = rw (obeyed (kind_of t (length c)).field c o, h) (lt-ltb _ _ m)

  -- what is written of one
  pub ext_either : is_raw t ≡ false → OneText t c
  ext_either r = go (may_stand t c) refl
    where
      go : (b : Bool) → may_stand t c ≡ b → OneText t c
      go true e = inl (is_ext r e, text_made t c r e)
      go false e = inr (λ x. true_false (sym (may_stand_lem x) ∙ e), text_bad t c r e)

-- the texts of extensions
abbrev pub texts_of : List (ℕ × List ℕ) → List (Answer (List ℕ))
texts_of xs = map (λ (x : ℕ × List ℕ). ext_text x.0 x.1) xs

-- all are extensions, which are joined, or one is none
abbrev Joined : List (ℕ × List ℕ) → Type 0
Joined xs =
    (EachExt xs × (join_texts (texts_of xs) ≡ accepted (join_exts xs))) ⊎
    ((EachExt xs → ⊥) × (join_texts (texts_of xs) ≡ refused (unplaced BadLength)))

joined : (xs : List (ℕ × List ℕ)) → any_raw xs ≡ false → Joined xs
unfolding join_texts join_exts
joined [] n = inl (tt, refl)
joined ((t, c) ∷ xs) n = let r = neither _ _ n in go (ext_either t c r.0) (joined xs r.1)
  where
    go : OneText t c → Joined xs → Joined ((t, c) ∷ xs)
    go (inl (x, e)) (inl (y, d)) = inl ((x, y), rw (e, d))
    go (inl (x, e)) (inr (y, d)) = inr (λ z. y z.1, rw (e, d))
    go (inr (x, e)) y = inr (λ z. x z.0, rw e)

-- the list is written behind its length, or BadLength
abbrev Whole : List (ℕ × List ℕ) → Type 0
Whole xs =
    (EachExt xs × (length (join_exts xs) < 65536)
    × (list_text xs ≡ accepted (bytes_of 2 (length (join_exts xs)) ++ join_exts xs))) ⊎
    ((EachExt xs × (length (join_exts xs) < 65536) → ⊥) × (list_text xs ≡ refused (unplaced BadLength)))

whole : (xs : List (ℕ × List ℕ)) → any_raw xs ≡ false → Whole xs
unfolding list_text capped
whole xs n = go (joined xs n)
  where
    cap : EachExt xs → join_texts (texts_of xs) ≡ accepted (join_exts xs) → (b : Bool)
        → ltb (length (join_exts xs)) (256 ^ 2) ≡ b → Whole xs
    cap y e true q = inl (y, omega (arith, ltb-true (length (join_exts xs)) (256 ^ 2) q), rw (n, e, q))
    cap y e false q = inr (λ z. omega (arith, ltb-false (length (join_exts xs)) (256 ^ 2) q, z.1), rw (n, e, q))

    go : Joined xs → Whole xs
    go (inl (y, e)) = cap y e (ltb (length (join_exts xs)) (256 ^ 2)) refl
    go (inr (y, e)) = inr (λ z. y z.0, rw (n, e))

module _ (xs : List (ℕ × List ℕ)) where
  list_raw : any_raw xs ≡ true → list_text xs ≡ refused (unplaced NotYetImplemented)
  unfolding list_text
  list_raw e = rw e

  list_bad : any_raw xs ≡ false → (EachExt xs × (length (join_exts xs) < 65536) → ⊥)
      → list_text xs ≡ refused (unplaced BadLength)
  list_bad n h = go (whole xs n)
    where
      go : Whole xs → list_text xs ≡ refused (unplaced BadLength)
      go (inl (y, l, e)) = absurd (h (y, l))
      go (inr (y, e)) = e

  list_good : any_raw xs ≡ false → EachExt xs → length (join_exts xs) < 65536
      → list_text xs ≡ accepted (bytes_of 2 (length (join_exts xs)) ++ join_exts xs)
  list_good n x h = go (whole xs n)
    where
      go : Whole xs → list_text xs ≡ accepted (bytes_of 2 (length (join_exts xs)) ++ join_exts xs)
      go (inl (y, l, e)) = e
      go (inr (y, e)) = absurd (y (x, h))

  list_written : (b : List ℕ) → list_text xs ≡ accepted b
      → EachExt xs × (length (join_exts xs) < 65536) × (b ≡ bytes_of 2 (length (join_exts xs)) ++ join_exts xs)
  list_written b e = raw (any_raw xs) refl
    where
      go : Whole xs → EachExt xs × (length (join_exts xs) < 65536)
          × (b ≡ bytes_of 2 (length (join_exts xs)) ++ join_exts xs)
      go (inl (y, l, d)) =
          let z : accepted b ≡ accepted (bytes_of 2 (length (join_exts xs)) ++ join_exts xs) = sym e ∙ d in
          (y, l, cc z)
      go (inr (y, d)) = absurd (not_both e d)

      raw : (t : Bool) → any_raw xs ≡ t → EachExt xs × (length (join_exts xs) < 65536)
          × (b ≡ bytes_of 2 (length (join_exts xs)) ++ join_exts xs)
      raw true q = absurd (not_both e (list_raw q))
      raw false q = go (whole xs q)

  -- behind the length stand the extensions
  list_back : (b : List ℕ) → Bytes b → list_text xs ≡ accepted b
      → (extensions (drop 2 b) ≡ sound (length xs)) × (contents_of (drop 2 b) (items_of (drop 2 b)) ≡ xs)
  list_back b y e =
      let w = list_written b e in
      let d : drop 2 b ≡ join_exts xs =
      ap (drop 2) w.2 ∙ drop_at (bytes_of 2 (length (join_exts xs))) (join_exts xs) 2 (length_bytes 2 _) in
      (every_block (drop 2 b) (λ i. rw get_or-drop (y (2 + i)))).accepts xs (record { each = w.0; whole = d })

-- the theorem: a list is written, or refused, by its extensions, and reading gives it back
pub every_list : EveryList
every_list xs = record {
  with_raw = list_raw xs;
  bad = list_bad xs;
  good = list_good xs;
  written = list_written xs;
  back = list_back xs;
}

-- an extension by itself is written where all is below 65,536 bytes
module _ (t : ℕ) (c : List ℕ) (r : is_raw t ≡ false) where
  one_long : length (join_exts ((t, c) ∷ [])) ≡ length (ext_bytes (t, c))
  unfolding join_exts
  one_long = ap length (append-nil (ext_bytes (t, c)))

  one_good : IsExt (t, c) → length (ext_bytes (t, c)) < 65536
      → (b : List ℕ) × (list_text ((t, c) ∷ []) ≡ accepted b) × (length b ≡ length (ext_bytes (t, c)) + 2)
  one_good x h =
      let j = join_exts ((t, c) ∷ []) in (
        bytes_of 2 (length j) ++ j,
        list_good ((t, c) ∷ []) (rw r) (x, tt) (omega (arith, one_long)),
        rw (length-append (bytes_of 2 (length j)) j, length_bytes 2 (length j), one_long) (omega arith),
      )

  one_bad : 65536 ≤ length (ext_bytes (t, c)) → list_text ((t, c) ∷ []) ≡ refused (unplaced BadLength)
  one_bad h = list_bad ((t, c) ∷ []) (rw r) (λ z. omega (arith, z.1, one_long))

-- a name by itself fills a list
names_one : (t : ℕ) (h : List ℕ) → t < 256 → length h < 65536 → names_fill (tagged_bytes 1 (t, h)) ≡ true
unfolding end_of items_from
names_one t h l m =
    let c = tagged_bytes 1 (t, h) in
    let o = moves_by (moves 1 any_data c) in
    let e = fit_of 1 any_data c 0 t h [] (omega arith) (omega arith, omega arith, refl) (sym (append-nil c)) in
    let z : length c - (0 + length c) ≡ 0 = omega arith in
    let i : tagged_in 1 any_data c ≡ tag_placed 1 0 (t, h) ∷ [] =
    rest_all (fit_at 1 any_data c) (λ (x : Tagged). x.next) (length c) ∙ rest_on o 0 e ∙ rw z in
    let n : tagged_end 1 any_data c ≡ length c = rw i (omega arith) in
    eq-eqb _ _ n

-- how many bytes the extensions have that hold one name, or groups
name_long : (t : ℕ) (h : List ℕ) → length (ext_bytes (server_name_ext, tagged_bytes 1 (t, h))) ≡ length h + 9
name_long t h =
    let c = tagged_bytes 1 (t, h) in
    omega (
      arith,
      length_tagged 2 server_name_ext (data_bytes server_name_ext c),
      length_vector 2 (rule_of Plain) c,
      length_tagged 1 t h,
    )

groups_long : (g : List ℕ) → length (ext_bytes (supported_groups_ext, g)) ≡ length g + 6
groups_long g =
    omega (
      arith,
      length_tagged 2 supported_groups_ext (data_bytes supported_groups_ext g),
      length_vector 2 (rule_of Ciphers) g,
    )

-- the theorem: the outer length decides
pub at_edge : AtEdge
at_edge = record {
  name = λ t h l m.
      let c = tagged_bytes 1 (t, h) in
      let n = length_tagged 1 t h in
      let d = length_vector 2 (rule_of Plain) c in
      let x : IsExt (server_name_ext, c) =
      (omega arith, (omega (arith, n), refl), names_one t h l (omega arith), omega (arith, n, d)) in
      let y = one_good server_name_ext c refl x (omega (arith, name_long t h)) in
      (y.0, y.1, omega (arith, y.2, name_long t h));
  longer_name = λ t h m. one_bad server_name_ext (tagged_bytes 1 (t, h)) refl (omega (arith, name_long t h));
  groups = λ g n e m.
      let k : length g % 2 ≡ 0 = omega (arith, e) in
      let d = length_vector 2 (rule_of Ciphers) g in
      let x : IsExt (supported_groups_ext, g) =
      (omega arith, (omega (arith, e), rw k), refl, omega (arith, d, e)) in
      let y = one_good supported_groups_ext g refl x (omega (arith, e, groups_long g)) in
      (y.0, y.1, omega (arith, y.2, e, groups_long g));
  more_groups = λ g n e m. one_bad supported_groups_ext g refl (omega (arith, e, groups_long g));
}

-- the part of a view that lies in the bytes, and of one that does not
module _ (s : List ℕ) (v : View) where
  view_in : lies_in s v ≡ true → view_text s v ≡ accepted (part_of s v)
  unfolding view_text
  view_in q = rw q

  view_out : lies_in s v ≡ false → view_text s v ≡ refused (unplaced BadLength)
  unfolding view_text
  view_out q = rw q

  -- a part that was written is the part
  view_wrote : {p : List ℕ} → view_text s v ≡ accepted p → part_of s v ≡ p
  view_wrote {p} e = go (lies_in s v) refl
    where
      go : (t : Bool) → lies_in s v ≡ t → part_of s v ≡ p
      go true q = let z : accepted (part_of s v) ≡ accepted p = sym (view_in q) ∙ e in cc z
      go false q = absurd (not_both e (view_out q))

-- the theorem: an extension as a value is written as its type and content
pub every_value : EveryValue
unfolding value_text
every_value s m = record { wrote = go m }
  where
    part : (t : ℕ) (v : View) (b : List ℕ) → then (view_text s v) (ext_text t) ≡ accepted b
        → ext_text t (part_of s v) ≡ accepted b
    part t v b e =
        let y = then_accepted (view_text s v) (ext_text t) e in
        rw (view_wrote s v y.1) y.2

    go : (m : TlsExtension) (b : List ℕ) → value_text s m ≡ accepted b
        → ext_text (value_says s m).0 (value_says s m).1 ≡ accepted b
    go (SNI v) b e = part server_name_ext v b e
    go (MaxFragmentLength x) b e = e
    go (EllipticCurves v) b e = part supported_groups_ext v b e
    go (Unknown t v) b e = absurd (not_both e refl)
