-- One extension written: what may stand behind its type, how long its text is, and what putting it
-- in comes to. Assumes nothing.
use Prim.Native.Nat.{ℕ, ◌+◌, ◌-◌, ◌%◌, ◌^◌, ◌<◌, ◌≤◌}
use mathlib.Core.Path.{◌≡◌, refl, sym, ap, ◌∙◌}
use mathlib.Core.Logic.{◌⊎◌, inl, inr}
use mathlib.Core.Bool.{Bool, true, false, not, ◌&&◌, and-true, and-false}
use mathlib.Core.Option.{none, some}
use mathlib.Core.List.{List, [], ◌∷◌, ◌++◌, append_assoc}
use native.Mathlib.Omega.{arith}
use borrow.Author.Tests.{ltb-true, lt-ltb, le-ltb, eq-eqb, ne_eqb, not-true, not-false}
use lib.Dec.{eqb, ltb}
use lib.ListN.{length, length-append}
use Rattle.refusal.specs.Answers.{Answer, accepted, refused, giving, then}
use Rattle.refusal.specs.Refusals.{unplaced}
use Rattle.refusal.specs.declared.Reason.TheVariants.{BadLength, NotYetImplemented}
use Rattle.refusal.specs.declared.Refusal.{Refusal}
use Rattle.refusal.proofs.Then.{not_both}
use Rattle.wire.specs.Parts.{pick, if_some, part_of, lies_in}
use Rattle.wire.specs.Numbers.{bytes_of, number_text}
use Rattle.wire.specs.Puts.{put, room_at, written}
use Rattle.wire.specs.declared.view.Part.{Part}
use Rattle.wire.specs.declared.view.View.{View}
use Rattle.wire.proofs.Parts.{room_fits}
use Rattle.wire.proofs.Numbers.{length_bytes}
use Rattle.wire.proofs.Puts.{Came, text_refused, text_in, text_out, written_in, number_accepted, length_put, put_put}
use Rattle.field.specs.Fields.{Field, fixed, vector, Rule, rule_of, sized}
use Rattle.field.specs.Standing.{field_bytes, place_of}
use Rattle.field.specs.Texts.{allowed, field_text}
use Rattle.field.specs.declared.RuleName.TheVariants.{Plain, Ciphers}
use Rattle.field.proofs.Rules.{unless_is}
use Rattle.field.proofs.Steps.{length_vector}
use Rattle.field.proofs.Texts.{both_true, obeys, text_may, text_not, text_obeys}
use Rattle.registry.specs.Extensions.{server_name_ext, max_fragment_length_ext, supported_groups_ext}
use Rattle.read_ext.specs.Kinds.{names_fill, server_names, fragment_length, supported_groups, raw, kind_of, is_raw}
use Rattle.read_ext.specs.declared.TlsExtension.{TlsExtension}
use Rattle.read_ext.specs.declared.TlsExtension.TheVariants.{SNI, MaxFragmentLength, EllipticCurves, Unknown}
use Rattle.read_ext.specs.Splits.{data_bytes, ext_bytes}
use Rattle.read_ext.proofs.OfKind.{kind_raw}
use Rattle.write_rules.specs.MessageTexts.{view_text}
use Rattle.write_ext.specs.ExtTexts.{may_stand, ext_text, value_text, name_text}

-- a type that is none of the three
pub none_raw : (t : ℕ) → (t ≡ 0 → ⊥) → (t ≡ 1 → ⊥) → (t ≡ 10 → ⊥) → is_raw t ≡ true
none_raw t a b c = rw (ne_eqb t 0 a, ne_eqb t 1 b, ne_eqb t 10 c)

-- a part behind the length that its field has, if it has one
length_field : (f : Field) (p : List ℕ) → length (field_bytes f p) ≡ place_of f 0 + length p
length_field (fixed n) p = omega arith
length_field (vector w r) p = length_vector w r p ∙ omega arith

-- the content of a type stands behind a length of two bytes, or as it is
abbrev Shaped : Field → Type 0
Shaped f = ((r : Rule) × (f ≡ vector 2 r)) ⊎ ((k : ℕ) × (f ≡ fixed k))

shaped : (t n : ℕ) → Shaped (kind_of t n).field
shaped t n = go (eqb t 0) (eqb t 1) (eqb t 10)
  where
    go : (a b c : Bool)
        → Shaped (if_some (pick a (some server_names) (pick b (some fragment_length) (pick c (some supported_groups) none)))
        (λ k. k) (raw n)).field
    go true b c = inl (rule_of Plain, refl)
    go false true c = inr (1, refl)
    go false false true = inl (rule_of Ciphers, refl)
    go false false false = inr (n, refl)

-- no inner length has more
pub inner_most : (t n : ℕ) → place_of (kind_of t n).field 0 ≤ 2
inner_most t n = go (kind_of t n).field (shaped t n)
  where
    go : (f : Field) → Shaped f → place_of f 0 ≤ 2
    go f (inl (r, e)) = rw e (omega arith)
    go f (inr (k, e)) = rw e (omega arith)

-- of a type and its content
module _ (t : ℕ) (c : List ℕ) where
  -- the bytes of inner length
  abbrev pub inner_of : ℕ
  inner_of = place_of (kind_of t (length c)).field 0

  data_length : length (data_bytes t c) ≡ inner_of + length c
  data_length = length_field (kind_of t (length c)).field c

  -- the data is a list behind its length, or the content
  pub data_list : inner_of ≡ 2 → data_bytes t c ≡ field_bytes (sized 2) c
  data_list h = go (kind_of t (length c)).field (shaped t (length c)) h
    where
      go : (f : Field) → Shaped f → place_of f 0 ≡ 2 → field_bytes f c ≡ field_bytes (sized 2) c
      go f (inl (r, e)) h = rw e
      go f (inr (k, e)) h = let z : ◌≡◌ {A = ℕ} 0 2 = rw e at h in absurd (omega arith)

  pub data_plain : (inner_of ≡ 2 → ⊥) → data_bytes t c ≡ c
  data_plain h = go (kind_of t (length c)).field (shaped t (length c)) h
    where
      go : (f : Field) → Shaped f → (place_of f 0 ≡ 2 → ⊥) → field_bytes f c ≡ c
      go f (inl (r, e)) h = absurd (h (rw e (omega arith)))
      go f (inr (k, e)) h = rw e

  -- content that is too long may not stand, and of other content the kind decides
  stand_long : 65536 ≤ inner_of + length c → may_stand t c ≡ false
  unfolding may_stand
  stand_long h =
      let e : ltb (length (data_bytes t c)) 65536 ≡ false =
      le-ltb (length (data_bytes t c)) 65536 (omega (arith, data_length)) in
      rw (e, and-false ((kind_of t (length c)).held c)) (and-false (allowed (kind_of t (length c)).field (length c)))

  stand_short : inner_of + length c < 65536
      → may_stand t c ≡ (allowed (kind_of t (length c)).field (length c) && (kind_of t (length c)).held c)
  unfolding may_stand
  stand_short h =
      let e : ltb (length (data_bytes t c)) 65536 ≡ true =
      lt-ltb (length (data_bytes t c)) 65536 (omega (arith, data_length)) in
      rw (e, and-true ((kind_of t (length c)).held c))

  -- content that may stand is not too long
  pub stands_short : may_stand t c ≡ true → inner_of + length c < 65536
  unfolding may_stand
  stands_short e =
      let b = both_true (allowed (kind_of t (length c)).field (length c)) _ e in
      let h = both_true ((kind_of t (length c)).held c) _ b.1 in
      omega (arith, data_length, ltb-true (length (data_bytes t c)) 65536 h.1)

  -- the test of the length, by the bytes of inner length
  module _ (k : ℕ) (e : (n : ℕ) → k ≡ place_of (kind_of t n).field 0) where
    pub test-long : 65536 - k ≤ length c → may_stand t c ≡ false
    test-long h = stand_long (omega (arith, h, e (length c), inner_most t (length c)))

    test_short : length c < 65536 - k → inner_of + length c < 65536
    test_short h = omega (arith, h, e (length c), inner_most t (length c))

    -- what the kinds then test
    module _ (h : length c < 65536 - k) where
      l : ltb (length c) 65536 ≡ true
      l = lt-ltb (length c) 65536 (omega arith)

      pub test-names : t ≡ 0 → may_stand t c ≡ names_fill c
      test-names z = stand_short (test_short h) ∙ rw (z, l)

      pub test-fragment : t ≡ 1 → may_stand t c ≡ eqb (length c) 1
      test-fragment z = stand_short (test_short h) ∙ rw z (and-true (eqb (length c) 1))

      pub test-groups : t ≡ 10 → may_stand t c ≡ eqb (length c % 2) 0
      test-groups z = stand_short (test_short h) ∙ rw (z, l) (and-true _ ∙ unless_is (eqb (length c % 2) 0) _)

      pub test-raw : (t ≡ 0 → ⊥) → (t ≡ 1 → ⊥) → (t ≡ 10 → ⊥) → may_stand t c ≡ true
      test-raw x y z =
          stand_short (test_short h) ∙ rw (kind_raw t (length c) x y z, eq-eqb (length c) (length c) refl)

  -- the text: none of a raw type, none of content that may not stand, and that of the rest
  pub text_raw : is_raw t ≡ true → ext_text t c ≡ refused (unplaced NotYetImplemented)
  unfolding ext_text
  text_raw e = rw e

  pub text_bad : is_raw t ≡ false → may_stand t c ≡ false → ext_text t c ≡ refused (unplaced BadLength)
  unfolding ext_text
  text_bad e m = rw (e, m)

  pub text_made : is_raw t ≡ false → may_stand t c ≡ true → ext_text t c ≡ accepted (ext_bytes (t, c))
  unfolding ext_text
  text_made e m = rw (e, m)

  ext_length : length (ext_bytes (t, c)) ≡ 4 + inner_of + length c
  ext_length =
      rw length-append (omega (arith, length_bytes 2 t, length_vector 2 (rule_of Plain) (data_bytes t c), data_length))

  -- how many bytes the text has, or why there is none
  pub length_raw : {r : Refusal} → is_raw t ≡ true → r ≡ unplaced NotYetImplemented
      → refused r ≡ giving length (ext_text t c)
  length_raw e q = rw (text_raw e) (ap refused q)

  pub length_bad : {r : Refusal} → is_raw t ≡ false → may_stand t c ≡ false → r ≡ unplaced BadLength
      → refused r ≡ giving length (ext_text t c)
  length_bad e m q = rw (text_bad e m) (ap refused q)

  pub length_made : {k : ℕ} → is_raw t ≡ false → may_stand t c ≡ true → k ≡ inner_of
      → accepted (4 + k + length c) ≡ giving length (ext_text t c)
  length_made e m q = rw (text_made e m, ext_length, q)

-- a text that has no length is none
pub none_given : {A B : Type 0} (f : A → B) (a : Answer A) {r : Refusal} → giving f a ≡ refused r → a ≡ refused r
none_given f (accepted x) e = absurd (not_both refl e)
none_given f (refused x) e = let d : refused x ≡ refused _ = e in cc

-- a text that has one: its content may stand, and these are its bytes
pub record Made (t : ℕ) (c : List ℕ) (n : ℕ) : Type 0 where
  pub is : ext_text t c ≡ accepted (ext_bytes (t, c))
  pub long : n ≡ 4 + inner_of t c + length c
  pub short : inner_of t c + length c < 65536

pub made : (t : ℕ) (c : List ℕ) {n : ℕ} → giving length (ext_text t c) ≡ accepted n → Made t c n
made t c {n} e = go (is_raw t) (may_stand t c) refl refl
  where
    go : (a b : Bool) → is_raw t ≡ a → may_stand t c ≡ b → Made t c n
    go true b x y = absurd (not_both e (sym (length_raw t c x refl)))
    go false false x y = absurd (not_both e (sym (length_bad t c x y refl)))
    go false true x y =
        let z : ◌≡◌ {A = Answer ℕ} (accepted n) (accepted (4 + inner_of t c + length c)) =
        sym e ∙ sym (length_made t c x y refl) in
        record { is = text_made t c x y; long = cc; short = stands_short t c y }

-- bytes put in, and a text behind them
put_next : (d : List ℕ) (at : ℕ) (x y : List ℕ) {t : Answer (List ℕ)} (o o' : List ℕ) (at' : ℕ)
    → at + (length x + length y) ≤ length d → o ≡ put d at x → t ≡ accepted y → at' ≡ at + length x
    → o' ≡ written t at' o → o' ≡ put d at (x ++ y)
put_next d at x y o o' at' h p e n q =
    let m : length o ≡ length d = rw p (length_put d at x (omega arith)) in
    q ∙ written_in y at' o e (omega (arith, m, n)) ∙ rw (n, p) (put_put d at x y (omega arith))

-- a part behind its length may be written
part_text : (p : List ℕ) → length p < 65536 → field_text (sized 2) p ≡ accepted (field_bytes (sized 2) p)
part_text p h = text_obeys (sized 2) p (h, refl)

-- a number of w bytes and a part behind its length, one after the other
pub tag_put : (w t : ℕ) (p : List ℕ) (d : List ℕ) (at : ℕ) (o o' : List ℕ) → t < 256 ^ w → length p < 65536
    → at + (w + 2 + length p) ≤ length d → o ≡ written (number_text w t) at d
    → o' ≡ written (field_text (sized 2) p) (at + w) o → o' ≡ put d at (bytes_of w t ++ field_bytes (sized 2) p)
tag_put w t p d at o o' h l f e₁ e₂ =
    let n = length_bytes w t in
    let m = length_vector 2 (rule_of Plain) p in
    put_next d at (bytes_of w t) (field_bytes (sized 2) p) o o' (at + w) (omega (arith, n, m))
    (e₁ ∙ written_in (bytes_of w t) at d (number_accepted w t h) (omega (arith, n))) (part_text p l)
    (omega (arith, n)) e₂

-- a type, a length, and a list behind its own
pub list_put : (t : ℕ) (l : List ℕ) (d : List ℕ) (at : ℕ) (o₁ o₂ o₃ : List ℕ) → t < 65536 → length l + 2 < 65536
    → at + (6 + length l) ≤ length d → o₁ ≡ written (number_text 2 t) at d
    → o₂ ≡ written (number_text 2 (2 + length l)) (at + 2) o₁ → o₃ ≡ written (field_text (sized 2) l) (at + 4) o₂
    → o₃ ≡ put d at (bytes_of 2 t ++ field_bytes (sized 2) (field_bytes (sized 2) l))
list_put t l d at o₁ o₂ o₃ h k f e₁ e₂ e₃ =
    let x = bytes_of 2 t in
    let y = bytes_of 2 (2 + length l) in
    let n = length_bytes 2 t in
    let m = length_bytes 2 (2 + length l) in
    let z = length_vector 2 (rule_of Plain) l in
    let a : length (x ++ y) ≡ 4 = rw length-append (omega (arith, n, m)) in
    let b : o₂ ≡ put d at (x ++ y) =
    put_next d at x y o₁ o₂ (at + 2) (omega (arith, n, m))
    (e₁ ∙ written_in x at d (number_accepted 2 t h) (omega (arith, n)))
    (number_accepted 2 (2 + length l) (omega arith)) (omega (arith, n)) e₂ in
    put_next d at (x ++ y) (field_bytes (sized 2) l) o₂ o₃ (at + 4) (omega (arith, a, z)) b
    (part_text l (omega arith)) (omega (arith, a)) e₃
    ∙ rw z (ap (put d at) (append_assoc x y (field_bytes (sized 2) l)))

-- writing an extension: there is no text, no room, or it is put in
pub ext_none : (t : ℕ) (c : List ℕ) (at : ℕ) (d : List ℕ) {r : Refusal} → giving length (ext_text t c) ≡ refused r
    → Came (ext_text t c) at d (refused r) d
ext_none t c at d e = text_refused at d (none_given length (ext_text t c) e)

module _ {t : ℕ} {c : List ℕ} {n : ℕ} (m : Made t c n) (at : ℕ) (d : List ℕ) where
  bytes_long : length (ext_bytes (t, c)) ≡ n
  bytes_long = ext_length t c ∙ sym m.long

  pub ext_out : {r : Refusal} → room_at d at n ≡ refused r → Came (ext_text t c) at d (refused r) d
  ext_out {r} q = text_out (ext_bytes (t, c)) at d {r = r} m.is (rw bytes_long q)

  -- what putting it in needs
  pub list_fits : {p : Part} → room_at d at n ≡ accepted p → inner_of t c ≡ 2
      → (length c + 2 < 65536) × (at + (6 + length c) ≤ length d)
  list_fits q e = (omega (arith, e, m.short), omega (arith, e, m.long, (room_fits d at n q).inside))

  pub data_fits : {p : Part} → room_at d at n ≡ accepted p → (length c < 65536) × (at + (4 + length c) ≤ length d)
  data_fits q = (omega (arith, m.short), omega (arith, m.long, (room_fits d at n q).inside))

  pub ext_in : {p : Part} (x o : List ℕ) → room_at d at n ≡ accepted p → data_bytes t c ≡ x
      → o ≡ put d at (bytes_of 2 t ++ field_bytes (sized 2) x) → Came (ext_text t c) at d (accepted p.next) o
  ext_in {p} x o q e w =
      let b = text_in (ext_bytes (t, c)) at d {p = p} m.is (rw bytes_long q) in
      record { says = b.says; leaves = b.leaves ∙ rw e (sym w) }

-- an extension of a part that a view names: it lies outside, or the part is written
module _ (s : List ℕ) (v : View) (t : ℕ) (d : List ℕ) {b : Bool} (l : b ≡ lies_in s v) where
  pub view_out : {r : Refusal} → not b ≡ true → r ≡ unplaced BadLength
      → Came (then (view_text s v) (ext_text t)) 0 d (refused r) d
  unfolding view_text
  view_out n q = text_refused 0 d (rw (sym l ∙ not-true b n) (ap refused (sym q)))

  pub view_in : (p : List ℕ) → p ≡ part_of s v → not b ≡ false → then (view_text s v) (ext_text t) ≡ ext_text t p
  unfolding view_text
  view_in p q n =
      ap (λ (x : Bool). then (pick x (accepted (part_of s v)) (refused (unplaced BadLength))) (ext_text t))
      (sym l ∙ not-false b n)
      ∙ ap (ext_text t) (sym q)

-- the value of each kind
module _ (s : List ℕ) {m : TlsExtension} where
  pub value_names : {v : View} → m ≡ SNI v → value_text s m ≡ then (view_text s v) (ext_text server_name_ext)
  unfolding value_text
  value_names e = rw e

  pub value_fragment : {b : ℕ} → m ≡ MaxFragmentLength b → value_text s m ≡ ext_text max_fragment_length_ext (b ∷ [])
  unfolding value_text
  value_fragment e = rw e

  pub value_groups : {v : View} → m ≡ EllipticCurves v
      → value_text s m ≡ then (view_text s v) (ext_text supported_groups_ext)
  unfolding value_text
  value_groups e = rw e

  pub value_raw : {t : ℕ} {v : View} → m ≡ Unknown t v → value_text s m ≡ refused (unplaced NotYetImplemented)
  unfolding value_text
  value_raw e = rw e

-- an entry of a list of server names: the name is too long, or it is its bytes
module _ (t : ℕ) (p : List ℕ) where
  pub name_not : allowed (sized 2) (length p) ≡ false → name_text t p ≡ refused (unplaced BadLength)
  unfolding name_text
  name_not e = rw (text_not (sized 2) p e)

  pub name_is : allowed (sized 2) (length p) ≡ true → name_text t p ≡ accepted (bytes_of 1 t ++ field_bytes (sized 2) p)
  unfolding name_text
  name_is e = rw (text_may (sized 2) p e)

  pub name_short : allowed (sized 2) (length p) ≡ true → length p < 65536
  name_short e = (obeys (sized 2) p e).0

  pub name_long : 3 + length p ≡ length (bytes_of 1 t ++ field_bytes (sized 2) p)
  name_long = rw length-append (omega (arith, length_bytes 1 t, length_vector 2 (rule_of Plain) p))
