-- Texts of extensions, of lists of them and of names, by lengths. Assumes nothing.
use Prim.Native.Nat.{ℕ, ◌+◌, ◌%◌}
use mathlib.Core.Path.{◌≡◌, refl, sym, ap, ◌∙◌}
use mathlib.Core.Logic.{◌⊎◌, inl, inr}
use mathlib.Core.Bool.{Bool, true, false, not, ◌&&◌, ◌||◌, and-true, and-false, true≢false}
use mathlib.Core.List.{List, [], ◌∷◌, ◌++◌, map}
use native.Mathlib.Omega.{arith}
use native.Mathlib.Nat.{zero-add, add-zero}
use borrow.Author.Tests.{leb-true, leb-false, lt-ltb, le-ltb, eqb-true, eqb-false, ne_eqb}
use lib.Dec.{leb, ltb, eqb, leb-suc-suc}
use lib.ListN.{length, length-append}
use Rattle.refusal.specs.Answers.{Answer, accepted, refused, then, giving}
use Rattle.refusal.specs.Refusals.{unplaced, number_of}
use Rattle.refusal.specs.declared.Reason.TheVariants.{BadLength, NotYetImplemented}
use Rattle.wire.specs.Numbers.{bytes_of}
use Rattle.wire.specs.Parts.{pick}
use Rattle.wire.proofs.Numbers.{length_bytes}
use Rattle.field.specs.Fields.{rule_of, sized}
use Rattle.field.specs.declared.RuleName.TheVariants.{Plain, Ciphers}
use Rattle.field.specs.Standing.{field_bytes}
use Rattle.field.specs.Texts.{allows, field_text}
use Rattle.field.proofs.Rules.{unless_is}
use Rattle.field.proofs.Steps.{length_vector}
use Rattle.list.proofs.Tags.{length_tagged}
use Rattle.read_ext.specs.Kinds.{is_raw, names_fill}
use Rattle.read_ext.specs.Splits.{data_bytes, ext_bytes}
use Rattle.write_ext.specs.ExtTexts.{may_stand, ext_text, join_texts, any_raw, capped, list_text, name_text}
use Rattle.claim_ext.specs.ExtCases.{two, names_case, text_says, ext_case, raw_case, sum_case, list_case}
use Rattle.claim_ext.proofs.Places.{be_two}
use Rattle.claim_ext.proofs.NamesFill.{names_case_lem}

-- what two bytes hold
holds : (n : ℕ) → (ltb n 65536 && true) ≡ leb n 65535
holds n = and-true (ltb n 65536) ∙ leb-suc-suc n 65535

-- content and the two bytes before it
within : (n : ℕ) (x y : Bool) → ((ltb n 65536 && x) && (y && ltb (2 + n) 65536)) ≡ (leb n 65533 && (x && y))
within n x y = go (leb n 65533) refl
  where
    go : (t : Bool) → leb n 65533 ≡ t
        → ((ltb n 65536 && x) && (y && ltb (2 + n) 65536)) ≡ (leb n 65533 && (x && y))
    go true e =
        let l = leb-true n 65533 e in
        rw (lt-ltb n 65536 (omega arith), lt-ltb (2 + n) 65536 (omega arith), e, and-true y)
    go false e =
        let l = leb-false n 65533 e in
        rw (le-ltb (2 + n) 65536 (omega arith), e, and-false y) (and-false (ltb n 65536 && x))

-- what is written where a test holds
picked : {x y : Bool} (b : List ℕ) (n : ℕ) → x ≡ y → (y ≡ true → length b ≡ n)
    → text_says (pick x (accepted b) (refused (unplaced BadLength))) ≡ pick y (0, n) (number_of BadLength, 0)
unfolding unplaced
picked {y = y} b n e h = rw e (go y h)
  where
    go : (y : Bool) → (y ≡ true → length b ≡ n)
        → text_says (pick y (accepted b) (refused (unplaced BadLength))) ≡ pick y (0, n) (number_of BadLength, 0)
    go true h = rw (h refl)
    go false h = refl

-- names fill content just where they do by places and lengths
content_names : (c : List ℕ) → names_fill c ≡ names_case (length c) c 0 (length c)
content_names c =
    names_case_lem c c 0 (λ j k. be_two c j ∙ ap (two c) (sym (zero-add j))) (length c) (omega arith)
    ∙ ap (names_case (length c) c 0) (zero-add (length c))

-- how long an extension is, by its data
ext_long : (t : ℕ) (c : List ℕ) → length (ext_bytes (t, c)) ≡ 4 + length (data_bytes t c)
ext_long t c = length_tagged 2 t (data_bytes t c)

-- server names
names_text : (c : List ℕ) → text_says (ext_text 0 c) ≡ ext_case 0 c
unfolding ext_text may_stand ext_case
names_text c =
    let v : length (data_bytes 0 c) ≡ 2 + length c = length_vector 2 (rule_of Plain) c in
    let m : may_stand 0 c ≡ (leb (length c) 65533 && names_case (length c) c 0 (length c)) =
    rw (v, ← content_names c) (within (length c) true (names_fill c)) in
    picked (ext_bytes (0, c)) (6 + length c) m (λ e. ext_long 0 c ∙ omega arith)

-- a fragment length
fragment_text : (c : List ℕ) → text_says (ext_text 1 c) ≡ ext_case 1 c
unfolding ext_text may_stand ext_case
fragment_text c = picked (ext_bytes (1, c)) 5 (go (eqb (length c) 1) refl)
    (λ e. ext_long 1 c ∙ omega (arith, eqb-true (length c) 1 e))
  where
    go : (t : Bool) → eqb (length c) 1 ≡ t → may_stand 1 c ≡ eqb (length c) 1
    go true e = rw (e, eqb-true (length c) 1 e)
    go false e = rw e

-- groups
groups_text : (c : List ℕ) → text_says (ext_text 10 c) ≡ ext_case 10 c
unfolding ext_text may_stand ext_case
groups_text c =
    let v : length (data_bytes 10 c) ≡ 2 + length c = length_vector 2 (rule_of Ciphers) c in
    let a : allows (rule_of Ciphers) (length c) ≡ eqb (length c % 2) 0 = unless_is (eqb (length c % 2) 0) _ in
    let m : may_stand 10 c ≡ (leb (length c) 65533 && eqb (length c % 2) 0) =
    rw (v, a) (within (length c) (eqb (length c % 2) 0) true ∙ rw and-true) in
    picked (ext_bytes (10, c)) (6 + length c) m (λ e. ext_long 10 c ∙ omega arith)

-- the other types are not written
raw_text : (t : ℕ) (c : List ℕ) → (t ≡ 0 → ⊥) → (t ≡ 1 → ⊥) → (t ≡ 10 → ⊥) → text_says (ext_text t c) ≡ ext_case t c
unfolding ext_text ext_case unplaced
raw_text t c x y z = rw (ne_eqb t 0 x, ne_eqb t 1 y, ne_eqb t 10 z)

-- every extension
pub ext_text_lem : (t : ℕ) (c : List ℕ) → text_says (ext_text t c) ≡ ext_case t c
ext_text_lem t c = first (eqb t 0) refl
  where
    third : (t ≡ 0 → ⊥) → (t ≡ 1 → ⊥) → (x : Bool) → eqb t 10 ≡ x → text_says (ext_text t c) ≡ ext_case t c
    third x y true e = rw (eqb-true t 10 e) (groups_text c)
    third x y false e = raw_text t c x y (eqb-false t 10 e)

    second : (t ≡ 0 → ⊥) → (x : Bool) → eqb t 1 ≡ x → text_says (ext_text t c) ≡ ext_case t c
    second x true e = rw (eqb-true t 1 e) (fragment_text c)
    second x false e = third x (eqb-false t 1 e) (eqb t 10) refl

    first : (x : Bool) → eqb t 0 ≡ x → text_says (ext_text t c) ≡ ext_case t c
    first true e = rw (eqb-true t 0 e) (names_text c)
    first false e = second (eqb-false t 0 e) (eqb t 1) refl

-- a type is one of the three, or stays raw
known : (t : ℕ) → is_raw t ≡ not (eqb t 0 || (eqb t 1 || eqb t 10))
known t = go (eqb t 0) (eqb t 1) (eqb t 10) refl refl refl
  where
    go : (x y z : Bool) → eqb t 0 ≡ x → eqb t 1 ≡ y → eqb t 10 ≡ z
        → is_raw t ≡ not (eqb t 0 || (eqb t 1 || eqb t 10))
    go true y z a b c = rw a
    go false true z a b c = rw (a, b)
    go false false true a b c = rw (a, b, c)
    go false false false a b c = rw (a, b, c)

-- a raw one among them
any_raw_lem : (xs : List (ℕ × List ℕ)) → any_raw xs ≡ raw_case xs
unfolding raw_case
any_raw_lem [] = refl
any_raw_lem ((t, c) ∷ xs) = rw (known t, any_raw_lem xs) (go (eqb t 0 || (eqb t 1 || eqb t 10)))
  where
    go : (x : Bool) → pick (not x) true (raw_case xs) ≡ pick x (raw_case xs) true
    go true = refl
    go false = refl

-- what is said of texts joined, n bytes before them
abbrev totals : Answer (List ℕ) → ℕ → ℕ × ℕ
totals (accepted b) n = pick (leb (n + length b) 65535) (0, 2 + (n + length b)) (number_of BadLength, 0)
totals (refused r) n = (number_of r.reason, 0)

-- a text before others counts with those before it
before : (b : List ℕ) (a : Answer (List ℕ)) (n : ℕ) → totals (giving (λ bs. b ++ bs) a) n ≡ totals a (n + length b)
before b (accepted bs) n =
    let z : n + length (b ++ bs) ≡ n + length b + length bs = rw (length-append b bs) (omega arith) in
    rw z
before b (refused r) n = refl

-- the texts of extensions
abbrev texts_of : List (ℕ × List ℕ) → List (Answer (List ℕ))
texts_of xs = map (λ (x : ℕ × List ℕ). ext_text x.0 x.1) xs

-- an extension that is not raw is written, or refused for its length
abbrev Written : ℕ → List ℕ → Type 0
Written t c =
    ((b : List ℕ) × (ext_text t c ≡ accepted b) × (ext_case t c ≡ (0, length b)))
    ⊎ ((ext_text t c ≡ refused (unplaced BadLength)) × (ext_case t c ≡ (number_of BadLength, 0)))

-- the one or the other
written : (t : ℕ) (c : List ℕ) → is_raw t ≡ false → Written t c
unfolding ext_text unplaced
written t c e = go (may_stand t c) refl
  where
    go : (x : Bool) → may_stand t c ≡ x → Written t c
    go true q =
        let z : ext_text t c ≡ accepted (ext_bytes (t, c)) = rw (e, q) in
        inl (ext_bytes (t, c), z, sym (ext_text_lem t c) ∙ ap text_says z)
    go false q =
        let z : ext_text t c ≡ refused (unplaced BadLength) = rw (e, q) in
        inr (z, sym (ext_text_lem t c) ∙ ap text_says z)

-- none of a list is raw: the first is not, nor is one of the others
none_raw : (t : ℕ) (c : List ℕ) (xs : List (ℕ × List ℕ)) → any_raw ((t, c) ∷ xs) ≡ false
    → (is_raw t ≡ false) × (any_raw xs ≡ false)
none_raw t c xs e = go (is_raw t) refl e
  where
    go : (x : Bool) → is_raw t ≡ x → pick x true (any_raw xs) ≡ false → (is_raw t ≡ false) × (any_raw xs ≡ false)
    go true q z = absurd (true≢false z)
    go false q z = (q, z)

-- the texts of extensions joined, by their lengths
joined : (xs : List (ℕ × List ℕ)) (n : ℕ) → any_raw xs ≡ false → totals (join_texts (texts_of xs)) n ≡ sum_case xs n
unfolding join_texts sum_case unplaced
joined [] n e = rw (add-zero n)
joined ((t, c) ∷ xs) n e =
    let d = none_raw t c xs e in
    go (λ m. joined xs m d.1) (written t c d.0)
  where
    go : ((m : ℕ) → totals (join_texts (texts_of xs)) m ≡ sum_case xs m) → Written t c
        → totals (join_texts (texts_of ((t, c) ∷ xs))) n ≡ sum_case ((t, c) ∷ xs) n
    go ih (inl (b, z, y)) = rw (z, y) (before b (join_texts (texts_of xs)) n ∙ ih (n + length b))
    go ih (inr (z, y)) = rw (z, y)

-- the bytes behind an outer length
outer : (a : Answer (List ℕ)) → text_says (giving (field_bytes (sized 2)) (then a capped)) ≡ totals a 0
unfolding capped unplaced
outer (accepted b) =
    rw (zero-add (length b), holds (length b)) (go (leb (length b) 65535))
  where
    go : (x : Bool)
        → text_says (giving (field_bytes (sized 2)) (pick x (accepted b) (refused (unplaced BadLength))))
        ≡ pick x (0, 2 + length b) (number_of BadLength, 0)
    go true = rw (length_vector 2 (rule_of Plain) b)
    go false = refl
outer (refused r) = refl

-- every list
pub list_text_lem : (xs : List (ℕ × List ℕ)) → text_says (list_text xs) ≡ list_case xs
unfolding list_text unplaced
list_text_lem xs = rw (← any_raw_lem xs) (go (any_raw xs) refl)
  where
    go : (x : Bool) → any_raw xs ≡ x
        → text_says (list_text xs) ≡ pick (any_raw xs) (number_of NotYetImplemented, 0) (sum_case xs 0)
    go true e = rw e
    go false e = rw e (outer (join_texts (texts_of xs)) ∙ joined xs 0 e)

-- every entry of a list of names
pub name_text_lem : (t : ℕ) (n : List ℕ)
    → text_says (name_text t n) ≡ pick (leb (length n) 65535) (0, 3 + length n) (number_of BadLength, 0)
unfolding name_text field_text unplaced
name_text_lem t n = rw (holds (length n)) (go (leb (length n) 65535))
  where
    f : List ℕ
    f = field_bytes (sized 2) n

    go : (x : Bool)
        → text_says (giving (λ b. bytes_of 1 t ++ b) (pick x (accepted f) (refused (unplaced BadLength))))
        ≡ pick x (0, 3 + length n) (number_of BadLength, 0)
    go true =
        let z : length (bytes_of 1 t ++ field_bytes (sized 2) n) ≡ 3 + length n =
        rw (length-append (bytes_of 1 t) (field_bytes (sized 2) n), length_bytes 1 t, length_vector 2 (rule_of Plain) n)
        (omega arith) in
        rw z
    go false = refl
