-- Data that fits a type, by places and lengths. Assumes nothing.
use Prim.Native.Nat.{ℕ, ◌+◌, ◌-◌, ◌%◌, ◌<◌, ◌≤◌}
use mathlib.Core.Path.{◌≡◌, refl, sym, ap, ◌∙◌}
use mathlib.Core.Bool.{Bool, true, false, ◌&&◌}
use mathlib.Core.Option.{none}
use mathlib.Core.List.{List}
use native.Mathlib.Omega.{arith}
use native.Mathlib.Nat.{add-zero}
use borrow.Author.Tests.{leb-true, leb-false, eqb-true, eqb-false, eq-eqb, ne_eqb}
use lib.Dec.{leb, eqb}
use lib.ListN.{length}
use Rattle.refusal.specs.Answers.{accepted, refused}
use Rattle.refusal.specs.Refusals.{refusal}
use Rattle.refusal.specs.declared.Reason.TheVariants.{LengthValue}
use Rattle.wire.specs.Numbers.{be}
use Rattle.wire.specs.Parts.{part_of}
use Rattle.field.specs.Fields.{Rule, rule_of, vector}
use Rattle.field.specs.declared.RuleName.TheVariants.{Plain, Ciphers}
use Rattle.field.specs.Closing.{close_at}
use Rattle.field.specs.Texts.{allows}
use Rattle.field.proofs.Steps.{length_part}
use Rattle.field.proofs.Rules.{unless_is}
use Rattle.field.proofs.Closing.{missing, unlike, like, fails_rule}
use Rattle.read_ext.specs.Kinds.{server_names, supported_groups, is_of, fits, names_fill}
use Rattle.read_ext.proofs.Data.{fragment_test, raw_test}
use Rattle.claim_ext.specs.ExtCases.{two, names_case, data_case}
use Rattle.claim_ext.proofs.Places.{view, be_two, be_part}
use Rattle.claim_ext.proofs.NamesFill.{Copied, names_case_lem}

-- the n bytes from a place on are data
module _ (s : List ℕ) (at n : ℕ) (h : at + n ≤ length s) where
  -- the data
  abbrev part : List ℕ
  part = part_of s (view at n)

  -- it is so long
  long : length part ≡ n
  long = length_part s at n h

  -- the number at its front
  inner : 2 ≤ n → be 2 part 0 ≡ two s at
  inner l = be_part s at n 0 h l ∙ be_two s (at + 0) ∙ ap (two s) (add-zero at)

  -- what stands behind that number
  abbrev content : List ℕ
  content = part_of part (view 2 (n - 2))

  -- it is so long
  content_long : 2 ≤ n → length content ≡ n - 2
  content_long l = length_part part 2 (n - 2) (omega (arith, long))

  -- it stands in the bytes
  content_copied : 2 ≤ n → Copied content s (at + 2)
  content_copied l j k =
      let z : at + (2 + j) ≡ at + 2 + j = omega arith in
      let m = content_long l in
      be_part part 2 (n - 2) j (omega (arith, long)) (omega arith)
      ∙ be_part s at n (2 + j) h (omega arith)
      ∙ be_two s (at + (2 + j))
      ∙ ap (two s) z

  -- names fill it just where they do by places and lengths
  content_names : 2 ≤ n → names_fill content ≡ names_case n s (at + 2) (at + n)
  content_names l =
      let m = content_long l in
      let z : at + 2 + length content ≡ at + n = omega arith in
      names_case_lem content s (at + 2) (content_copied l) n (omega arith)
      ∙ ap (names_case n s (at + 2)) z

  -- a vector whose length is like the bytes behind it closes the data
  closes : (k : Rule) → 2 ≤ n → two s at + 2 ≡ n → k.broken (be 2 part 0) ≡ none
      → close_at (vector 2 k) (refusal LengthValue 0 0) part 0 ≡ accepted (record { view = view 2 (n - 2); next = n })
  closes k l e q =
      like 2 k (refusal LengthValue 0 0) part 0 (omega (arith, long)) (omega (arith, long, inner l)) q ∙ rw long

  -- one whose length is unlike them does not
  differs : (k : Rule) → 2 ≤ n → (two s at + 2 ≡ n → ⊥)
      → close_at (vector 2 k) (refusal LengthValue 0 0) part 0 ≡ refused (refusal LengthValue 0 0)
  differs k l d =
      unlike 2 k (refusal LengthValue 0 0) part 0 (omega (arith, long)) (λ z. d (omega (arith, z, long, inner l)))

  -- nor does one whose length is not there
  lacking : (k : Rule) → n < 2
      → close_at (vector 2 k) (refusal LengthValue 0 0) part 0 ≡ refused (refusal LengthValue 0 0)
  lacking k l = missing 2 k (refusal LengthValue 0 0) part 0 (omega (arith, long))

  -- nor does one whose length the rule bars
  barred : (k : Rule) → 2 ≤ n → allows k (be 2 part 0) ≡ false
      → close_at (vector 2 k) (refusal LengthValue 0 0) part 0 ≡ refused (refusal LengthValue 0 0)
  barred k l q = fails_rule 2 k (refusal LengthValue 0 0) part 0 (omega (arith, long)) q

  -- server names
  names_fit : is_of server_names part ≡ (leb 2 n && (eqb (two s at + 2) n && names_case n s (at + 2) (at + n)))
  unfolding is_of
  names_fit = go (leb 2 n) refl
    where
      on : 2 ≤ n → (t : Bool) → eqb (two s at + 2) n ≡ t
          → is_of server_names part ≡ (eqb (two s at + 2) n && names_case n s (at + 2) (at + n))
      on l true e = rw (closes (rule_of Plain) l (eqb-true _ n e) refl, e) (content_names l)
      on l false e = rw (differs (rule_of Plain) l (eqb-false _ n e), e)

      go : (t : Bool) → leb 2 n ≡ t
          → is_of server_names part ≡ (leb 2 n && (eqb (two s at + 2) n && names_case n s (at + 2) (at + n)))
      go true e = rw e (on (leb-true 2 n e) (eqb (two s at + 2) n) refl)
      go false e = rw (lacking (rule_of Plain) (leb-false 2 n e), e)

  -- groups
  groups_fit : is_of supported_groups part ≡ (leb 2 n && (eqb (two s at + 2) n && eqb (n % 2) 0))
  unfolding is_of
  groups_fit = go (leb 2 n) refl
    where
      even : 2 ≤ n → two s at + 2 ≡ n → (t : Bool) → eqb (n % 2) 0 ≡ t
          → is_of supported_groups part ≡ eqb (n % 2) 0
      even l q true e =
          let m : be 2 part 0 % 2 ≡ 0 = omega (arith, q, inner l, eqb-true (n % 2) 0 e) in
          rw (closes (rule_of Ciphers) l q (rw (eq-eqb _ 0 m)), e)
      even l q false e =
          let x : be 2 part 0 % 2 ≡ 0 → ⊥ = λ z. eqb-false (n % 2) 0 e (omega (arith, q, inner l, z)) in
          let a : allows (rule_of Ciphers) (be 2 part 0) ≡ false =
          unless_is (eqb (be 2 part 0 % 2) 0) _ ∙ ne_eqb _ 0 x in
          rw (barred (rule_of Ciphers) l a, e)

      on : 2 ≤ n → (t : Bool) → eqb (two s at + 2) n ≡ t
          → is_of supported_groups part ≡ (eqb (two s at + 2) n && eqb (n % 2) 0)
      on l true e = rw e (even l (eqb-true _ n e) (eqb (n % 2) 0) refl)
      on l false e = rw (differs (rule_of Ciphers) l (eqb-false _ n e), e)

      go : (t : Bool) → leb 2 n ≡ t
          → is_of supported_groups part ≡ (leb 2 n && (eqb (two s at + 2) n && eqb (n % 2) 0))
      go true e = rw e (on (leb-true 2 n e) (eqb (two s at + 2) n) refl)
      go false e = rw (lacking (rule_of Ciphers) (leb-false 2 n e), e)

  -- data fits a type just where it does by places and lengths
  pub data_case_lem : (t : ℕ) → fits t part ≡ data_case s t at n
  unfolding data_case
  data_case_lem t = first (eqb t 0) refl
    where
      third : (t ≡ 0 → ⊥) → (t ≡ 1 → ⊥) → (x : Bool) → eqb t 10 ≡ x → fits t part ≡ data_case s t at n
      third a b true e = rw (eqb-true t 10 e) groups_fit
      third a b false e =
          sym (raw_test t part a b (eqb-false t 10 e)) ∙ rw (ne_eqb t 0 a, ne_eqb t 1 b, e)

      second : (t ≡ 0 → ⊥) → (x : Bool) → eqb t 1 ≡ x → fits t part ≡ data_case s t at n
      second a true e = rw (eqb-true t 1 e) (sym (fragment_test part) ∙ ap (λ (m : ℕ). eqb m 1) long)
      second a false e = third a (eqb-false t 1 e) (eqb t 10) refl

      first : (x : Bool) → eqb t 0 ≡ x → fits t part ≡ data_case s t at n
      first true e = rw (eqb-true t 0 e) names_fit
      first false e = second (eqb-false t 0 e) (eqb t 1) refl
