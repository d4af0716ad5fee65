-- What the data of an extension has to be, by its type. Assumes nothing.
use Prim.Native.Nat.{ℕ, ◌+◌, ◌^◌, ◌<◌}
use mathlib.Core.Path.{◌≡◌, refl, sym, ap, ◌∙◌}
use mathlib.Core.Logic.{◌⊎◌, inl, inr}
use mathlib.Core.Bool.{Bool, true, false}
use mathlib.Core.List.{List, [], append-nil}
use native.Mathlib.Omega.{arith}
use borrow.Author.Tests.{eqb-true, eqb-false, ne_eqb}
use lib.Dec.{eqb}
use lib.ListN.{length}
use Rattle.refusal.specs.Answers.{Answer, accepted, refused}
use Rattle.refusal.specs.Refusals.{refusal}
use Rattle.refusal.specs.declared.Reason.TheVariants.{LengthValue}
use Rattle.wire.specs.Numbers.{Bytes, bytes_in}
use Rattle.wire.specs.Parts.{part_of}
use Rattle.wire.specs.declared.number.Width.{Width}
use Rattle.wire.specs.declared.number.Width.TheVariants.{One, Two, Three, Four}
use Rattle.wire.specs.declared.view.Part.{Part}
use Rattle.field.specs.Fields.{Field, fixed, vector}
use Rattle.field.specs.Standing.{field_bytes, place_of, view_of}
use Rattle.field.specs.Closing.{Closes, close_at, ByClosing}
use Rattle.field.proofs.Steps.{view_of_lem}
use Rattle.field.proofs.Closing.{every_closing}
use Rattle.read_ext.specs.Kinds.{Kind, server_names, fragment_length, supported_groups, raw, kind_of, is_of, Takes}
use Rattle.read_ext.specs.Kinds.{ByKind, EveryKind}

-- a type that is none of the three
pub kind_raw : (t n : ℕ) → (t ≡ 0 → ⊥) → (t ≡ 1 → ⊥) → (t ≡ 10 → ⊥) → kind_of t n ≡ raw n
kind_raw t n a b c = rw (ne_eqb t 0 a, ne_eqb t 1 b, ne_eqb t 10 c)

-- a number of any width can be 0
pub width_above : (w : Width) → 0 < 256 ^ bytes_in w
width_above One = omega arith
width_above Two = omega arith
width_above Three = omega arith
width_above Four = omega arith

-- a test has one outcome
true_false : true ≡ false → ⊥
true_false e = let z : ◌≡◌ {A = ℕ} 0 1 = cc in omega arith

module _ (k : Kind) (d : List ℕ) (b : Bytes d) where
  -- the field of the kind, closing the data
  closing : ByClosing k.field (refusal LengthValue 0 0) d 0
  closing = every_closing k.field (refusal LengthValue 0 0) d 0 b (omega arith)

  -- data that content closes is of the kind just where the content may stand there
  tests : (c : List ℕ) → Closes k.field d c → is_of k d ≡ k.held c
  unfolding is_of
  tests c y =
      let v : part_of d (view_of k.field 0 c) ≡ c =
      view_of_lem k.field d 0 c [] (omega arith) (y.1 ∙ sym (append-nil _)) in
      rw (closing.accepts c y) (ap k.held v)

  -- what the kind takes is of it
  accepts : (c : List ℕ) → Takes k d c → is_of k d ≡ true
  accepts c (y, h) = tests c y ∙ h

  -- data of the kind is made of content that it takes
  splits : is_of k d ≡ true → (c : List ℕ) × Takes k d c
  unfolding is_of
  splits e = go (close_at k.field (refusal LengthValue 0 0) d 0) refl
    where
      go : (a : Answer Part) → close_at k.field (refusal LengthValue 0 0) d 0 ≡ a → (c : List ℕ) × Takes k d c
      go (accepted q) x =
          let y = (closing.splits q x).0 in
          (part_of d q.view, (y, sym (tests _ y) ∙ e))
      go (refused r) x = absurd (true_false (sym e ∙ rw x))

  -- in one way
  only : (c e : List ℕ) → Takes k d c → Takes k d e → c ≡ e
  only c e x y = closing.only c e x.0 y.0

  -- where the kind takes none, it is not of it
  refuses : ((c : List ℕ) → Takes k d c → ⊥) → is_of k d ≡ false
  refuses n = go (is_of k d) refl
    where
      go : (t : Bool) → is_of k d ≡ t → is_of k d ≡ false
      go true e = let y = splits e in absurd (n y.0 y.1)
      go false e = e

  -- the kind takes one, or none
  whichever : ((c : List ℕ) × Takes k d c) ⊎ ((c : List ℕ) → Takes k d c → ⊥)
  whichever = go (is_of k d) refl
    where
      go : (t : Bool) → is_of k d ≡ t → ((c : List ℕ) × Takes k d c) ⊎ ((c : List ℕ) → Takes k d c → ⊥)
      go true e = inl (splits e)
      go false e = inr (λ c y. true_false (sym (accepts c y) ∙ e))

-- the law of lengths, over any kind
pub every_kind : EveryKind
every_kind k d b = record {
  whichever = whichever k d b;
  accepts = accepts k d b;
  splits = splits k d b;
  only = only k d b;
  refuses = refuses k d b;
}

-- a list of server names
pub names_law : (d : List ℕ) → Bytes d → ByKind server_names d
names_law d b = every_kind server_names d b

-- a length of fragments
pub fragment_law : (d : List ℕ) → Bytes d → ByKind fragment_length d
fragment_law d b = every_kind fragment_length d b

-- a list of groups
pub groups_law : (d : List ℕ) → Bytes d → ByKind supported_groups d
groups_law d b = every_kind supported_groups d b

-- data that stays raw
pub raw_law : (d : List ℕ) → Bytes d → ByKind (raw (length d)) d
raw_law d b = every_kind (raw (length d)) d b

-- a type has one kind whatever the length, or stays raw
abbrev ByType : ℕ → Type 0
ByType t = ((k : Kind) × ((n : ℕ) → kind_of t n ≡ k)) ⊎ ((n : ℕ) → kind_of t n ≡ raw n)

-- each type is the one or the other
by_type_lem : (t : ℕ) → ByType t
by_type_lem t = first (eqb t 0) refl
  where
    third : (t ≡ 0 → ⊥) → (t ≡ 1 → ⊥) → (x : Bool) → eqb t 10 ≡ x → ByType t
    third a b true e = inl (supported_groups, λ n. rw (eqb-true t 10 e))
    third a b false e = inr (λ n. kind_raw t n a b (eqb-false t 10 e))

    second : (t ≡ 0 → ⊥) → (x : Bool) → eqb t 1 ≡ x → ByType t
    second a true e = inl (fragment_length, λ n. rw (eqb-true t 1 e))
    second a false e = third a (eqb-false t 1 e) (eqb t 10) refl

    first : (x : Bool) → eqb t 0 ≡ x → ByType t
    first true e = inl (server_names, λ n. rw (eqb-true t 0 e))
    first false e = second (eqb-false t 0 e) (eqb t 1) refl

-- the kind of data is the kind that the length of its content names
pub kind_same : (t : ℕ) (d c : List ℕ) → Closes (kind_of t (length d)).field d c
    → kind_of t (length d) ≡ kind_of t (length c)
kind_same t d c y = go (by_type_lem t)
  where
    go : ByType t → kind_of t (length d) ≡ kind_of t (length c)
    go (inl (k, e)) = e (length d) ∙ sym (e (length c))
    go (inr e) =
        let z : Closes (raw (length d)).field d c = rw (e (length d)) at y in
        e (length d) ∙ ap (λ (x : List ℕ). raw (length x)) z.1 ∙ sym (e (length c))

-- the kind that the length of content names is the kind of the data that it makes
pub kind_made : (t : ℕ) (c : List ℕ)
    → kind_of t (length (field_bytes (kind_of t (length c)).field c)) ≡ kind_of t (length c)
kind_made t c = go (by_type_lem t)
  where
    go : ByType t → kind_of t (length (field_bytes (kind_of t (length c)).field c)) ≡ kind_of t (length c)
    go (inl (k, e)) = e _ ∙ sym (e (length c))
    go (inr e) = rw (e (length c)) (e (length c))

-- a field's part begins so much behind the field, wherever that stands
pub place_shift : (f : Field) (at : ℕ) → place_of f at ≡ at + place_of f 0
place_shift (fixed n) at = omega arith
place_shift (vector w r) at = omega arith
