-- The walk over items with tags, and what a block is by how far its items reach: sound or damaged.
-- Assumes nothing.
use Prim.Native.Nat.{ℕ}
use mathlib.Core.Path.{◌≡◌, refl, sym, ap, ◌∙◌}
use mathlib.Core.Bool.{Bool, true, false}
use mathlib.Core.Option.{Option, none, some}
use Rattle.std.specs.Prelude.{Result, Ok, Err, IsErr, IsErrAnd}
use mathlib.Core.List.{List}
use native.Mathlib.Omega.{arith}
use borrow.Author.Tests.{eq-eqb, ne_eqb}
use lib.ListN.{length}
use Rattle.refusal.specs.Answers.{Answer, accepted, refused, giving}
use Rattle.refusal.specs.Refusals.{refusal}
use Rattle.refusal.specs.declared.Reason.TheVariants.{LengthValue}
use Rattle.refusal.specs.declared.Refusal.{Refusal}
use Rattle.list.specs.Items.{or_no_such}
use Rattle.list.specs.Stepping.{MovesOn}
use Rattle.list.specs.Tagged.{Fit, any_data, tagged_at, fit_at, tagged_end, filled}
use Rattle.list.specs.declared.tagged.Tagged.{Tagged}
use Rattle.list.proofs.Stepping.{onward, or_tells}
use Rattle.list.proofs.Stopping.{moves_by}
use Rattle.list.proofs.Tags.{moves, fit_any}
use Rattle.list.proofs.Walk.{Moves, rest, got}
use Rattle.read_ext.specs.Extensions.{reach_in, name_from, InBlock, sound, damaged, if_sound, items_of, past_item, past_name, opened, opened_from, index_in, extensions, extension_from, extension_says}
use Rattle.read_ext.specs.declared.Damage.{Damage}
use Rattle.read_ext.specs.declared.NotHad.{NotHad}
use Rattle.read_ext.specs.declared.NotHad.TheVariants as one
use Rattle.read_ext.specs.declared.TlsExtensionFound.{TlsExtensionFound}
use Rattle.list.specs.declared.steps.Counted.{Counted}
use Rattle.read_ext.specs.Kinds.{fits}

abbrev pub past : Tagged → ℕ
past x = x.next

module _ (w : ℕ) (fit : Fit) (s : List ℕ) where
  pub turn : Moves (fit_at w fit s) past (length s)
  turn = moves_by (moves w fit s)

  abbrev pub left : ℕ → List Tagged
  left at = rest (fit_at w fit s) past (length s) at

-- a name is an item with any data
pub name_got : (s : List ℕ) (at : ℕ) {x : Tagged} → name_from s at ≡ accepted x → fit_at 1 any_data s at ≡ accepted x
unfolding name_from
name_got s at e = fit_any 1 s at ∙ got (tagged_at 1 s at) e

pub name_is : (s : List ℕ) (at : ℕ) → name_from s at ≡ or_no_such (fit_at 1 any_data s at)
unfolding name_from
name_is s at = rw (fit_any 1 s at)

-- so is a step over names one over items
pub name_says : (s : List ℕ) (at : ℕ) → past_name s at ≡ giving past (or_no_such (fit_at 1 any_data s at))
name_says s at = ap (giving past) (name_is s at)

-- each item, and each name, ends behind where it begins
pub item_onward : (s : List ℕ) → MovesOn (past_item s)
item_onward s at next b e = onward (turn 2 fits s) (or_tells (λ n. refl)) e

pub name_onward : (s : List ℕ) → MovesOn (past_name s)
name_onward s at next b e = onward (turn 1 any_data s) (or_tells (name_says s)) e

-- an item is opened where there is one, and else there is NoSuch
pub opened_or : (s : List ℕ) (a : Answer Tagged) → or_no_such (giving (opened s) a) ≡ giving (opened s) (or_no_such a)
opened_or s (accepted x) = refl
opened_or s (refused r) = refl

-- a block that its items fill is sound, and another damaged where they end
module _ {A : Type 0} (s : List ℕ) (a : A) where
  pub sound_if : filled 2 fits s ≡ true → if_sound s a ≡ sound a
  unfolding if_sound
  sound_if e = rw e

  pub damaged_if : filled 2 fits s ≡ false
      → if_sound s a ≡ damaged (length (items_of s)) (refusal LengthValue (tagged_end 2 fits s) 0)
  unfolding if_sound
  damaged_if e = rw e

  -- the same by how far the items reach
  pub is_sound : {c : Counted} → c ≡ reach_in 2 fits s → c.end ≡ length s → if_sound s a ≡ sound a
  is_sound {c} e h = sound_if (eq-eqb _ (length s) (sym (ap (λ (x : Counted). x.end) e) ∙ h))

  pub is_damaged : {c : Counted} → c ≡ reach_in 2 fits s → (c.end ≡ length s → ⊥)
      → if_sound s a ≡ damaged c.count (refusal LengthValue c.end 0)
  is_damaged {c} e h = rw e (damaged_if (ne_eqb _ (length s) (λ n. h (ap (λ (x : Counted). x.end) e ∙ n))))

not_damaged : {A : Type 0} {n : ℕ} {r : Refusal} {x : A} → damaged n r ≡ sound x → ⊥
not_damaged {A} {n} {r} {x} e =
    let z : ◌≡◌ {A = Option ℕ} (some n) none = ap index_in e in
    let w : ◌≡◌ {A = ℕ} 0 1 = cc in
    omega arith

-- what a block is for one reading it is for another
module _ {A B : Type 0} (s : List ℕ) (a : A) (b : B) where
  pub still_sound : {x : A} → if_sound s a ≡ sound x → if_sound s b ≡ sound b
  still_sound {x} e = go (filled 2 fits s) refl
    where
      go : (f : Bool) → filled 2 fits s ≡ f → if_sound s b ≡ sound b
      go true h = sound_if s b h
      go false h =
          let d : ◌≡◌ {A = InBlock A} (damaged (length (items_of s)) (refusal LengthValue (tagged_end 2 fits s) 0)) (sound x) = sym (damaged_if s a h) ∙ e in
          absurd (not_damaged d)

  pub still_damaged : {n : ℕ} {r : Refusal} → if_sound s a ≡ damaged n r → if_sound s b ≡ damaged n r
  still_damaged {n} {r} e = go (filled 2 fits s) refl
    where
      go : (f : Bool) → filled 2 fits s ≡ f → if_sound s b ≡ damaged n r
      go true h = absurd (not_damaged (sym e ∙ sound_if s a h))
      go false h =
          let d : ◌≡◌ {A = InBlock A} (damaged (length (items_of s)) (refusal LengthValue (tagged_end 2 fits s) 0)) (damaged n r) = sym (damaged_if s a h) ∙ e in
          let i : length (items_of s) ≡ n = cc in
          let j : refusal LengthValue (tagged_end 2 fits s) 0 ≡ r = cc in
          damaged_if s b h ∙ rw (i, j)

-- the front of a sound block, and what lies behind it
pub from_front : (s : List ℕ) (at : ℕ) {n : ℕ} → at ≡ 0 → extensions s ≡ sound n → extension_from s at ≡ sound (opened_from s at)
unfolding extensions extension_from
from_front s at z e = rw z (still_sound s _ _ e)

pub from_behind : (s : List ℕ) (at : ℕ) → (at ≡ 0 → ⊥) → extension_from s at ≡ sound (opened_from s at)
unfolding extension_from
from_behind s at h = rw (ne_eqb at 0 h)

-- what `?` hands on of damage
pub damage_on : (x : Result TlsExtensionFound NotHad) {d : Damage} → IsErr x × IsErrAnd x (λ e. e ≡ one.Damaged d)
    → extension_says x ≡ damaged d.index d.refusal
damage_on (Ok y) (i, j) = absurd j
damage_on (Err e) (i, j) = rw j
