-- A message whose body is one part, or none: what the body is where the part may be written, and
-- what is told where it may not. Assumes nothing.
use Prim.Native.Nat.{ℕ, ◌+◌, ◌^◌, ◌<◌, ◌≤◌}
use mathlib.Core.Path.{◌≡◌, refl, sym, ap, ◌∙◌}
use mathlib.Core.List.{List, [], ◌++◌, append-nil}
use mathlib.Core.Bool.{Bool, true, false, not, ◌&&◌}
use native.Mathlib.Omega.{arith}
use native.Mathlib.Nat.{pow-le-pow_right}
use borrow.Author.Tests.{ltb-true, not-true, not-false}
use lib.ListN.{length}
use Rattle.refusal.specs.Answers.{Answer, accepted, refused, then}
use Rattle.refusal.specs.Refusals.{unplaced}
use Rattle.refusal.specs.declared.Reason.TheVariants.{BadLength}
use Rattle.refusal.specs.declared.Refusal.{Refusal}
use Rattle.wire.specs.Parts.{pick, part_of, lies_in}
use Rattle.wire.specs.Numbers.{bytes_of}
use Rattle.wire.specs.Puts.{room, written}
use Rattle.wire.specs.declared.view.View.{View}
use Rattle.wire.proofs.Puts.{Came, text_refused}
use Rattle.field.specs.Fields.{rule_of, sized}
use Rattle.field.specs.declared.RuleName.TheVariants.{Plain}
use Rattle.field.specs.Standing.{field_bytes}
use Rattle.field.specs.Texts.{allowed, field_text}
use Rattle.field.proofs.Steps.{length_vector}
use Rattle.field.proofs.Texts.{both_true, text_may, text_not}
use Rattle.grammar.specs.Grammars.{as_view}
use Rattle.write_rules.specs.HelloTexts.{may_stand}
use Rattle.write_rules.specs.MessageTexts.{head_text, message_text, view_text, sized_text}
use Rattle.write_rules.proofs.Messages.{Message, Wrote, ensured, head_bytes, head_is, message_is, message_refused}
use Rattle.write_rules.proofs.Messages.{same_text, short_head}
use Rattle.write_others.specs.Exchange.{part_text}
use Rattle.write_others.specs.declared.Form.TheVariants.{Raw}

-- a message with an empty body is its head
pub empty : (msgType : ℕ) → head_text msgType 0 ≡ message_text (head_text msgType) (accepted [])
empty msgType =
    let h = head_is msgType 0 (omega arith) in
    h ∙ sym (message_is (head_text msgType) (head_bytes msgType 0) [] h refl ∙ rw append-nil)

-- the part behind its length is a message
module _ (msgType w : ℕ) (p : List ℕ) where
  pub field_message : {t : Bool} → t ≡ allowed (sized w) (length p) → not t ≡ false → w ≤ 2 → (k : ℕ) → k ≡ w
      → Message (head_text msgType) 4 (field_text (sized w) p) (field_bytes (sized w) p) (k + length p)
  field_message {t} m n h k g =
      let e = sym m ∙ not-false t n in
      let l : length p < 256 ^ w = ltb-true _ _ (both_true _ _ e).0 in
      let f : k + length p < 16777216 = omega (arith, l, pow-le-pow_right {n = 256} (omega arith) h) in
      short_head msgType (text_may (sized w) p e) (rw g (sym (length_vector w (rule_of Plain) p))) f

-- a part that lies outside, or is too long for the field, is no text of it
not_field : (w : ℕ) (t : Bool) (p : List ℕ) → (t && allowed (sized w) (length p)) ≡ false
    → then (pick t (accepted p) (refused (unplaced BadLength))) (λ q. field_text (sized w) q) ≡ refused
    (unplaced BadLength)
not_field w true p e = text_not (sized w) p e
not_field w false p e = refl

-- a message's text is its body's behind a length of three bytes, and the type before them
behind_three : (msgType : ℕ) (b : Answer (List ℕ))
    → message_text (head_text msgType) b ≡ then (then b (λ p. field_text (sized 3) p))
    (λ t. accepted (bytes_of 1 msgType ++ t))
behind_three msgType (accepted p) = same_text msgType (accepted p)
behind_three msgType (refused r) = same_text msgType (refused r)

-- the same of the part that v names in s
module _ (s : List ℕ) (v : View) where
  -- it lies there, or outside
  pub view_in : (p : List ℕ) → p ≡ part_of s v → lies_in s v ≡ true → view_text s v ≡ accepted p
  unfolding view_text
  view_in p q e = rw q (ap (λ (t : Bool). pick t (accepted (part_of s v)) (refused (unplaced BadLength))) e)

  pub view_out : lies_in s v ≡ false → view_text s v ≡ refused (unplaced BadLength)
  unfolding view_text
  view_out e = ap (λ (t : Bool). pick t (accepted (part_of s v)) (refused (unplaced BadLength))) e

  sized_not : (w : ℕ) → may_stand (sized w) as_view s v ≡ false → sized_text w s v ≡ refused (unplaced BadLength)
  unfolding sized_text view_text
  sized_not w e = not_field w (lies_in s v) (part_of s v) e

  -- a part that may not be written
  pub sized_refused : (w msgType : ℕ) (d : List ℕ) {t : Bool} {r : Refusal} → t ≡ may_stand (sized w) as_view s v
      → not t ≡ true → r ≡ unplaced BadLength
      → Came (message_text (head_text msgType) (sized_text w s v)) 0 d (refused r) d
  sized_refused w msgType d {t} m n q =
      message_refused (head_text msgType) d (sized_not w (sym m ∙ not-true t n) ∙ ap refused (sym q))

  pub view_refused : (msgType : ℕ) (d : List ℕ) {t : Bool} {r : Refusal} → t ≡ may_stand (sized 3) as_view s v
      → not t ≡ true → r ≡ unplaced BadLength → Came (message_text (head_text msgType) (view_text s v)) 0 d (refused r) d
  unfolding sized_text
  view_refused msgType d {t} m n q =
      text_refused 0 d (behind_three msgType (view_text s v)
      ∙ ap (λ (x : Answer (List ℕ)). then x (λ b. accepted (bytes_of 1 msgType ++ b)))
      (sized_not 3 (sym m ∙ not-true t n) ∙ ap refused (sym q)))

  -- a part that may
  module _ (w : ℕ) {t : Bool} (m : t ≡ may_stand (sized w) as_view s v) (n : not t ≡ false) (p : List ℕ)
      (q : p ≡ part_of s v) where
    may : may_stand (sized w) as_view s v ≡ true
    may = sym m ∙ not-false t n

    view-is : view_text s v ≡ accepted p
    view-is = view_in p q (both_true (lies_in s v) _ may).0

    stands : allowed (sized w) (length p) ≡ true
    stands = rw q (both_true (lies_in s v) _ may).1

    below : length p < 256 ^ w
    below = ltb-true _ _ (both_true _ _ stands).0

    pub sized-message : (msgType : ℕ) → w ≤ 2 → (k : ℕ) → k ≡ w
        → Message (head_text msgType) 4 (sized_text w s v) (field_bytes (sized w) p) (k + length p)
    unfolding sized_text
    sized-message msgType h k g = rw view-is (field_message msgType w p {t = true} (sym stands) refl h k g)

  pub view_message : (msgType : ℕ) {t : Bool} → t ≡ may_stand (sized 3) as_view s v → not t ≡ false → (p : List ℕ)
      → p ≡ part_of s v → Message (head_text msgType) 4 (view_text s v) p (length p)
  view_message msgType m n p q = short_head msgType (view-is 3 m n p q) refl (below 3 m n p q)

-- a writer of a view: it lies outside, or its part is handed over
module _ (s : List ℕ) (v : View) (k : List ℕ → Answer (List ℕ)) (msgType : ℕ) (d : List ℕ) {t : Bool}
    (l : t ≡ lies_in s v) where
  pub outside_refused : {r : Refusal} → not t ≡ true → r ≡ unplaced BadLength
      → (refused r ≡ room (message_text (head_text msgType) (then (view_text s v) k)) 0 d)
      × (d ≡ written (message_text (head_text msgType) (then (view_text s v) k)) 0 d)
  unfolding view_text
  outside_refused n q =
      ensured (message_refused (head_text msgType) d (rw (sym l ∙ not-true t n) (ap refused (sym q))))

  pub by_part : (p : List ℕ) → p ≡ part_of s v → {a : Answer ℕ} {n : ℕ} {out : List ℕ} → not t ≡ false
      → Wrote (message_text (head_text msgType) (k p)) d a n out
      → (a ≡ room (message_text (head_text msgType) (then (view_text s v) k)) 0 d)
      × (out ≡ written (message_text (head_text msgType) (then (view_text s v) k)) 0 d)
  by_part p q n w = rw (view_in s v p q (sym l ∙ not-false t n)) (w.0, w.1.1)

-- the text of a view is that of its part as it is, and behind its length
pub raw_view : (s : List ℕ) (v : View) → then (view_text s v) (part_text Raw) ≡ view_text s v
raw_view s v = go (view_text s v)
  where
    go : (a : Answer (List ℕ)) → then a (part_text Raw) ≡ a
    go (accepted p) = refl
    go (refused r) = refl
