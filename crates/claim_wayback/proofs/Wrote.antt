-- A text that was written: what held of the value, and which bytes the text is. Assumes nothing.
use Prim.Native.Nat.{ℕ}
use mathlib.Core.Path.{◌≡◌, refl, sym, ap, ◌∙◌}
use mathlib.Core.List.{List, ◌++◌}
use mathlib.Core.Bool.{Bool, true, false}
use lib.ListN.{length}
use Rattle.refusal.specs.Answers.{Answer, accepted, refused, then}
use Rattle.refusal.specs.declared.Refusal.{Refusal}
use Rattle.refusal.proofs.Then.{not_both, then_accepted}
use Rattle.wire.specs.Parts.{pick, part_of, lies_in}
use Rattle.wire.specs.Numbers.{bytes_of}
use Rattle.wire.specs.declared.view.View.{View}
use Rattle.field.specs.Fields.{Field, sized}
use Rattle.field.specs.Standing.{field_bytes, Obeys}
use Rattle.field.specs.Texts.{allowed, field_text}
use Rattle.field.proofs.Texts.{obeys}
use Rattle.grammar.specs.Forms.{Form}
use Rattle.write_rules.specs.HelloTexts.{may_write, hello_bytes, hello_text}
use Rattle.write_rules.specs.MessageTexts.{head_text, message_text, view_text}
use Rattle.write_rules.proofs.Hellos.{Obeyed, obeyed}
use Rattle.write_rules.proofs.Messages.{same_text}

-- the bytes, by a test
pub picked : {A : Type 0} (t : Bool) {a b : A} (r : Refusal) → pick t (accepted a) (refused r) ≡ accepted b
    → (t ≡ true) × (a ≡ b)
picked true {a} {b} r e = let d : accepted a ≡ accepted b = e in (refl, cc)
picked false r e = absurd (not_both e refl)

pub hello_wrote : {C : Type 0} (k : Form C) (s : List ℕ) (c : C) {b : List ℕ} → hello_text k s c ≡ accepted b
    → Obeyed k s c × (hello_bytes k s c ≡ b)
unfolding hello_text
hello_wrote k s c e = let q = picked (may_write k s c) _ e in (obeyed k s c q.0, q.1)

field_wrote : (f : Field) (p : List ℕ) {b : List ℕ} → field_text f p ≡ accepted b → Obeys f p × (field_bytes f p ≡ b)
unfolding field_text
field_wrote f p e = let q = picked (allowed f (length p)) _ e in (obeys f p q.0, q.1)

pub view_wrote : (s : List ℕ) (v : View) {b : List ℕ} → view_text s v ≡ accepted b → part_of s v ≡ b
unfolding view_text
view_wrote s v e = (picked (lies_in s v) _ e).1

-- a message's body, and the message: type, length and body
pub record Body (msgType : ℕ) (body : Answer (List ℕ)) (t : List ℕ) : Type 0 where
  pub bytes : List ℕ
  pub is : body ≡ accepted bytes
  pub obeys : Obeys (sized 3) bytes
  pub whole : bytes_of 1 msgType ++ field_bytes (sized 3) bytes ≡ t

pub message_wrote : (msgType : ℕ) (body : Answer (List ℕ)) {t : List ℕ}
    → message_text (head_text msgType) body ≡ accepted t → Body msgType body t
message_wrote msgType body {t} e =
    let u = then_accepted body (λ b. then (field_text (sized 3) b) (λ x. accepted (bytes_of 1 msgType ++ x)))
    (sym (same_text msgType body) ∙ e) in
    let w = then_accepted (field_text (sized 3) u.0) (λ x. accepted (bytes_of 1 msgType ++ x)) u.2 in
    let f = field_wrote (sized 3) u.0 w.1 in
    let d : bytes_of 1 msgType ++ w.0 ≡ t = cc w.2 in
    record { bytes = u.0; is = u.1; obeys = f.0; whole = ap (λ (x : List ℕ). bytes_of 1 msgType ++ x) f.1 ∙ d }
