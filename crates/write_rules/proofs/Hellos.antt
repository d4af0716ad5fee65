-- A value that may be written: its parts lie in the bytes lent with it and each is one of its
-- field, and its text is that of the parts handed over apart. Assumes nothing.
use Prim.Native.Nat.{ℕ, ◌<◌}
use mathlib.Core.Path.{◌≡◌, refl, ap, sym, ◌∙◌}
use mathlib.Core.List.{List, [], ◌∷◌, ◌++◌, append_assoc}
use mathlib.Core.Bool.{Bool, true, false, not, ◌&&◌}
use borrow.Author.Tests.{not-true, not-false}
use lib.ListN.{length}
use Rattle.refusal.specs.Answers.{Answer, accepted, refused}
use Rattle.refusal.specs.Refusals.{unplaced}
use Rattle.refusal.specs.declared.Reason.TheVariants.{BadLength}
use Rattle.refusal.specs.declared.Refusal.{Refusal}
use Rattle.wire.specs.Parts.{opt_part_of}
use Rattle.wire.specs.Puts.{room, written}
use Rattle.wire.proofs.Puts.{Came}
use Rattle.field.specs.Standing.{field_bytes}
use Rattle.field.specs.Texts.{allowed}
use Rattle.field.proofs.Texts.{both_true}
use Rattle.grammar.specs.Grammars.{as_opt, Row, gather}
use Rattle.grammar.specs.Splits.{join}
use Rattle.grammar.specs.Hellos.{extensions}
use Rattle.grammar.specs.Forms.{Form, Outs, named, all_named_of}
use Rattle.write_rules.specs.HelloTexts.{lies, may_stand, may_write, hello_bytes, hello_text}
use Rattle.write_rules.specs.JoinTexts.{may_join, join_bytes, join_text, all_lie}
use Rattle.write_rules.specs.MessageTexts.{head_text, message_text}
use Rattle.write_rules.proofs.Joins.{Joined, all_may, joined}
use Rattle.write_rules.proofs.Messages.{Message, Wrote, short_head, message_refused, ensured}

-- two rows of tests asked together
swap : (a b c d : Bool) → ((a && b) && (c && d)) ≡ ((a && c) && (b && d))
swap true true c d = refl
swap true false true d = refl
swap true false false d = refl
swap false b c d = refl

both : (rs : List Row) (s : List ℕ) (os : Outs rs) (x y : Bool)
    → gather (λ (f, m) o rest. may_stand f m s o && rest) (x && y) rs os
    ≡ (gather (λ (f, m) o rest. lies m s o && rest) x rs os && all_may rs (all_named_of rs s os) y)
both [] s os x y = refl
both ((f, m) ∷ rs) s (o, os) x y =
    rw (both rs s os x y)
    (swap (lies m s o) (allowed f (length (named m s o))) (gather (λ (f, m) o rest. lies m s o && rest) x rs os)
    (all_may rs (all_named_of rs s os) y))

module _ {C : Type 0} (k : Form C) (s : List ℕ) (c : C) where
  may_both : may_write k s c ≡ (all_lie k s c && may_join k.grammar.rows (all_named_of k.grammar.rows s (k.handed c))
      (opt_part_of s (k.block c)))
  unfolding may_write all_lie may_join
  may_both =
      both k.grammar.rows s (k.handed c) (lies (as_opt false) s (k.block c))
      (allowed extensions (length (opt_part_of s (k.block c))))

-- each part that a value names is one of its field
abbrev pub Obeyed : {C : Type 0} → Form C → List ℕ → C → Type 0
Obeyed k s c = Joined k.grammar.rows (all_named_of k.grammar.rows s (k.handed c)) (opt_part_of s (k.block c))

pub obeyed : {C : Type 0} (k : Form C) (s : List ℕ) (c : C) → may_write k s c ≡ true → Obeyed k s c
obeyed k s c e = joined _ _ _ (both_true (all_lie k s c) _ (sym (may_both k s c) ∙ e)).1

-- the text is the join of the parts, and what stands behind it
all_joined : (rs : List Row) (s : List ℕ) (os : Outs rs) (z : List ℕ)
    → gather (λ (f, m) o rest. field_bytes f (named m s o) ++ rest) z rs os ≡ join rs (all_named_of rs s os) ++ z
unfolding join
all_joined [] s os z = refl
all_joined ((f, m) ∷ rs) s (o, os) z =
    ap (λ (r : List ℕ). field_bytes f (named m s o) ++ r) (all_joined rs s os z)
    ∙ sym (append_assoc (field_bytes f (named m s o)) (join rs (all_named_of rs s os)) z)

pub hello_joined : {C : Type 0} (k : Form C) (s : List ℕ) (c : C)
    → hello_bytes k s c ≡ join k.grammar.rows
    (all_named_of k.grammar.rows s (k.handed c)) ++ field_bytes extensions (opt_part_of s (k.block c))
unfolding hello_bytes
hello_joined k s c = all_joined k.grammar.rows s (k.handed c) (field_bytes extensions (opt_part_of s (k.block c)))

pub hello_may : {C : Type 0} (k : Form C) (s : List ℕ) (c : C) → may_write k s c ≡ true
    → hello_text k s c ≡ accepted (hello_bytes k s c)
unfolding hello_text
hello_may k s c e = rw e

hello_not : {C : Type 0} (k : Form C) (s : List ℕ) (c : C) → may_write k s c ≡ false
    → hello_text k s c ≡ refused (unplaced BadLength)
unfolding hello_text
hello_not k s c e = rw e

-- the message of a hello that may not be written, and that of one that may, its body of n bytes
abbrev pub HelloMessage : {C : Type 0} → Form C → ℕ → List ℕ → C → ℕ → Type 0
HelloMessage k msgType s c n = Message (head_text msgType) 4 (hello_text k s c) (hello_bytes k s c) n

module _ {C : Type 0} (k : Form C) (msgType : ℕ) (s : List ℕ) (c : C) where
  pub hello_refused : (d : List ℕ) {t : Bool} {r : Refusal} → t ≡ may_write k s c → not t ≡ true
      → r ≡ unplaced BadLength → Came (message_text (head_text msgType) (hello_text k s c)) 0 d (refused r) d
  hello_refused d {t} m n q =
      message_refused (head_text msgType) d (hello_not k s c (sym m ∙ not-true t n) ∙ ap refused (sym q))

  pub hello_message : (n : ℕ) → may_write k s c ≡ true → n ≡ length (hello_bytes k s c) → n < 16777216
      → HelloMessage k msgType s c n
  hello_message n e l h = short_head msgType (hello_may k s c e) l h

-- its parts lie in the bytes lent with it, and are handed over apart; or one of them does not
module _ {C : Type 0} (k : Form C) (s : List ℕ) (c : C) where
  -- the text of a value is that of the parts that it names, where all of them lie there
  pub hello_parts : all_lie k s c ≡ true → hello_text k s c ≡ join_text k.grammar.rows
      (all_named_of k.grammar.rows s (k.handed c)) (opt_part_of s (k.block c))
  unfolding hello_text join_text join_bytes
  hello_parts l = rw (may_both k s c, l, hello_joined k s c)

  pub hello_outside : all_lie k s c ≡ false → hello_text k s c ≡ refused (unplaced BadLength)
  unfolding hello_text
  hello_outside l = rw (may_both k s c, l)

  -- a writer of a value: a part lies outside, or all of them are handed over apart
  pub outside_refused : (msgType : ℕ) (d : List ℕ) {t : Bool} {r : Refusal} → t ≡ all_lie k s c → not t ≡ true
      → r ≡ unplaced BadLength
      → (refused r ≡ room (message_text (head_text msgType) (hello_text k s c)) 0 d)
      × (d ≡ written (message_text (head_text msgType) (hello_text k s c)) 0 d)
  outside_refused msgType d {t} l n q =
      ensured (message_refused (head_text msgType) d (hello_outside (sym l ∙ not-true t n) ∙ ap refused (sym q)))

  pub by_parts : (msgType : ℕ) (d : List ℕ) {t : Bool} {a : Answer ℕ} {n : ℕ} {out : List ℕ} → t ≡ all_lie k s c
      → not t ≡ false
      → Wrote (message_text (head_text msgType) (join_text k.grammar.rows
      (all_named_of k.grammar.rows s (k.handed c)) (opt_part_of s (k.block c)))) d a n out
      → (a ≡ room (message_text (head_text msgType) (hello_text k s c)) 0 d)
      × (out ≡ written (message_text (head_text msgType) (hello_text k s c)) 0 d)
  by_parts msgType d {t} l n w = rw (hello_parts (sym l ∙ not-false t n)) (w.0, w.1.1)
