-- A message written: its body into the buffer lent from behind the head's place on, then the head
-- before it; four bytes, or as many as another head has. Assumes nothing.
use Prim.Native.Nat.{ℕ, ◌+◌, ◌-◌, ◌^◌, ◌<◌, ◌≤◌}
use mathlib.Core.Path.{◌≡◌, refl, sym, ap, ◌∙◌}
use mathlib.Core.List.{List, [], ◌++◌, append_assoc, append-nil}
use mathlib.Core.Bool.{Bool, true, false, ◌&&◌}
use native.Mathlib.Omega.{arith}
use native.Mathlib.Nat.{zero-add}
use borrow.Author.Tests.{ltb-true}
use borrow.Rule.Slice.PartMut.{put_mid, mid_of}
use lib.ListN.{length, take, drop, length-append, length-take, length-drop, drop_of_length-le}
use lib.Dec.{ltb}
use lib.Seq.{take-append-le, take-take, take_all, length-take-le, drop_at, drop-drop}
use Rattle.refusal.specs.Answers.{Answer, accepted, refused, then}
use Rattle.refusal.specs.Refusals.{unplaced}
use Rattle.refusal.specs.declared.Reason.TheVariants.{BadLength}
use Rattle.refusal.specs.declared.Refusal.{Refusal}
use Rattle.wire.specs.Parts.{pick}
use Rattle.wire.specs.Numbers.{bytes_of, number_text}
use Rattle.wire.specs.Puts.{put, room_at, room, written}
use Rattle.wire.specs.declared.view.Part.{Part}
use Rattle.wire.proofs.Parts.{room_fits}
use Rattle.wire.proofs.Numbers.{length_bytes}
use Rattle.wire.proofs.Puts.{Came, text_refused, text_in, text_out, written_in, number_accepted, length_put}
use Rattle.field.specs.Fields.{sized}
use Rattle.field.specs.Texts.{field_text}
use Rattle.write_rules.specs.JoinTexts.{text_length}
use Rattle.write_rules.specs.MessageTexts.{head_text, message_text}
use Rattle.write_rules.proofs.Fields.{begin, next, end}

-- what writing a text came to, as a writer that tells the text's length ensures it
abbrev pub Wrote : Answer (List ℕ) → List ℕ → Answer ℕ → ℕ → List ℕ → Type 0
Wrote t d a n d' = (a ≡ room t 0 d) × ((n ≡ text_length t) × (d' ≡ written t 0 d))

-- what writing came to, as a writer ensures it
pub ensured : {t : Answer (List ℕ)} {at : ℕ} {d : List ℕ} {a : Answer ℕ} {d' : List ℕ} → Came t at d a d'
    → (a ≡ room t at d) × (d' ≡ written t at d)
ensured c = (sym c.says, sym c.leaves)

-- a text that may not be written
pub told_refused : {t : Answer (List ℕ)} (d : List ℕ) {r : Refusal} {a : Answer ℕ} {n : ℕ} → t ≡ refused r
    → a ≡ refused r → n ≡ 0 → Wrote t d a n d
told_refused d e p q =
    let c = text_refused 0 d e in
    (p ∙ sym c.says, (rw e q, sym c.leaves))

-- a text of n bytes: there is no room for it, or it is put in
module _ (d : List ℕ) {t : Answer (List ℕ)} {bs : List ℕ} {n : ℕ} (i : t ≡ accepted bs) (e : n ≡ length bs) where
  pub text_short : {r : Refusal} → room_at d 0 n ≡ refused r → Wrote t d (refused r) n d
  text_short {r} q =
      let c = text_out bs 0 d {r = r} i (rw e at q) in
      (sym c.says, (rw i e, sym c.leaves))

  pub text_put : {p : Part} {d' : List ℕ} → room_at d 0 n ≡ accepted p → d' ≡ put d 0 bs → Wrote t d (accepted p.next) n d'
  text_put {p} q y =
      let c = text_in bs 0 d {p = p} i (rw e at q) in
      (sym c.says, (rw i e, y ∙ sym c.leaves))

-- type and length
abbrev pub head_bytes : ℕ → ℕ → List ℕ
head_bytes msgType n = bytes_of 1 msgType ++ bytes_of 3 n

length_head : (msgType n : ℕ) → length (head_bytes msgType n) ≡ 4
length_head msgType n = simp (length-append, length_bytes)

pub head_is : (msgType n : ℕ) → n < 16777216 → head_text msgType n ≡ accepted (head_bytes msgType n)
unfolding head_text
head_is msgType n h = rw (number_accepted 3 n h)

-- writing them: a length that three bytes cannot hold, no room, and one number behind the other
module _ (msgType n : ℕ) (d : List ℕ) where
  pub head_not : {r : Refusal} → ltb n (256 ^ 3) ≡ false → r ≡ unplaced BadLength
      → Came (head_text msgType n) 0 d (refused r) d
  unfolding head_text number_text
  head_not e q = text_refused 0 d (rw (e, q))

  module _ (h : ltb n (256 ^ 3) ≡ true) where
    pub head-out : {r : Refusal} → room_at d 0 4 ≡ refused r → Came (head_text msgType n) 0 d (refused r) d
    head-out {r} q =
        text_out (head_bytes msgType n) 0 d {r = r} (head_is msgType n (ltb-true _ _ h)) (rw (length_head msgType n) q)

    pub head_in : {p : Part} (o o' : List ℕ) → msgType < 256 → room_at d 0 4 ≡ accepted p
        → o ≡ written (number_text 1 msgType) 0 d → o' ≡ written (number_text 3 n) 1 o
        → Came (head_text msgType n) 0 d (accepted p.next) o'
    head_in {p} o o' k q e₁ e₂ =
        let f = (room_fits d 0 4 q).inside in
        let a = begin d (head_bytes msgType n) (rw (length_head msgType n) f) in
        let b = next (bytes_of 1 msgType) (bytes_of 3 n) a (number_accepted 1 msgType k) o 1 e₁
        (omega (arith, length_bytes 1 msgType)) in
        let c = text_in (head_bytes msgType n) 0 d {p = p} (head_is msgType n (ltb-true _ _ h))
        (rw (length_head msgType n) q) in
        record { says = c.says; leaves = c.leaves ∙ sym (end b (number_accepted 3 n (ltb-true _ _ h)) o' e₂) }

-- a message's text, over any head: that of its bytes, and none where the body has none
pub message_is : (head : ℕ → Answer (List ℕ)) {body : Answer (List ℕ)} (h b : List ℕ) → head (length b) ≡ accepted h
    → body ≡ accepted b → message_text head body ≡ accepted (h ++ b)
unfolding message_text
message_is head h b p q = rw (q, p)

pub message_refused : (head : ℕ → Answer (List ℕ)) {body : Answer (List ℕ)} (d : List ℕ) {r : Refusal}
    → body ≡ refused r → Came (message_text head body) 0 d (refused r) d
unfolding message_text
message_refused head d e = text_refused 0 d (rw e)

pub message_not : (head : ℕ → Answer (List ℕ)) {body : Answer (List ℕ)} {r : Refusal} → body ≡ refused r
    → message_text head body ≡ refused r
unfolding message_text
message_not head e = rw e

-- a body whose length is too large for type and length
pub message_over : (msgType n : ℕ) (p : List ℕ) → n ≡ length p → ltb n (256 ^ 3) ≡ false
    → message_text (head_text msgType) (accepted p) ≡ refused (unplaced BadLength)
unfolding message_text head_text number_text
message_over msgType n p e h = rw (rw e at h)

-- with type and length before it, it is the type and the body behind a length of three bytes
pub same_text : (msgType : ℕ) (body : Answer (List ℕ))
    → message_text (head_text msgType) body ≡ then body
    (λ b. then (field_text (sized 3) b) (λ t. accepted (bytes_of 1 msgType ++ t)))
unfolding message_text head_text number_text field_text
same_text msgType (refused r) = refl
same_text msgType (accepted b) = go (ltb (length b) (256 ^ 3))
  where
    go : (t : Bool)
        → then (then (pick t (accepted (bytes_of 3 (length b))) (refused (unplaced BadLength)))
        (λ n. accepted (bytes_of 1 msgType ++ n))) (λ h. accepted (h ++ b))
        ≡ then (pick (t && true) (accepted (bytes_of 3 (length b) ++ b)) (refused (unplaced BadLength)))
        (λ n. accepted (bytes_of 1 msgType ++ n))
    go true = ap accepted (append_assoc (bytes_of 1 msgType) (bytes_of 3 (length b)) b)
    go false = refl

-- bytes put in right before others
pub put_before : (d : List ℕ) (at : ℕ) (xs ys : List ℕ) → at + length xs + length ys ≤ length d
    → put (put d (at + length xs) ys) at xs ≡ put d at (xs ++ ys)
unfolding put
put_before d at xs ys h =
    let n : at + length (xs ++ ys) ≡ at + length xs + length ys = rw length-append (omega arith) in
    let l : length (take (at + length xs) d) ≡ at + length xs = length-take-le (at + length xs) d (omega arith) in
    let z = ys ++ drop (at + length xs + length ys) d in
    let a : take at (take (at + length xs) d ++ z) ≡ take at d =
    take-append-le at (take (at + length xs) d) z (omega arith) ∙ take-take at (at + length xs) d (omega arith) in
    let b : drop (at + length xs) (take (at + length xs) d ++ z) ≡ z = drop_at (take (at + length xs) d) z _ l in
    rw (a, b, n) (simp append_assoc)

-- bytes put into the part from a place on, lent as `&mut out[a..]`
put_mid_lem : (d : List ℕ) (a : ℕ) (bs : List ℕ) → a + length bs ≤ length d
    → put_mid a (length d - a) d (put (mid_of a (length d - a) d) 0 bs) ≡ put d a bs
unfolding put
put_mid_lem d a bs h =
    let m : take (length d - a) (drop a d) ≡ drop a d =
    take_all (length d - a) (drop a d) (rw length-drop (omega arith)) in
    let e : drop (length d - a) (drop a d) ≡ [] =
    drop_of_length-le (drop a d) {i = length d - a} (rw length-drop (omega arith)) in
    rw (m, e, append-nil, zero-add, drop-drop)

-- a message that may be written: a head of m bytes, and a body of n
pub record Message (head : ℕ → Answer (List ℕ)) (m : ℕ) (body : Answer (List ℕ)) (bs : List ℕ) (n : ℕ) : Type 0 where
  pub front : List ℕ
  pub before : head n ≡ accepted front
  pub wide : length front ≡ m
  pub is : body ≡ accepted bs
  pub long : n ≡ length bs

-- one with type and length for its head
pub short_head : (msgType : ℕ) {body : Answer (List ℕ)} {bs : List ℕ} {n : ℕ} → body ≡ accepted bs → n ≡ length bs
    → n < 16777216 → Message (head_text msgType) 4 body bs n
short_head msgType {n = n} e l h =
    record { front = head_bytes msgType n; before = head_is msgType n h; wide = length_head msgType n; is = e; long = l }

-- the same, its body being bytes of which three can hold the length
pub body_message : (msgType n : ℕ) (p : List ℕ) → n ≡ length p → ltb n (256 ^ 3) ≡ true
    → Message (head_text msgType) 4 (accepted p) p n
body_message msgType n p e h = short_head msgType refl e (ltb-true _ _ h)

-- there is no room for it, or its body is put in behind the head's place, and then the head
module _ {head : ℕ → Answer (List ℕ)} {m : ℕ} {body : Answer (List ℕ)} {bs : List ℕ} {n : ℕ} (d : List ℕ)
    (b : Message head m body bs n) where
  pub whole_is : message_text head body ≡ accepted (b.front ++ bs)
  whole_is = message_is head b.front bs (rw (← b.long) b.before) b.is

  pub length_whole : length (b.front ++ bs) ≡ m + n
  length_whole = rw (length-append, b.wide, ← b.long)

  -- the body fits into what is lent from byte m on
  pub body_fits : {p : Part} → room_at d 0 (m + n) ≡ accepted p → length bs ≤ length (mid_of m (length d - m) d)
  body_fits q = rw (length-take, length-drop) (omega (arith, b.long, (room_fits d 0 (m + n) q).inside))

  pub message_out : {r : Refusal} → room_at d 0 (m + n) ≡ refused r → Came (message_text head body) 0 d (refused r) d
  message_out {r} q = text_out (b.front ++ bs) 0 d {r = r} whole_is (rw length_whole q)

  -- the body lent from byte m on is ys, and the head is written before it
  pub message_in : {p : Part} (ys out : List ℕ) → room_at d 0 (m + n) ≡ accepted p
      → ys ≡ put (mid_of m (length d - m) d) 0 bs
      → out ≡ written (head n) 0 (put_mid m (length d - m) d ys)
      → Came (message_text head body) 0 d (accepted p.next) out
  message_in {p} ys out q y o =
      let f : m + length bs ≤ length d = omega (arith, (room_fits d 0 (m + n) q).inside, b.long) in
      let w = b.wide in
      let k : length (put d m bs) ≡ length d = length_put d m bs f in
      let x : put_mid m (length d - m) d ys ≡ put d m bs = rw y (put_mid_lem d m bs f) in
      let h : out ≡ put (put d m bs) 0 b.front = o
      ∙ rw x (written_in b.front 0 (put d m bs) b.before (omega (arith, w, k))) in
      let g : put (put d (0 + length b.front) bs) 0 b.front ≡ put d 0 (b.front ++ bs) =
      put_before d 0 b.front bs (omega (arith, w)) in
      let c = text_in (b.front ++ bs) 0 d {p = p} whole_is (rw length_whole q) in
      record { says = c.says; leaves = c.leaves ∙ sym (h ∙ rw (zero-add, w) at g) }

  -- the same where one text puts the body in
  pub message_by : {t : Answer (List ℕ)} {p : Part} (ys out : List ℕ) → t ≡ accepted bs
      → room_at d 0 (m + n) ≡ accepted p → ys ≡ written t 0 (mid_of m (length d - m) d)
      → out ≡ written (head n) 0 (put_mid m (length d - m) d ys)
      → Came (message_text head body) 0 d (accepted p.next) out
  message_by {p = p} ys out e q y o =
      message_in {p = p} ys out q (y ∙ written_in bs 0 (mid_of m (length d - m) d) e (omega (arith, body_fits q))) o

  -- the same with the text's length
  pub long_whole : text_length (message_text head body) ≡ m + n
  long_whole = rw whole_is length_whole

  pub no_room : {r : Refusal} {k : ℕ} → k ≡ m + n → room_at d 0 (m + n) ≡ refused r
      → Wrote (message_text head body) d (refused r) k d
  no_room {r} e q =
      let c = message_out {r = r} q in
      (sym c.says, (e ∙ sym long_whole, sym c.leaves))

  pub wrote : {a k : ℕ} {out : List ℕ} → k ≡ m + n → Came (message_text head body) 0 d (accepted a) out
      → Wrote (message_text head body) d (accepted a) k out
  wrote e c = (sym c.says, (e ∙ sym long_whole, sym c.leaves))
