-- Bytes put into a buffer, and a text written or not. Assumes nothing.
use Prim.Native.Nat.{ℕ, zero, suc, ◌+◌, ◌-◌, ◌/◌, ◌%◌, ◌^◌, ◌<◌, ◌≤◌}
use mathlib.Core.Path.{◌≡◌, sym, ap, ◌∙◌}
use mathlib.Core.List.{List, [], ◌∷◌, ◌++◌, append_assoc}
use native.Mathlib.Omega.{arith}
use native.Mathlib.Nat.{add-zero}
use native.Mathlib.Numerals.{add-one}
use borrow.Author.Tests.{le-leb, lt-leb, le-ltb, lt-ltb}
use lib.ListN.{length, get_or, take, drop, set, length-append, length-drop, length-set, take-append-drop}
use lib.Seq.{take_at, drop_at, drop-drop, length-take-le, drop-cons, set_at, take-set-le, drop-set-lt, get_or-set_same}
use lib.Seq.{take-suc}
use Rattle.refusal.specs.Answers.{Answer, accepted, refused}
use Rattle.refusal.specs.Refusals.{unplaced}
use Rattle.refusal.specs.declared.Reason.TheVariants.{BadLength}
use Rattle.refusal.specs.declared.Refusal.{Refusal}
use Rattle.wire.specs.Numbers.{bytes_of, number_text}
use Rattle.wire.specs.declared.view.Part.{Part}
use Rattle.wire.specs.Puts.{put, room, room_at, written}
use Rattle.wire.proofs.Parts.{room_in, room_fits, room_short}
use Rattle.wire.proofs.Numbers.{length_bytes}

pub put_nil : (d : List ℕ) (at : ℕ) → put d at [] ≡ d
unfolding put
put_nil d at = rw add-zero (take-append-drop at d)

pub length_put : (d : List ℕ) (at : ℕ) (bs : List ℕ) → at + length bs ≤ length d → length (put d at bs) ≡ length d
unfolding put
length_put d at bs h = simp (length-append, length-drop, length-take-le at d (omega arith)) (omega arith)

-- the front of a buffer with bytes put in
front : (d : List ℕ) (at : ℕ) (xs : List ℕ) → at + length xs ≤ length d → length (take at d ++ xs) ≡ at + length xs
front d at xs h = simp (length-append, length-take-le at d (omega arith))

-- bytes put in right behind others
pub put_put : (d : List ℕ) (at : ℕ) (xs ys : List ℕ) → at + length xs + length ys ≤ length d
    → put (put d at xs) (at + length xs) ys ≡ put d at (xs ++ ys)
unfolding put
put_put d at xs ys h =
    let l = front d at xs (omega arith) in
    let z = drop (at + length xs) d in
    let e : take at d ++ (xs ++ z) ≡ (take at d ++ xs) ++ z = sym (append_assoc (take at d) xs z) in
    let a : take (at + length xs) (take at d ++ (xs ++ z)) ≡ take at d ++ xs = rw e (take_at (take at d ++ xs) z _ l) in
    let b : drop (at + length xs + length ys) (take at d ++ (xs ++ z)) ≡ drop (at + length xs + length ys) d =
    rw (e, ← drop-drop (length ys) (at + length xs), drop_at (take at d ++ xs) z _ l, drop-drop) in
    let n : at + length (xs ++ ys) ≡ at + length xs + length ys = rw length-append (omega arith) in
    rw (a, b, n) (append_assoc (take at d) xs _ ∙ ap (λ (r : List ℕ). take at d ++ r) (sym (append_assoc xs ys _)))

-- one byte more, behind
set_put : (d : List ℕ) (at : ℕ) (xs : List ℕ) (y : ℕ) → at + length xs < length d
    → set (put d at xs) (at + length xs) y ≡ put d at (xs ++ (y ∷ []))
unfolding put
set_put d at xs y h =
    let l = front d at xs (omega arith) in
    let n : at + length (xs ++ (y ∷ [])) ≡ suc (at + length xs) = rw length-append (omega arith) in
    rw (
      ← append_assoc (take at d) xs (drop (at + length xs) d),
      drop-cons d (at + length xs) 0 h,
      set_at (take at d ++ xs) _ _ y _ l,
      n,
    )
    (simp append_assoc)

-- a turn of the copy
pub copy_next : (d : List ℕ) (at : ℕ) (s : List ℕ) (k : ℕ) → at + length s ≤ length d → k < length s
    → set (put d at (take k s)) (at + k) (get_or s k 0) ≡ put d at (take (k + 1) s)
copy_next d at s k h l =
    let n : length (take k s) ≡ k = length-take-le k s (omega arith) in
    let e = set_put d at (take k s) (get_or s k 0) (rw n (omega arith)) in
    rw (add-one, take-suc s k 0 l) (rw n at e)

-- a byte set, and then the bytes before it
put_set : (d : List ℕ) (at : ℕ) (xs : List ℕ) (y : ℕ) → at + length xs < length d
    → put (set d (at + length xs) y) at xs ≡ put d at (xs ++ (y ∷ []))
unfolding put
put_set d at xs y h =
    let k = at + length xs in
    let n : at + length (xs ++ (y ∷ [])) ≡ suc (at + length xs) = rw length-append (omega arith) in
    let a : take at (set d k y) ≡ take at d = take-set-le at d k y (omega arith) in
    let b : drop k (set d k y) ≡ y ∷ drop (suc k) d =
    drop-cons (set d k y) k 0 (rw length-set h)
    ∙ rw (get_or-set_same d k y 0 h, drop-set-lt (suc k) d k y (omega arith)) in
    rw (a, b, n) (simp append_assoc)

-- a turn of the number, from the last byte
pub number_next : (d : List ℕ) (at j m : ℕ) → 0 < j → at + j ≤ length d
    → put (set d (at + (j - 1)) (m % 256)) at (bytes_of (j - 1) (m / 256)) ≡ put d at (bytes_of j m)
unfolding bytes_of
number_next d at zero m h l = absurd (omega arith)
number_next d at (suc i) m h l =
    let e : suc i - 1 ≡ i = omega arith in
    let n = length_bytes i (m / 256) in
    let p = put_set d at (bytes_of i (m / 256)) (m % 256) (rw n (omega arith)) in
    rw e (rw n at p)

-- what writing a text comes to
pub record Came (t : Answer (List ℕ)) (at : ℕ) (d : List ℕ) (a : Answer ℕ) (d' : List ℕ) : Type 0 where
  pub says : room t at d ≡ a
  pub leaves : written t at d ≡ d'

pub text_refused : {t : Answer (List ℕ)} (at : ℕ) (d : List ℕ) {r : Refusal} → t ≡ refused r → Came t at d (refused r) d
unfolding room written
text_refused at d e = record { says = rw e; leaves = rw e }

pub text_in : {t : Answer (List ℕ)} (bs : List ℕ) (at : ℕ) (d : List ℕ) {p : Part} → t ≡ accepted bs
    → room_at d at (length bs) ≡ accepted p → Came t at d (accepted p.next) (put d at bs)
unfolding room written
text_in bs at d e q =
    let f = room_fits d at (length bs) q in
    let t = le-leb (at + length bs) (length d) f.inside in
    record { says = rw (e, t, f.is); leaves = rw (e, t) }

pub text_out : {t : Answer (List ℕ)} (bs : List ℕ) (at : ℕ) (d : List ℕ) {r : Refusal} → t ≡ accepted bs
    → room_at d at (length bs) ≡ refused r → Came t at d (refused r) d
unfolding room written
text_out bs at d e q =
    let f = room_short d at (length bs) q in
    let t = lt-leb (at + length bs) (length d) f.1 in
    record { says = rw (e, t, f.0); leaves = rw (e, t) }

-- a text with room for it is put in
pub written_in : {t : Answer (List ℕ)} (bs : List ℕ) (at : ℕ) (d : List ℕ) → t ≡ accepted bs
    → at + length bs ≤ length d → written t at d ≡ put d at bs
written_in bs at d e h = (text_in bs at d e (room_in d at (length bs) h)).leaves

-- and the same for a number's
number_refused : (w n : ℕ) → 256 ^ w ≤ n → number_text w n ≡ refused (unplaced BadLength)
unfolding number_text
number_refused w n h = rw (le-ltb n (256 ^ w) h)

pub number_accepted : (w n : ℕ) → n < 256 ^ w → number_text w n ≡ accepted (bytes_of w n)
unfolding number_text
number_accepted w n h = rw (lt-ltb n (256 ^ w) h)

pub number_over : (w n at : ℕ) (d : List ℕ) → 256 ^ w ≤ n → Came (number_text w n) at d (refused (unplaced BadLength)) d
number_over w n at d h = text_refused at d (number_refused w n h)

pub number_put : (w n at : ℕ) (d : List ℕ) {p : Part} → n < 256 ^ w → room_at d at w ≡ accepted p
    → Came (number_text w n) at d (accepted p.next) (put d at (bytes_of w n))
number_put w n at d {p} h e = text_in (bytes_of w n) at d {p = p} (number_accepted w n h) (rw (length_bytes w n) e)

pub number_out : (w n at : ℕ) (d : List ℕ) {r : Refusal} → n < 256 ^ w → room_at d at w ≡ refused r
    → Came (number_text w n) at d (refused r) d
number_out w n at d {r} h e = text_out (bytes_of w n) at d {r = r} (number_accepted w n h) (rw (length_bytes w n) e)
