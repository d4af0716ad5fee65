-- The rows of a list of extensions, a turn at a time: those left at a place, whether one of them is
-- raw, how many bytes they come to, and their texts put in one behind the other. Assumes nothing.
use Prim.Native.Nat.{ℕ, ◌+◌, ◌-◌, ◌%◌, ◌^◌, ◌<◌, ◌≤◌}
use mathlib.Core.Path.{◌≡◌, refl, sym, ap, ◌∙◌}
use mathlib.Core.Logic.{◌⊎◌, inl, inr}
use mathlib.Core.Bool.{Bool, true, false, ◌&&◌}
use mathlib.Core.List.{List, [], ◌∷◌, ◌++◌, append_assoc, append-nil, map}
use native.Mathlib.Omega.{arith}
use borrow.Rule.Slice.PartMut.{put_mid, mid_of}
use borrow.Author.Tests.{ltb-true, lt-ltb, le-ltb, eq-eqb, ne_eqb}
use lib.ListN.{length, length-append}
use lib.Dec.{ltb}
use Rattle.refusal.specs.Answers.{Answer, accepted, refused, then, giving}
use Rattle.refusal.specs.Refusals.{unplaced}
use Rattle.refusal.specs.declared.Reason.TheVariants.{BadLength, Incomplete, NotYetImplemented}
use Rattle.refusal.specs.declared.Refusal.{Refusal}
use Rattle.refusal.proofs.Then.{not_both, then_accepted, then_refused, either}
use Rattle.wire.specs.Parts.{pick, lies_in, part_of}
use Rattle.wire.specs.Puts.{put, room, room_at, written}
use Rattle.wire.specs.Numbers.{bytes_of, number_text}
use Rattle.wire.specs.declared.view.Part.{Part}
use Rattle.wire.proofs.Parts.{found, fits, room_in}
use Rattle.wire.proofs.Numbers.{length_bytes}
use Rattle.wire.proofs.Puts.{text_in, put_nil, length_put, written_in, number_accepted}
use Rattle.field.specs.Fields.{fixed, sized, step}
use Rattle.field.specs.Standing.{field_bytes}
use Rattle.field.specs.Texts.{allowed}
use Rattle.field.proofs.Rules.{step_in}
use Rattle.field.proofs.Texts.{both_true}
use Rattle.list.proofs.Walk.{Moves, rest, rest_all, rest_on, rest_end}
use Rattle.read_ext.specs.Kinds.{is_raw, kind_of}
use Rattle.read_ext.specs.Extensions.{number_there}
use Rattle.read_ext.specs.Splits.{data_bytes, ext_bytes}
use Rattle.write_rules.specs.MessageTexts.{view_text, message_text}
use Rattle.write_rules.proofs.Fields.{Left, begin, next}
use Rattle.write_rules.proofs.Messages.{Wrote, Message, message_not, whole_is, length_whole, body_fits, no_room, wrote, message_by}
use Rattle.write_ext.specs.ExtTexts.{may_stand, ext_text, join_texts, capped, row_of, row_from, rows, row_text, raw_row}
use Rattle.write_ext.specs.ExtTexts.{joined_in, rows_text, RowsFit}
use Rattle.write_ext.specs.declared.rows.Row.{Row}
use Rattle.write_ext.proofs.OneText.{text_bad, text_made, none_given}

-- an answer with a test before it that was accepted passed the test
passed : {A : Type 0} (t : Bool) (a : Answer A) (r : Refusal) {x : A} → pick t a (refused r) ≡ accepted x
    → (t ≡ true) × (a ≡ accepted x)
passed true a r e = (refl, e)
passed false a r e = absurd (not_both e refl)

failed : {A : Type 0} (t : Bool) (a : Answer A) (r : Refusal) {x : A} → pick t (refused r) a ≡ accepted x
    → (t ≡ false) × (a ≡ accepted x)
failed true a r e = absurd (not_both e refl)
failed false a r e = (refl, e)

-- what an answer made of another says of it
pub giving_accepted : {A B : Type 0} (make : A → B) (x : Answer A) {b : B} → giving make x ≡ accepted b → (a : A)
    × (x ≡ accepted a) × (b ≡ make a)
giving_accepted make (accepted a) {b} e = let d : accepted (make a) ≡ accepted b = e in (a, refl, cc)
giving_accepted make (refused r) e = absurd (not_both e refl)

-- the text of an extension that is not raw is that of its bytes, or BadLength
module _ (t : ℕ) (c : List ℕ) where
  ext_long : {b : List ℕ} → ext_text t c ≡ accepted b → length b ≤ 65539
  unfolding ext_text may_stand
  ext_long {b} e =
      let f = failed (is_raw t) _ _ e in
      let p = passed (may_stand t c) (accepted (ext_bytes (t, c))) _ f.1 in
      let k = kind_of t (length c) in
      let h = both_true (allowed k.field (length c)) (k.held c && ltb (length (data_bytes t c)) (256 ^ 2)) p.0 in
      let m = both_true (k.held c) (ltb (length (data_bytes t c)) (256 ^ 2)) h.1 in
      let d : accepted (ext_bytes (t, c)) ≡ accepted b = p.1 in
      let q : ext_bytes (t, c) ≡ b = cc in
      let n : length (ext_bytes (t, c)) ≡ 2 + (2 + length (data_bytes t c)) = simp (length-append, length_bytes) in
      omega (arith, ltb-true (length (data_bytes t c)) (256 ^ 2) m.1, n, ap length q)

  ext_bad : {r : Refusal} → is_raw t ≡ false → ext_text t c ≡ refused r → r ≡ unplaced BadLength
  ext_bad {r} n e = go (may_stand t c) refl
    where
      go : (b : Bool) → may_stand t c ≡ b → r ≡ unplaced BadLength
      go true q = absurd (not_both (text_made t c n q) e)
      go false q =
          let d : ◌≡◌ {A = Answer (List ℕ)} (refused (unplaced BadLength)) (refused r) = sym (text_bad t c n q) ∙ e in
          cc

-- the text of a row: it is raw, or its content lies within the bytes or does not
module _ (s : List ℕ) (x : Row) where
  pub row_raw : is_raw x.ext_type ≡ true → row_text s x ≡ refused (unplaced NotYetImplemented)
  unfolding row_text
  row_raw n = rw n

  pub row_inside : is_raw x.ext_type ≡ false → lies_in s x.content ≡ true
      → row_text s x ≡ ext_text x.ext_type (part_of s x.content)
  unfolding row_text view_text
  row_inside n q = rw (n, q)

  pub row_outside : is_raw x.ext_type ≡ false → lies_in s x.content ≡ false
      → row_text s x ≡ refused (unplaced BadLength)
  unfolding row_text view_text
  row_outside n q = rw (n, q)

  row_is : {b : List ℕ} → row_text s x ≡ accepted b → ext_text x.ext_type (part_of s x.content) ≡ accepted b
  unfolding row_text view_text
  row_is e =
      let f = failed (is_raw x.ext_type) _ _ e in
      let q = then_accepted (view_text s x.content) (ext_text x.ext_type) f.1 in
      let p = passed (lies_in s x.content) (accepted (part_of s x.content)) _ q.1 in
      let d : accepted (part_of s x.content) ≡ accepted q.0 = p.1 in
      let i : part_of s x.content ≡ q.0 = cc in
      rw i q.2

  -- the length of one that may be written does not wrap a sum
  pub row_long : {n : ℕ} → giving length (row_text s x) ≡ accepted n → n ≤ 65539
  row_long q =
      let g = giving_accepted length (row_text s x) q in
      omega (arith, g.2, ext_long x.ext_type (part_of s x.content) (row_is g.1))

  row_bad : {r : Refusal} → is_raw x.ext_type ≡ false → row_text s x ≡ refused r → r ≡ unplaced BadLength
  row_bad {r} n e = go (lies_in s x.content) refl
    where
      go : (b : Bool) → lies_in s x.content ≡ b → r ≡ unplaced BadLength
      go true q = ext_bad x.ext_type (part_of s x.content) n (sym (row_inside n q) ∙ e)
      go false q =
          let d : ◌≡◌ {A = Answer (List ℕ)} (refused (unplaced BadLength)) (refused r) = sym (row_outside n q) ∙ e in
          cc

-- the texts of rows, joined: where none is raw, they are refused with BadLength alone
abbrev pub texts : List ℕ → List Row → Answer (List ℕ)
texts s xs = join_texts (map (row_text s) xs)

raw_split : (x : Row) (xs : List Row) → raw_row (x ∷ xs) ≡ false → (is_raw x.ext_type ≡ false) × (raw_row xs ≡ false)
unfolding raw_row
raw_split x xs e = go (is_raw x.ext_type) refl
  where
    go : (b : Bool) → is_raw x.ext_type ≡ b → (is_raw x.ext_type ≡ false) × (raw_row xs ≡ false)
    go true q =
        let f : ◌≡◌ {A = Bool} true false = rw q at e in
        let z : ◌≡◌ {A = ℕ} 0 1 = cc in absurd (omega arith)
    go false q = (q, rw q at e)

texts_bad : (s : List ℕ) (xs : List Row) {r : Refusal} → raw_row xs ≡ false → texts s xs ≡ refused r
    → r ≡ unplaced BadLength
unfolding join_texts
texts_bad s [] n e = absurd (not_both refl e)
texts_bad s (x ∷ xs) {r} n e =
    go (λ m q. texts_bad s xs m q) (then_refused (row_text s x) (λ b. giving (λ bs. b ++ bs) (texts s xs)) e)
  where
    go : (raw_row xs ≡ false → texts s xs ≡ refused r → r ≡ unplaced BadLength)
        → (row_text s x ≡ refused r) ⊎
        ((b : List ℕ) × (row_text s x ≡ accepted b) × (giving (λ bs. b ++ bs) (texts s xs) ≡ refused r))
        → r ≡ unplaced BadLength
    go ih (inl q) = row_bad s x (raw_split x xs n).0 q
    go ih (inr (b, q, f)) = ih (raw_split x xs n).1 (none_given (λ bs. b ++ bs) (texts s xs) f)

giving_none : (a : Answer (List ℕ)) → giving (λ bs. [] ++ bs) a ≡ a
giving_none (accepted bs) = refl
giving_none (refused r) = refl

giving_both : (p b : List ℕ) (a : Answer (List ℕ))
    → giving (λ bs. p ++ bs) (giving (λ bs. b ++ bs) a) ≡ giving (λ bs. (p ++ b) ++ bs) a
giving_both p b (accepted bs) = ap accepted (sym (append_assoc p b bs))
giving_both p b (refused r) = refl

-- what two bytes can hold the length of
cap_in : (bs : List ℕ) → length bs ≤ 65535 → capped bs ≡ accepted bs
unfolding capped
cap_in bs h = rw (lt-ltb (length bs) (256 ^ 2) (omega arith))

cap_out : (bs : List ℕ) → 65535 < length bs → capped bs ≡ refused (unplaced BadLength)
unfolding capped
cap_out bs h = rw (le-ltb (length bs) (256 ^ 2) (omega arith))

cap_is : (bs : List ℕ) {b : List ℕ} → capped bs ≡ accepted b → (bs ≡ b) × (length b ≤ 65535)
unfolding capped
cap_is bs {b} e =
    let p = passed (allowed (sized 2) (length bs)) (accepted bs) _ e in
    let h = both_true (ltb (length bs) (256 ^ 2)) true p.0 in
    let d : accepted bs ≡ accepted b = p.1 in
    let q : bs ≡ b = cc in
    (q, omega (arith, ltb-true (length bs) (256 ^ 2) h.0, ap length q))

joined_is : (v s : List ℕ) {b : List ℕ} → joined_in v s ≡ accepted b
    → (texts s (rows v) ≡ accepted b) × (length b ≤ 65535)
unfolding joined_in
joined_is v s {b} e =
    let t = then_accepted (texts s (rows v)) capped e in
    let c = cap_is t.0 t.2 in
    (t.1 ∙ ap accepted c.0, c.1)

-- the walk: what is left at a place
abbrev pub behind : Row → ℕ
behind r = r.next

module _ (v : List ℕ) where
  turn : Moves (row_from v) behind (length v)
  unfolding row_from
  turn = record {
    on = λ at x e.
        let g = giving_accepted (row_of v) (step (fixed 10) v at) e in
        let i = step_in (fixed 10) v at g.1 in
        rw g.2 (omega arith, i.1);
  }

  abbrev pub left : ℕ → List Row
  left at = rest (row_from v) behind (length v) at

  pub all_left : rows v ≡ left 0
  all_left = rest_all (row_from v) behind (length v)

-- a row that is found
fixed_found : (n : ℕ) (s : List ℕ) (at : ℕ) {p : Part} → step (fixed n) s at ≡ accepted p → p ≡ found at n
unfolding step
fixed_found n s at e = (fits Incomplete s at n e).is

module _ (v : List ℕ) (at : ℕ) where
  pub row_at : {p : Part} → step (fixed 10) v at ≡ accepted p → row_from v at ≡ accepted (record {
    ext_type = number_there 2 v at;
    content = record { start = number_there 4 v (at + 2); len = number_there 4 v (at + 6) };
    next = p.next;
  })
  unfolding row_from
  row_at {p} e = rw e (rw (fixed_found 10 v at e))

  pub raw_end : {r : Refusal} → row_from v at ≡ refused r → raw_row (left v at) ≡ false
  unfolding raw_row
  raw_end e = rw (rest_end (turn v) at e)

  module _ {x : Row} (e : row_from v at ≡ accepted x) where
    pub further : (at + 1 ≤ x.next) × (x.next ≤ length v)
    further = (turn v).on at x e

    pub raw-here : is_raw x.ext_type ≡ true → raw_row (left v at) ≡ true
    unfolding raw_row
    raw-here n = rw (rest_on (turn v) at e, n)

    pub raw-next : is_raw x.ext_type ≡ false → raw_row (left v at) ≡ raw_row (left v x.next)
    unfolding raw_row
    raw-next n = rw (rest_on (turn v) at e, n)

    texts-on : (s : List ℕ) {b : List ℕ} → row_text s x ≡ accepted b
        → texts s (left v at) ≡ giving (λ bs. b ++ bs) (texts s (left v x.next))
    unfolding join_texts
    texts-on s t = rw (rest_on (turn v) at e, t)

    texts-not : (s : List ℕ) {r : Refusal} → row_text s x ≡ refused r → texts s (left v at) ≡ refused r
    unfolding join_texts
    texts-not s t = rw (rest_on (turn v) at e, t)

-- the rows up to a place come to so many bytes, and no row from there on is raw
pub record Summing (v s : List ℕ) (at sum : ℕ) : Type 0 where
  pub front : List ℕ
  pub same : texts s (rows v) ≡ giving (λ bs. front ++ bs) (texts s (left v at))
  pub long : length front ≡ sum
  pub bound : sum ≤ 65535
  pub no_raw : raw_row (left v at) ≡ false

module _ (v s : List ℕ) where
  pub sums : raw_row (rows v) ≡ false → Summing v s 0 0
  sums n = record {
    front = [];
    same = ap (texts s) (all_left v) ∙ sym (giving_none (texts s (left v 0)));
    long = refl;
    bound = omega arith;
    no_raw = ap raw_row (sym (all_left v)) ∙ n;
  }

  module _ {at sum : ℕ} (y : Summing v s at sum) where
    -- there is no row more
    pub sums-end : {r : Refusal} → row_from v at ≡ refused r → accepted sum ≡ giving length (joined_in v s)
    unfolding joined_in join_texts
    sums-end e =
        let j : texts s (rows v) ≡ accepted (y.front ++ []) = y.same ∙ rw (rest_end (turn v) at e) in
        let k : joined_in v s ≡ accepted y.front =
        rw (j, append-nil) (cap_in y.front (omega (arith, y.long, y.bound))) in
        rw k (ap accepted (sym y.long))

    module _ {x : Row} (e : row_from v at ≡ accepted x) where
      -- one is refused
      pub sums-not : {r : Refusal} → giving length (row_text s x) ≡ refused r → refused r ≡ giving length (joined_in v s)
      unfolding joined_in
      sums-not {r} q =
          let t = texts-not v at e s (none_given length (row_text s x) q) in
          let j : texts s (rows v) ≡ refused r = y.same ∙ rw t in
          rw j

      module _ {n : ℕ} (q : giving length (row_text s x) ≡ accepted n) where
        -- with it there are too many bytes
        pub sums-over : {r : Refusal} → r ≡ unplaced BadLength → 65535 < sum + n
            → refused r ≡ giving length (joined_in v s)
        unfolding joined_in
        sums-over {r} z h =
            let g = giving_accepted length (row_text s x) q in
            let m = raw_split x (left v x.next) (rw (rest_on (turn v) at e) at y.no_raw) in
            go g.0 g.1 g.2 m.1 (either (texts s (left v x.next)))
          where
            go : (b : List ℕ) → row_text s x ≡ accepted b → n ≡ length b → raw_row (left v x.next) ≡ false
                → ((bs : List ℕ) × (texts s (left v x.next) ≡ accepted bs)) ⊎
                ((w : Refusal) × (texts s (left v x.next) ≡ refused w)) → refused r ≡ giving length (joined_in v s)
            go b t l m (inl (bs, f)) =
                let o = texts-on v at e s t in
                let j : texts s (rows v) ≡ accepted (y.front ++ (b ++ bs)) = y.same ∙ rw (o, f) in
                let k : length (y.front ++ (b ++ bs)) ≡ length y.front + (length b + length bs) =
                simp length-append in
                rw (j, cap_out (y.front ++ (b ++ bs)) (omega (arith, k, y.long, l, h))) (ap refused z)
            go b t l m (inr (w, f)) =
                let o = texts-on v at e s t in
                let j : texts s (rows v) ≡ refused w = y.same ∙ rw (o, f) in
                rw j (ap refused (z ∙ sym (texts_bad s (left v x.next) m f)))

        -- with it there are not
        pub sums_next : sum + n ≤ 65535 → Summing v s x.next (sum + n)
        sums_next h =
            let g = giving_accepted length (row_text s x) q in
            let m = raw_split x (left v x.next) (rw (rest_on (turn v) at e) at y.no_raw) in
            record {
              front = y.front ++ g.0;
              same = y.same ∙ ap (giving (λ bs. y.front ++ bs)) (texts-on v at e s g.1)
                  ∙ giving_both y.front g.0 (texts s (left v x.next));
              long = rw length-append (omega (arith, y.long, g.2));
              bound = h;
              no_raw = m.1;
            }

-- the rows up to a place are put in, and there is room for the others
pub record Putting (v s d out : List ℕ) (at to : ℕ) : Type 0 where
  pub whole : List ℕ
  pub is : joined_in v s ≡ accepted whole
  pub fits : length whole ≤ length d
  pub more : List ℕ
  pub behind : texts s (left v at) ≡ accepted more
  pub lefts : Left d whole out to more
  pub same : length out ≡ length d

left_same : {d whole out : List ℕ} {to : ℕ} {xs ys : List ℕ} → xs ≡ ys → Left d whole out to xs
    → Left d whole out to ys
left_same e l = rw e at l

module _ (v s d : List ℕ) where
  pub puts : RowsFit v s d → Putting v s d d 0 0
  puts (bs, e, h) = record {
    whole = bs;
    is = e;
    fits = h;
    more = bs;
    behind = ap (texts s) (sym (all_left v)) ∙ (joined_is v s e).0;
    lefts = begin d bs h;
    same = refl;
  }

  module _ {out : List ℕ} {at to : ℕ} (y : Putting v s d out at to) where
    -- there is no row more
    pub puts-end : {r : Refusal} → row_from v at ≡ refused r → out ≡ written (joined_in v s) 0 d
    unfolding join_texts
    puts-end e =
        let f : accepted [] ≡ accepted y.more = rw (rest_end (turn v) at e) at y.behind in
        let m : y.more ≡ [] = cc in
        let p : put out to [] ≡ put d 0 y.whole = rw m at y.lefts.is in
        sym (put_nil out to) ∙ p ∙ sym (written_in y.whole 0 d y.is (omega (arith, y.fits)))

    module _ {x : Row} (e : row_from v at ≡ accepted x) where
      -- its text, and the texts behind it
      next-text : (b : List ℕ) × (row_text s x ≡ accepted b) × (bs : List ℕ)
          × (texts s (left v x.next) ≡ accepted bs) × (y.more ≡ b ++ bs)
      unfolding join_texts
      next-text =
          let f = rw (rest_on (turn v) at e) at y.behind in
          let t = then_accepted (row_text s x) (λ b. giving (λ bs. b ++ bs) (texts s (left v x.next))) f in
          let g = giving_accepted (λ bs. t.0 ++ bs) (texts s (left v x.next)) t.2 in
          (t.0, t.1, g.0, g.1, g.2)

      module _ {c : List ℕ} (z : c ≡ part_of s x.content) where
        put-room : let b = next-text.0 in
            (ext_text x.ext_type c ≡ accepted b) × (to + length b ≤ length out)
            × (room (ext_text x.ext_type c) to out ≡ accepted (to + length b))
        put-room =
            let n = next-text in
            let b = n.0 in
            let l : length y.more ≡ length b + length n.2 = ap length n.4 ∙ length-append b n.2 in
            let h : to + length b ≤ length out = omega (arith, l, y.lefts.fits) in
            let i : ext_text x.ext_type c ≡ accepted b = rw z (row_is s x n.1) in
            (i, h, (text_in b to out {p = found to (length b)} i (room_in out to (length b) h)).says)

        pub puts-not : {r : Refusal} → room (ext_text x.ext_type c) to out ≡ refused r → ⊥
        puts-not q = not_both put-room.2 q

        pub puts-next : {k : ℕ} {out' : List ℕ} → room (ext_text x.ext_type c) to out ≡ accepted k
            → out' ≡ written (ext_text x.ext_type c) to out → Putting v s d out' x.next k
        puts-next {k} {out'} q w =
            let n = next-text in
            let p = put-room in
            let a : accepted (to + length n.0) ≡ accepted k = sym p.2 ∙ q in
            let i : k ≡ to + length n.0 = cc in
            let l : Left d y.whole out to (n.0 ++ n.2) = left_same n.4 y.lefts in
            let o : out' ≡ put out to n.0 = w ∙ written_in n.0 to out p.0 p.1 in
            record {
              whole = y.whole;
              is = y.is;
              fits = y.fits;
              more = n.2;
              behind = n.3;
              lefts = next n.0 n.2 l p.0 out' k w i;
              same = rw o (length_put out to n.0 p.1) ∙ y.same;
            }

-- the text of all rows: a raw one is among them, or bytes are left behind the last
module _ (v s : List ℕ) where
  pub all_raw : raw_row (rows v) ≡ true → rows_text v s ≡ refused (unplaced NotYetImplemented)
  unfolding rows_text
  all_raw n = rw n

  pub all_odd : raw_row (rows v) ≡ false → (length v % 10 ≡ 0 → ⊥) → rows_text v s ≡ refused (unplaced BadLength)
  unfolding rows_text
  all_odd n h = rw (n, ne_eqb (length v % 10) 0 h)

  cap_bad : (bs : List ℕ) {r : Refusal} → capped bs ≡ refused r → r ≡ unplaced BadLength
  unfolding capped
  cap_bad bs {r} e = go (allowed (sized 2) (length bs)) e
    where
      go : (t : Bool) → pick t (accepted bs) (refused (unplaced BadLength)) ≡ refused r → r ≡ unplaced BadLength
      go true q = absurd (not_both refl q)
      go false q = let d : ◌≡◌ {A = Answer (List ℕ)} (refused (unplaced BadLength)) (refused r) = q in cc

  joined_bad : {r : Refusal} → raw_row (rows v) ≡ false → joined_in v s ≡ refused r → r ≡ unplaced BadLength
  unfolding joined_in
  joined_bad {r} n e = go (then_refused (texts s (rows v)) capped e)
    where
      go : (texts s (rows v) ≡ refused r) ⊎ ((b : List ℕ) × (texts s (rows v) ≡ accepted b) × (capped b ≡ refused r))
          → r ≡ unplaced BadLength
      go (inl q) = texts_bad s (rows v) n q
      go (inr (b, q, f)) = cap_bad b f

-- or they are joined behind their length, as a message's body behind its head
module _ (v s : List ℕ) (n : raw_row (rows v) ≡ false) (h : length v % 10 ≡ 0) where
  all_is : rows_text v s ≡ message_text (number_text 2) (joined_in v s)
  unfolding rows_text message_text
  all_is = rw (n, eq-eqb (length v % 10) 0 h) (go (joined_in v s) refl)
    where
      go : (a : Answer (List ℕ)) → joined_in v s ≡ a
          → giving (field_bytes (sized 2)) a ≡ then a (λ b. giving (λ h. h ++ b) (number_text 2 (length b)))
      go (accepted b) e = rw (number_accepted 2 (length b) (omega (arith, (joined_is v s e).1)))
      go (refused r) e = refl

  pub all_refused : {r : Refusal} → giving length (joined_in v s) ≡ refused r → rows_text v s ≡ refused (unplaced BadLength)
  all_refused q =
      let e = none_given length (joined_in v s) q in
      rw all_is (message_not (number_text 2) (e ∙ ap refused (joined_bad v s n e)))

module _ (v s : List ℕ) {k : ℕ} (q : giving length (joined_in v s) ≡ accepted k) where
  -- two bytes can hold their length
  pub all_short : k ≤ 65535
  all_short =
      let g = giving_accepted length (joined_in v s) q in
      omega (arith, g.2, (joined_is v s g.1).1)

  abbrev message : (bs : List ℕ) × Message (number_text 2) 2 (joined_in v s) bs k
  message =
      let g = giving_accepted length (joined_in v s) q in
      let h : k < 65536 = omega (arith, all_short) in (
        g.0,
        record {
          front = bytes_of 2 k;
          before = number_accepted 2 k h;
          wide = length_bytes 2 k;
          is = g.1;
          long = g.2;
        },
      )

  -- there is room for them behind it
  pub all_fit : (d : List ℕ) {p : Part} → room_at d 0 (2 + k) ≡ accepted p → RowsFit v s (mid_of 2 (length d - 2) d)
  all_fit d {p} f = let m = message in (m.0, m.1.is, body_fits d m.1 {p = p} f)

  module _ (n : raw_row (rows v) ≡ false) (h : length v % 10 ≡ 0) where
    -- the bytes of all
    abbrev pub all_bytes : List ℕ
    all_bytes = bytes_of 2 k ++ message.0

    pub all-are : rows_text v s ≡ accepted all_bytes
    all-are = all_is v s n h ∙ whole_is [] message.1

    pub all-long : 2 + k ≡ length all_bytes
    all-long = sym (length_whole [] message.1)

  module _ (d : List ℕ) (n : raw_row (rows v) ≡ false) (h : length v % 10 ≡ 0) where
    pub all-out : {r : Refusal} → room_at d 0 (2 + k) ≡ refused r → Wrote (rows_text v s) d (refused r) (2 + k) d
    all-out {r} f = rw (all_is v s n h) (no_room d message.1 {r = r} refl f)

    pub all_in : {p : Part} (ys out : List ℕ) → room_at d 0 (2 + k) ≡ accepted p
        → ys ≡ written (joined_in v s) 0 (mid_of 2 (length d - 2) d)
        → out ≡ written (number_text 2 k) 0 (put_mid 2 (length d - 2) d ys)
        → Wrote (rows_text v s) d (accepted p.next) (2 + k) out
    all_in {p} ys out f y o =
        let m = message in
        rw (all_is v s n h) (wrote d m.1 refl (message_by d m.1 {p = p} ys out m.1.is f y o))
