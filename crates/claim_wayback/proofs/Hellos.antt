-- Demand 3, its writing half, over every lawful form whose last block is that of a hello: a hello
-- that was read may be written, and its text is the bytes before its tail; and the text of a hello
-- is read. Assumes nothing.
use Prim.Native.Nat.{ℕ, ◌+◌, ◌<◌, ◌≤◌}
use mathlib.Core.Path.{◌≡◌, refl, sym, ap, ◌∙◌}
use mathlib.Core.List.{List, [], ◌∷◌, ◌++◌, append_assoc, append-nil}
use mathlib.Core.Bool.{Bool, true, false, ◌&&◌}
use mathlib.Core.Option.{Option, none, some}
use native.Mathlib.Omega.{arith}
use native.Mathlib.Nat.{zero-add}
use borrow.Author.Tests.{le-leb}
use lib.ListN.{length, take, drop, length-append, length-drop}
use lib.Seq.{take_at, length-take-le}
use Rattle.std.specs.Prelude.{Some, None}
use Rattle.refusal.specs.Answers.{accepted}
use Rattle.wire.specs.Numbers.{Bytes, bytes_of}
use Rattle.wire.specs.Parts.{opt_part_of, lies_in, OptView}
use Rattle.wire.specs.Puts.{put}
use Rattle.wire.specs.declared.view.View.{View}
use Rattle.wire.proofs.Parts.{room_in, room_out}
use Rattle.wire.proofs.Numbers.{length_bytes}
use Rattle.wire.proofs.Puts.{text_in, text_out}
use Rattle.field.specs.Fields.{Field}
use Rattle.field.specs.Standing.{field_bytes, Obeys}
use Rattle.field.proofs.Texts as fields
use Rattle.grammar.specs.Grammars.{How, as_view, as_opt, as_number, Row, gather}
use Rattle.grammar.specs.Splits.{AllObey, join, block_bytes, BlockObeys, Split, block_of, handed_of}
use Rattle.grammar.specs.Hellos.{extensions}
use Rattle.grammar.specs.Forms.{Form, Out, Outs, named, all_named_of, if_there, seen, all_seen, value_of, reading, pieces}
use Rattle.grammar.specs.Demand3.{InRow, Lawful}
use Rattle.grammar.proofs.Forms.{by_split}
use Rattle.write_rules.specs.HelloTexts.{lies, may_stand, may_write, hello_bytes, hello_text}
use Rattle.write_rules.specs.MessageTexts.{head_text, message_text}
use Rattle.claim_wayback.specs.WayBack.{EveryText, framed, added, back, WritesBack, last_again, again, ReadsAgain}
use Rattle.write_rules.proofs.Hellos.{Obeyed, obeyed, hello_may, hello_joined}
use Rattle.write_rules.proofs.Messages.{head_bytes, head_is, message_is}
use Rattle.claim_wayback.proofs.Bytes.{hello_bytes_lem}
use Rattle.claim_wayback.proofs.Wrote.{hello_wrote}

-- the last block of a hello: extensions, or none
abbrev pub OfHello : Option Field → Type 0
OfHello none = Unit
OfHello (some f) = f ≡ extensions

-- views in a row end before the tail
ends : (vs : List View) (from tail : ℕ) → InRow from vs tail → from ≤ tail
ends [] from tail r = r
ends (v ∷ vs) from tail (h, r) = omega (arith, ends vs (v.start + v.len) tail r)

view_lies : (s : List ℕ) (v : View) (vs : List View) (tail : ℕ) → tail ≤ length s → InRow (v.start + v.len) vs tail
    → lies_in s v ≡ true
view_lies s v vs tail h r = le-leb (v.start + v.len) (length s) (omega (arith, ends vs (v.start + v.len) tail r))

-- what was handed out of a field lies within the bytes, and the views after it are in a row
seen_lies : (m : How) (s : List ℕ) (o : Out m) (vs : List View) (from tail : ℕ) → tail ≤ length s
    → InRow from (seen m o vs) tail → (lies m s o ≡ true) × ((n : ℕ) × InRow n vs tail)
seen_lies as_view s v vs from tail h (_, r) = (view_lies s v vs tail h r, (v.start + v.len, r))
seen_lies (as_opt empty) s None vs from tail h r = (refl, (from, r))
seen_lies (as_opt empty) s (Some v) vs from tail h (_, r) = (view_lies s v vs tail h r, (v.start + v.len, r))
seen_lies (as_number w) s n vs from tail h r = (refl, (from, r))

-- so it may stand in its field
may : (f : Field) (m : How) (s : List ℕ) (o : Out m) → lies m s o ≡ true → Obeys f (named m s o)
    → may_stand f m s o ≡ true
may f m s o l p = rw l (fields.obeyed f (named m s o) p)

all_may_lem : (rs : List Row) (s : List ℕ) (os : Outs rs) (z : Bool) (vs : List View) (from tail : ℕ) → tail ≤ length s
    → AllObey rs (all_named_of rs s os) → InRow from (all_seen rs os vs) tail
    → (gather (λ (f, m) o rest. may_stand f m s o && rest) z rs os ≡ z) × ((n : ℕ) × InRow n vs tail)
all_may_lem [] s os z vs from tail h p r = (refl, (from, r))
all_may_lem ((f, m) ∷ rs) s (o, os) z vs from tail h (p, ps) r =
    let l = seen_lies m s o (all_seen rs os vs) from tail h r in
    let i = all_may_lem rs s os z vs l.1.0 tail h ps l.1.1 in
    (rw (may f m s o l.0 p) i.0, i.1)

-- the block that was found is one of extensions, and an absent one is written as 00 00
last_obeys : (b : Option Field) → OfHello b → (s : List ℕ) (e : OptView) (t : List ℕ) → BlockObeys b (block_of s e) t
    → Obeys extensions (opt_part_of s e)
last_obeys b h s None t o = (omega arith, refl)
last_obeys none h s (Some v) t o = absurd o
last_obeys (some f) h s (Some v) t o = rw h at o

last_bytes : (b : Option Field) → OfHello b → (s : List ℕ) (e : OptView) (t : List ℕ) → BlockObeys b (block_of s e) t
    → field_bytes extensions (opt_part_of s e) ≡ block_bytes b (block_of s e) ++ added e
unfolding bytes_of
last_bytes none h s None t o = refl
last_bytes (some f) h s None t o = refl
last_bytes none h s (Some v) t o = absurd o
last_bytes (some f) h s (Some v) t o = rw (h, append-nil)

-- where bytes split, those before the rest
before : (s xs ys : List ℕ) (n : ℕ) → n ≤ length s → s ≡ xs ++ (ys ++ drop n s) → take n s ≡ xs ++ ys
before s xs ys n h e =
    let l : length s ≡ length (xs ++ ys) + length (drop n s) = ap length e ∙ simp length-append (omega arith) in
    ap (take n) (e ∙ sym (append_assoc xs ys (drop n s)))
    ∙ take_at (xs ++ ys) (drop n s) n (omega (arith, length-drop n s))

-- a hello that was read, and may be written
module _ {C : Type 0} (k : Form C) (law : Lawful k) (ofHello : OfHello k.grammar.block) (body : List ℕ)
    (bytes : Bytes body) (c : C) (e : reading k body ≡ accepted c) where
  may_write_lem : may_write k body c ≡ true
  unfolding may_write
  may_write_lem =
      let t = by_split k law body bytes in
      let y = t.splits c e in
      let r = t.order c e in
      let f = all_may_lem k.grammar.rows body (k.handed c) (may_stand extensions (as_opt false) body (k.block c))
      (if_there (k.block c) []) 0 (k.tail c) r.1 y.obey r.0 in
      let l = seen_lies (as_opt false) body (k.block c) [] f.1.0 (k.tail c) r.1 f.1.1 in
      f.0 ∙ may extensions (as_opt false) body (k.block c) l.0
      (last_obeys k.grammar.block ofHello body (k.block c) _ y.last)

  -- its bytes are those before the tail, and then 00 00 if there were no extensions
  hello_back : hello_bytes k body c ≡ back k body c
  hello_back =
      let t = by_split k law body bytes in
      let y = t.splits c e in
      let j = join k.grammar.rows (all_named_of k.grammar.rows body (k.handed c)) in
      let x = block_bytes k.grammar.block (block_of body (k.block c)) in
      hello_joined k body c
      ∙ rw (
        last_bytes k.grammar.block ofHello body (k.block c) _ y.last,
        before body j x (k.tail c) (t.order c e).1 y.whole,
      ) (sym (append_assoc j x (added (k.block c))))

  hello_length : length (hello_bytes k body c) ≡ k.tail c + length (added (k.block c))
  hello_length =
      rw (hello_back, length-append, length-take-le (k.tail c) body ((by_split k law body bytes).order c e).1)

  text_back : (msgType : ℕ) → length (hello_bytes k body c) < 16777216
      → message_text (head_text msgType) (hello_text k body c) ≡ accepted (framed msgType (back k body c))
  text_back msgType h =
      let b = hello_bytes k body c in
      message_is (head_text msgType) (head_bytes msgType (length b)) b (head_is msgType (length b) h)
      (hello_may k body c may_write_lem)
      ∙ rw (append_assoc (bytes_of 1 msgType) (bytes_of 3 (length b)) b, hello_back)

  framed_length : (msgType : ℕ) → length (framed msgType (back k body c)) ≡ 4 + length (hello_bytes k body c)
  framed_length msgType = rw hello_back (simp (length-append, length_bytes) (omega arith))

-- a text: with room for it, and without
pub every_text_lem : EveryText
unfolding put
every_text_lem = record {
  writes = λ t out h.
      let z : 0 + length t ≡ length t = zero-add (length t) in
      let w = text_in t 0 out refl (room_in out 0 (length t) (omega arith)) in
      (rw z at w.says, rw z at w.leaves);
  enough = λ t out most h r. (text_in t 0 out refl (room_in out 0 (length t) (omega arith))).says
      ∙ ap accepted (zero-add (length t));
  short = λ t out h.
      let w = text_out t 0 out refl (room_out out 0 (length t) (omega arith)) in
      (w.says, w.leaves);
}

-- demand 3, its writing half, where every hello that may be written has at most so many bytes
pub writes_back : {C : Type 0} (k : Form C) → Lawful k → OfHello k.grammar.block → (msgType most : ℕ)
    → most < 16777216 → (body : List ℕ) → Bytes body
    → ((c : C) → Obeyed k body c → length (hello_bytes k body c) ≤ most) → WritesBack k msgType most body
writes_back {C} k law ofHello msgType most h body bytes bound =
    record {
      bound = λ c e. omega (arith, fits c e, hello_length k law ofHello body bytes c e);
      text = text;
      longest = λ c e. omega (arith, fits c e, framed_length k law ofHello body bytes c e msgType);
    }
  where
    fits : (c : C) → reading k body ≡ accepted c → length (hello_bytes k body c) ≤ most
    fits c e = bound c (obeyed k body c (may_write_lem k law ofHello body bytes c e))

    text : (c : C) → reading k body ≡ accepted c
        → message_text (head_text msgType) (hello_text k body c) ≡ accepted (framed msgType (back k body c))
    text c e = text_back k law ofHello body bytes c e msgType (omega (arith, fits c e))

-- a second reading takes the extensions for the block, or where there is none for the tail
obeys_again : (b : Option Field) → OfHello b → (e : List ℕ) → Obeys extensions e
    → BlockObeys b (last_again b e).0 (last_again b e).1
obeys_again none h e o = tt
obeys_again (some f) h e o = rw h o

last_again_lem : (b : Option Field) → OfHello b → (e : List ℕ)
    → field_bytes extensions e ≡ block_bytes b (last_again b e).0 ++ (last_again b e).1
last_again_lem none h e = refl
last_again_lem (some f) h e = rw (h, append-nil)

-- and what is read of what was written
pub reads_again : {C : Type 0} (k : Form C) → Lawful k → OfHello k.grammar.block → (s : List ℕ) → Bytes s
    → (c : C) → ReadsAgain k s c
reads_again k law ofHello s bytes c b e =
    let w = hello_wrote k s c e in
    let j = join k.grammar.rows (all_named_of k.grammar.rows s (k.handed c)) in
    let x = opt_part_of s (k.block c) in
    let y : Split k.grammar b (again k s c) = record {
      obey = w.0.fields;
      whole = sym w.1 ∙ hello_joined k s c ∙ ap (λ (r : List ℕ). j ++ r) (last_again_lem k.grammar.block ofHello x);
      last = obeys_again k.grammar.block ofHello x w.0.last;
    } in
    let t = by_split k law b (rw w.1 at (hello_bytes_lem k s c bytes)) in
    let d = value_of k b (handed_of k.grammar (again k s c)) in
    let r = t.accepts (again k s c) y in
    (d, r, t.only (pieces k b d) (again k s c) (t.splits d r) y)
