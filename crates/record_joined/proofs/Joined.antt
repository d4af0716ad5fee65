-- Records where they lie: that of `list/proofs/Walk.antt`, a record being what is found at a place.
-- Assumes nothing.
use Prim.Native.Nat.{ℕ, ◌+◌, ◌-◌, ◌<◌, ◌≤◌}
use mathlib.Core.Path.{◌≡◌, refl, sym, ap, ◌∙◌}
use mathlib.Core.Bool.{Bool, true, false}
use mathlib.Core.List.{List, [], foldr, foldl}
use native.Mathlib.Omega.{arith}
use borrow.Author.Tests.{leb-true, leb-false, le-leb, lt-leb}
use lib.Dec.{eqb, leb}
use lib.ListN.{length, take, drop, length-drop}
use lib.Seq.{length-take-le, take-take, take-add, drop_at, drop-drop}
use Rattle.refusal.specs.Answers.{accepted}
use Rattle.refusal.proofs.Then.{then_accepted}
use Rattle.wire.specs.Parts.{pick, part_of}
use Rattle.wire.specs.declared.view.View.{View}
use Rattle.grammar.specs.Forms.{reading}
use Rattle.list.proofs.Walk.{Moves, rest, fuel}
use Rattle.record.specs.Records.{raw}
use Rattle.record.specs.declared.TlsRawRecord.{TlsRawRecord}
use Rattle.record.proofs.Lies.{raw_lies, same_value}
use Rattle.record_walk.specs.Walks.{messages}
use Rattle.record_walk.proofs.Walking.{every_walk}
use Rattle.record_joined.specs.Joined.{view_in_of, record_from, messages_in, NoRecordMore}

-- the part of a view that lies within the bytes, and of one that does not
part_is : (s : List ℕ) (v : View) → v.start + v.len ≤ length s → part_of s v ≡ take v.len (drop v.start s)
part_is s v h = rw (le-leb (v.start + v.len) (length s) h)

part_none : (s : List ℕ) (v : View) → length s < v.start + v.len → part_of s v ≡ []
part_none s v h = rw (lt-leb (v.start + v.len) (length s) h)

part_length : (s : List ℕ) (v : View) → v.start + v.len ≤ length s → length (part_of s v) ≡ v.len
part_length s v h = ap length (part_is s v h)
    ∙ length-take-le v.len (drop v.start s) (rw length-drop (omega arith))

no_part : (s : List ℕ) (v : View) → v.len ≡ 0 → part_of s v ≡ []
no_part s v e = go (leb (v.start + v.len) (length s)) refl
  where
    go : (t : Bool) → leb (v.start + v.len) (length s) ≡ t → part_of s v ≡ []
    go true q = part_is s v (leb-true _ _ q) ∙ rw e
    go false q = part_none s v (leb-false _ _ q)

part_short : (s : List ℕ) (v : View) → length (part_of s v) ≤ v.len
part_short s v = go (leb (v.start + v.len) (length s)) refl
  where
    go : (t : Bool) → leb (v.start + v.len) (length s) ≡ t → length (part_of s v) ≤ v.len
    go true q = omega (arith, part_length s v (leb-true _ _ q))
    go false q = omega (arith, ap length (part_none s v (leb-false _ _ q)))

-- a place in a part is one in the whole, or the part's own start
pub place_below : (s : List ℕ) (v : View) (k n : ℕ) → k ≤ length (part_of s v) → v.start < n → length s < n
    → v.start + k < n
place_below s v k n h i j = go (leb (v.start + v.len) (length s)) refl
  where
    go : (t : Bool) → leb (v.start + v.len) (length s) ≡ t → v.start + k < n
    go true q = let l : v.start + v.len ≤ length s = leb-true _ _ q in omega (arith, part_short s v)
    go false q = omega (arith, ap length (part_none s v (leb-false _ _ q)))

-- a record that was read at a place lies within the bytes from there on
pub raw_in : (s : List ℕ) (at : ℕ) {r : TlsRawRecord} → reading raw (drop at s) ≡ accepted r
    → (r.«data».start ≤ r.next) × (at + r.next ≤ length s)
raw_in s at e = let i = raw_lies (drop at s) e in (omega (arith, i.holds), omega (arith, i.past, i.inside, length-drop at s))

-- what is found at a place
pub from_lies : (s : List ℕ) (at : ℕ) {r : TlsRawRecord} → record_from s at ≡ accepted r → (at + 5 ≤ r.next)
    × (r.next ≤ length s) × (at + r.«data».len ≤ r.next)
unfolding record_from
from_lies s at {r} e =
    let t = then_accepted (reading raw (drop at s)) _ e in
    let i = raw_lies (drop at s) t.1 in
    let z : record {
      hdr = t.0.hdr;
      «data» = record { start = at + t.0.«data».start; len = t.0.«data».len };
      next = at + t.0.next;
    } ≡ r = same_value t.2 in
    rw (← z) (omega (arith, i.past), omega (arith, i.inside, i.past, length-drop at s), omega (arith, i.holds))

pub by_records : (s : List ℕ) → Moves (record_from s) (λ (r : TlsRawRecord). r.next) (length s)
by_records s = record { on = λ at r e. let i = from_lies s at e in (omega arith, i.1) }

pub no_record_more_lem : (s : List ℕ) → NoRecordMore s
no_record_more_lem s n h = fuel (by_records s) n (length s) 0 (omega arith) (omega arith)

-- what is left of the records at a place
abbrev pub left : List ℕ → ℕ → List TlsRawRecord
left s at = rest (record_from s) (λ (r : TlsRawRecord). r.next) (length s) at

-- a record holds fewer messages than bytes
pub few_messages : (s : List ℕ) (r : TlsRawRecord) → messages_in s r ≤ r.«data».len
unfolding messages_in
few_messages s r = go (eqb r.hdr.record_type 0x16)
  where
    go : (t : Bool) → pick t (length (messages (part_of s r.«data»))) 0 ≤ r.«data».len
    go true = omega (arith, (every_walk (part_of s r.«data»)).steps, part_short s r.«data»)
    go false = omega arith

-- a part of a part is a part
part_part : (s : List ℕ) (o n b a : ℕ) → o + n ≤ length s → b + a ≤ n
    → take a (drop (o + b) s) ≡ take a (drop b (take n (drop o s)))
part_part s o n b a h l =
    let m : n ≡ b + (n - b) = omega arith in
    let k : length (take b (drop o s)) ≡ b = length-take-le b (drop o s) (rw length-drop (omega arith)) in
    sym (rw (
      m,
      take-add b (n - b) (drop o s),
      drop_at (take b (drop o s)) (take (n - b) (drop b (drop o s))) b k,
      take-take a (n - b) (drop b (drop o s)) (omega arith),
      drop-drop b o s,
    ))

module _ (s : List ℕ) (outer inner : View) where
  nested : View
  nested = record { start = outer.start + inner.start; len = inner.len }

  inside_same : inner.start + inner.len ≤ length (part_of s outer) → part_of s nested ≡ part_of (part_of s outer) inner
  unfolding nested
  inside_same h = go (leb (outer.start + outer.len) (length s)) refl
    where
      go : (t : Bool) → leb (outer.start + outer.len) (length s) ≡ t → part_of s nested ≡ part_of (part_of s outer) inner
      go true q =
          let i : outer.start + outer.len ≤ length s = leb-true _ _ q in
          let l = part_length s outer i in
          let w : drop inner.start (part_of s outer) ≡ drop inner.start
          (take outer.len (drop outer.start s)) = ap (drop inner.start) (part_is s outer i) in
          part_is s nested (omega arith)
          ∙ part_part s outer.start outer.len inner.start inner.len i (omega arith)
          ∙ sym (part_is (part_of s outer) inner h ∙ ap (take inner.len) w)
      go false q =
          let l : length (part_of s outer) ≡ 0 = ap length (part_none s outer (leb-false _ _ q)) in
          let z : inner.len ≡ 0 = omega arith in
          no_part s nested z ∙ sym (no_part (part_of s outer) inner z)

-- a view names the same bytes counted from either place
pub same_bytes : (s : List ℕ) (outer inner : View) → part_of s (view_in_of s outer inner) ≡ part_of (part_of s outer) inner
unfolding view_in_of nested
same_bytes s outer inner = go (leb (inner.start + inner.len) (length (part_of s outer))) refl
  where
    go : (t : Bool) → leb (inner.start + inner.len) (length (part_of s outer)) ≡ t
        → part_of s (view_in_of s outer inner) ≡ part_of (part_of s outer) inner
    go true q =
        let e : view_in_of s outer inner ≡ nested s outer inner = rw q in
        ap (part_of s) e ∙ inside_same s outer inner (leb-true _ _ q)
    go false q =
        let e : view_in_of s outer inner ≡ record { start = 0; len = 0 } = rw q in
        ap (part_of s) e ∙ no_part s (record { start = 0; len = 0 }) refl
        ∙ sym (part_none (part_of s outer) inner (leb-false _ _ q))

-- the messages of records, and the place past them, the first beginning at a place
abbrev pub message_sum : List ℕ → List TlsRawRecord → ℕ
message_sum s rs = foldr (λ (r : TlsRawRecord) n. messages_in s r + n) 0 rs

abbrev pub past_records : List TlsRawRecord → ℕ → ℕ
past_records rs at = foldl (λ (at : ℕ) (r : TlsRawRecord). r.next) at rs
