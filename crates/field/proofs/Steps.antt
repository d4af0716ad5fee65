-- A step and the bytes of a field: a step finds a part just where the field's bytes stand, and
-- refuses just where they are lacking. Assumes nothing.
use Prim.Native.Nat.{ℕ, ◌+◌, ◌-◌, ◌^◌, ◌<◌, ◌≤◌}
use mathlib.Core.Path.{◌≡◌, refl, ap, ap₂, sym, ◌∙◌}
use mathlib.Core.Logic.{◌⊎◌, inl, inr}
use mathlib.Core.Option.{none, some}
use mathlib.Core.List.{List, ◌++◌, append_assoc}
use native.Mathlib.Omega.{arith}
use borrow.Author.Tests.{le-leb}
use lib.ListN.{length, take, drop, length-append, length-drop, take-append-drop}
use lib.Seq.{get_or-drop, drop_at, take_at, drop-drop, length-take-le}
use Rattle.refusal.specs.Answers.{accepted, refused}
use Rattle.refusal.specs.Refusals.{refusal}
use Rattle.refusal.specs.declared.Reason.{Reason}
use Rattle.refusal.specs.declared.Reason.TheVariants.{Incomplete}
use Rattle.refusal.specs.declared.Refusal.{Refusal}
use Rattle.wire.specs.Numbers.{Bytes, be, bytes_of, number_at}
use Rattle.wire.specs.Parts.{part_at, part_of}
use Rattle.wire.specs.declared.view.View.{View}
use Rattle.wire.specs.declared.view.Part.{Part}
use Rattle.wire.specs.declared.number.Number.{Number}
use Rattle.wire.proofs.Parts.{part_in, part_out, fits, short, Short}
use Rattle.wire.proofs.Numbers.{length_bytes, be_drop, be_of, be_lt, of_be, number_got, number_no, number_is}
use Rattle.wire.proofs.Numbers.{number_short}
use Rattle.refusal.proofs.Then.{then_accepted, then_refused}
use Rattle.field.proofs.Rules.{ruled_in, ruled_out, ruled_accepted, ruled_refused}
use Rattle.field.specs.Fields.{Field, fixed, vector, Rule, step, ruled}
use Rattle.field.specs.Standing.{field_bytes, Obeys, TooFew, BadPart, Lacks, place_of, view_of}

abbrev view : ℕ → ℕ → View
view b n = record { start = b; len = n }

-- a part where it stands: its view, and the place past its field
abbrev pub placed : Field → ℕ → List ℕ → Part
placed f at p = record { view = view_of f at p; next = at + length (field_bytes f p) }

-- how many bytes there are, from what is left at a place
left_length : (s : List ℕ) (at : ℕ) (xs : List ℕ) → at ≤ length s → drop at s ≡ xs → length s ≡ at + length xs
left_length s at xs h e = omega (arith, length-drop at s, ap length e)

pub length_vector : (w : ℕ) (r : Rule) (p : List ℕ) → length (field_bytes (vector w r) p) ≡ w + length p
length_vector w r p = simp (length-append, length_bytes)

-- a step finds the part whose bytes stand there
pub step_of : (f : Field) (s : List ℕ) (at : ℕ) (p rest : List ℕ) → at ≤ length s → Obeys f p
    → drop at s ≡ field_bytes f p ++ rest → step f s at ≡ accepted (placed f at p)
unfolding step
step_of (fixed n) s at p rest h o e =
    let l : length s ≡ at + (length p + length rest) = left_length s at _ h e
    ∙ ap (λ (k : ℕ). at + k) (length-append p rest) in
    rw (← o) (part_in Incomplete s at (length p) (omega arith))
step_of (vector w r) s at p rest h o e =
    let l : length s ≡ at + (w + length p + length rest) = left_length s at _ h e
    ∙ simp (length-append, length_bytes) in
    let n : be w s at ≡ length p = be_drop w s at ∙ rw (e, append_assoc) (be_of w (length p) (p ++ rest) o.0) in
    let a = number_got w s at (part_in Incomplete s at w (omega arith)) in
    let z : at + w + length p ≡ at + length (field_bytes (vector w r) p) = rw (length_vector w r p) (omega arith) in
    rw (a, n, ruled_in r s at (at + w) (length p) o.1, ← z) (part_in r.past s (at + w) (length p) (omega arith))

-- and what is left then is what stood behind it
pub left_of : (f : Field) (s : List ℕ) (at : ℕ) (p rest : List ℕ) → drop at s ≡ field_bytes f p ++ rest
    → drop (at + length (field_bytes f p)) s ≡ rest
left_of f s at p rest e = rw (← drop-drop, e) (drop_at (field_bytes f p) rest _ refl)

pub past_in : (f : Field) (s : List ℕ) (at : ℕ) (p rest : List ℕ) → at ≤ length s → drop at s ≡ field_bytes f p ++ rest
    → at + length (field_bytes f p) ≤ length s
past_in f s at p rest h e =
    let l : length s ≡ at + (length (field_bytes f p) + length rest) = left_length s at _ h e ∙ simp length-append in
    omega arith

-- the view of a part is the part
part_of_lem : (s : List ℕ) (b n : ℕ) → b + n ≤ length s → part_of s (view b n) ≡ take n (drop b s)
part_of_lem s b n h = rw (le-leb (b + n) (length s) h)

pub view_of_lem : (f : Field) (s : List ℕ) (at : ℕ) (p rest : List ℕ) → at ≤ length s → drop at s ≡ field_bytes f p ++ rest
    → part_of s (view_of f at p) ≡ p
view_of_lem (fixed n) s at p rest h e =
    part_of_lem s at (length p) (past_in (fixed n) s at p rest h e) ∙ rw e (take_at p rest (length p) refl)
view_of_lem (vector w r) s at p rest h e =
    let q : drop (at + w) s ≡ p ++ rest =
    rw (← drop-drop w at s, e, append_assoc)
    (drop_at (bytes_of w (length p)) (p ++ rest) w (length_bytes w (length p))) in
    let i = past_in (vector w r) s at p rest h e in
    part_of_lem s (at + w) (length p) (omega (arith, length_vector w r p)) ∙ rw q (take_at p rest (length p) refl)

bytes_drop : (s : List ℕ) (at : ℕ) → Bytes s → Bytes (drop at s)
bytes_drop s at b i = rw get_or-drop (b (at + i))

pub length_part : (s : List ℕ) (b n : ℕ) → b + n ≤ length s → length (part_of s (view b n)) ≡ n
length_part s b n h = rw (part_of_lem s b n h) (length-take-le n (drop b s) (rw length-drop (omega arith)))

-- the bytes at a place: those of a part, and those past it
part_drop : (s : List ℕ) (b n : ℕ) → b + n ≤ length s → drop b s ≡ part_of s (view b n) ++ drop (b + n) s
part_drop s b n h = sym (take-append-drop n (drop b s)) ∙ rw (part_of_lem s b n h, drop-drop)

-- the bytes at a place: those of the length that stands there, and those past it
pub front : (w : ℕ) (s : List ℕ) (at : ℕ) → Bytes s → at + w ≤ length s
    → drop at s ≡ bytes_of w (be w s at) ++ drop (at + w) s
front w s at b i =
    let q : bytes_of w (be w s at) ≡ take w (drop at s) =
    rw (be_drop w s at) (of_be w (drop at s) (bytes_drop s at b) (rw length-drop (omega arith))) in
    rw (q, ← drop-drop w at s) (sym (take-append-drop w (drop at s)))

-- where a step finds a part, the field's bytes stand there
pub record Found (f : Field) (s : List ℕ) (at : ℕ) (q : Part) : Type 0 where
  pub obeys : Obeys f (part_of s q.view)
  pub bytes : drop at s ≡ field_bytes f (part_of s q.view) ++ drop q.next s
  pub place : q ≡ placed f at (part_of s q.view)
  pub inside : q.next ≤ length s

found_at : (f : Field) (s : List ℕ) (at b n : ℕ) → b ≡ place_of f at → b + n ≤ length s → Obeys f (part_of s (view b n))
    → b + n ≡ at + length (field_bytes f (part_of s (view b n)))
    → drop at s ≡ field_bytes f (part_of s (view b n)) ++ drop (b + n) s
    → Found f s at (record { view = view b n; next = b + n })
found_at f s at b n e h o m d =
    let l : length (part_of s (view b n)) ≡ n = length_part s b n h in
    let v : view b n ≡ view_of f at (part_of s (view b n)) = ap₂ view e (sym l) in
    record { obeys = o; bytes = d; place = ap₂ (λ (x : View) (k : ℕ). record { view = x; next = k }) v m; inside = h }

-- a part that stands behind its length
vector_at : (w : ℕ) (r : Rule) (s : List ℕ) (at : ℕ) → Bytes s → at + w + be w s at ≤ length s
    → r.broken (be w s at) ≡ none
    → Found (vector w r) s at (record { view = view (at + w) (be w s at); next = at + w + be w s at })
vector_at w r s at b h a =
    let p = part_of s (view (at + w) (be w s at)) in
    let l : length p ≡ be w s at = length_part s (at + w) (be w s at) h in
    let d : drop at s ≡ field_bytes (vector w r) p ++ drop (at + w + be w s at) s =
    rw (l, append_assoc, ← part_drop s (at + w) (be w s at) h) (front w s at b (omega arith)) in
    found_at (vector w r) s at (at + w) (be w s at) refl h (rw l (be_lt w s at b), rw l a)
    (rw (length_vector w r p, l) (omega arith)) d

pub step_back : (f : Field) (s : List ℕ) (at : ℕ) {q : Part} → Bytes s → step f s at ≡ accepted q → Found f s at q
unfolding step
step_back (fixed n) s at b e =
    let g = fits Incomplete s at n e in
    let l = length_part s at n g.inside in
    rw g.is (found_at (fixed n) s at at n refl g.inside l (rw l) (part_drop s at n g.inside))
step_back (vector w r) s at b e =
    let t = then_accepted (number_at w s at) (λ l. ruled r s at l.next l.value) e in
    let n = number_is w s at t.1 in
    let u = ruled_accepted r s at (at + w) (be w s at) (rw n.is at t.2) in
    let g = fits r.past s (at + w) (be w s at) u.1 in
    rw g.is (vector_at w r s at b g.inside u.0)

-- the length that stands at a place
len_at : (w n : ℕ) (s : List ℕ) (at : ℕ) (rest : List ℕ) → at ≤ length s → n < 256 ^ w
    → drop at s ≡ bytes_of w n ++ rest → (be w s at ≡ n) × (length s ≡ at + w + length rest)
len_at w n s at rest h l d =
    let z : length s ≡ at + (w + length rest) = left_length s at _ h d ∙ simp (length-append, length_bytes) in
    (be_drop w s at ∙ rw d (be_of w n rest l), omega arith)

-- what is lacking, from what is left at a place
lack_of : (s : List ℕ) (at n : ℕ) → n - (length s - at) ≡ n - length (drop at s)
lack_of s at n = rw length-drop

pub step_lacks : (f : Field) (s : List ℕ) (at : ℕ) (r : Refusal) → at ≤ length s → Lacks f at (drop at s) r
    → step f s at ≡ refused r
unfolding step
step_lacks (fixed n) s at r h (l, e) =
    rw (e, ← lack_of s at n) (part_out Incomplete s at n (omega (arith, length-drop at s)))
step_lacks (vector w k) s at r h (inl (l, e)) =
    rw (e, ← lack_of s at w, number_no w s at (part_out Incomplete s at w (omega (arith, length-drop at s))))
step_lacks (vector w k) s at r h (inr (n, rest, l, d, inl (x, q, e))) =
    let z = len_at w n s at rest h l d in
    rw (number_got w s at (part_in Incomplete s at w (omega arith)), z.0, e) (ruled_out k s at (at + w) n x q)
step_lacks (vector w k) s at r h (inr (n, rest, l, d, inr (q, (j, e)))) =
    let z = len_at w n s at rest h l d in
    let m : length rest ≡ length s - (at + w) = omega arith in
    rw (number_got w s at (part_in Incomplete s at w (omega arith)), z.0, ruled_in k s at (at + w) n q, e, m)
    (part_out k.past s (at + w) n (omega arith))

too_few : (why : Reason) (s : List ℕ) (at n : ℕ) {r : Refusal} → at ≤ length s → Short why s at n r
    → TooFew why n at (drop at s) r
too_few why s at n h g = (rw length-drop (omega (arith, g.outside)), g.is ∙ ap (refusal _ _) (lack_of s at n))

-- a step that finds nothing: the bytes lack the field
lacks_ruled : (w : ℕ) (k : Rule) (s : List ℕ) (at : ℕ) (r : Refusal) → Bytes s → at + w ≤ length s
    → ruled k s at (at + w) (be w s at) ≡ refused r → Lacks (vector w k) at (drop at s) r
lacks_ruled w k s at r b h e =
    inr (be w s at, drop (at + w) s, be_lt w s at b, front w s at b h, go (ruled_refused k s at (at + w) (be w s at) e))
  where
    go : ((x : ℕ → ℕ → Refusal) × (k.broken (be w s at) ≡ some x) × (r ≡ x at (at + w))) ⊎
        ((k.broken (be w s at) ≡ none) × (part_at k.past s (at + w) (be w s at) ≡ refused r))
        → BadPart k (be w s at) at (at + w) (drop (at + w) s) r
    go (inl x) = inl x
    go (inr (a, q)) = inr (a, too_few k.past s (at + w) (be w s at) h (short k.past s (at + w) (be w s at) q))

pub lacks_back : (f : Field) (s : List ℕ) (at : ℕ) (r : Refusal) → Bytes s → at ≤ length s → step f s at ≡ refused r
    → Lacks f at (drop at s) r
unfolding step
lacks_back (fixed n) s at r b h e = too_few Incomplete s at n h (short Incomplete s at n e)
lacks_back (vector w k) s at r b h e = go (then_refused (number_at w s at) (λ l. ruled k s at l.next l.value) e)
  where
    go : (number_at w s at ≡ refused r) ⊎
        ((l : Number) × (number_at w s at ≡ accepted l) × (ruled k s at l.next l.value ≡ refused r))
        → Lacks (vector w k) at (drop at s) r
    go (inl q) = inl (too_few Incomplete s at w h (number_short w s at q))
    go (inr (l, q, x)) =
        let n = number_is w s at q in
        lacks_ruled w k s at r b n.inside (rw n.is at x)
