-- Reading by a grammar, over every grammar and every body of bytes: what `Forms.antt` hands on to
-- every form. Assumes nothing.
use Prim.Native.Nat.{ℕ, ◌+◌, ◌≤◌}
use mathlib.Core.Path.{◌≡◌, refl, ap, ap₂, sym, ◌∙◌}
use mathlib.Core.Logic.{◌⊎◌, inl, inr}
use mathlib.Core.List.{List, [], ◌∷◌, ◌++◌, append_assoc}
use mathlib.Core.Option.{Option, none, some}
use native.Mathlib.Omega.{arith}
use native.Mathlib.Nat.{add-zero, zero-add}
use lib.ListN.{length, drop, length-append}
use Rattle.std.specs.Prelude.{Some, None}
use Rattle.refusal.specs.Answers.{Answer, accepted, refused, then}
use Rattle.refusal.specs.declared.Refusal.{Refusal}
use Rattle.refusal.proofs.Then.{not_both, then_accepted, then_refused, either}
use Rattle.wire.specs.Numbers.{Bytes}
use Rattle.wire.specs.Parts.{part_of, OptView}
use Rattle.wire.specs.declared.view.View.{View}
use Rattle.wire.specs.declared.view.Part.{Part}
use Rattle.field.specs.Fields.{Field, fixed, vector, step}
use Rattle.field.specs.Standing.{field_bytes, place_of}
use Rattle.grammar.specs.Grammars.{How, Row, Grammar, each, Views, Parts, Handed}
use Rattle.grammar.specs.Reading.{fields_at, if_fits, block_at, last_at, with_last, read}
use Rattle.grammar.specs.Splits.{AllObey, join, Pieces, block_bytes, BlockObeys, Split, views_of, block_view}
use Rattle.grammar.specs.Splits.{handed_of, block_of, FirstLacks}
use Rattle.grammar.specs.declared.OptPart.{OptPart}
use Rattle.field.proofs.Steps.{length_vector, step_of, left_of, past_in, view_of_lem, Found, step_back, step_lacks}
use Rattle.field.proofs.Steps.{lacks_back}

-- the bytes that were handed out
abbrev pub parts_of : List ℕ → (rs : List Row) → Views rs → Parts rs
parts_of s rs vs = each (λ r v. part_of s v) rs vs

abbrev pub pieces_of : (g : Grammar) → List ℕ → Handed g → Pieces g
pieces_of g s h =
    record { parts = parts_of s g.rows h.views; block = block_of s h.block; tail = drop h.tail s }

-- the fields, where their bytes stand at a place
pub record Stand (rs : List Row) (s : List ℕ) (at : ℕ) (ps : Parts rs) (rest : List ℕ) : Type 0 where
  pub found : fields_at rs s at ≡ accepted (views_of rs at ps, at + length (join rs ps))
  pub behind : drop (at + length (join rs ps)) s ≡ rest
  pub inside : at + length (join rs ps) ≤ length s
  pub parts : parts_of s rs (views_of rs at ps) ≡ ps

pub stand : (rs : List Row) (s : List ℕ) (at : ℕ) (ps : Parts rs) (rest : List ℕ) → at ≤ length s → AllObey rs ps
    → drop at s ≡ join rs ps ++ rest → Stand rs s at ps rest
unfolding fields_at join views_of
stand [] s at ps rest h o e =
    record { found = rw add-zero; behind = rw add-zero e; inside = rw add-zero h; parts = refl }
stand ((f, m) ∷ rs) s at (p, ps) rest h (o, os) e =
    let d : drop at s ≡ field_bytes f p ++ (join rs ps ++ rest) = e ∙ append_assoc (field_bytes f p) (join rs ps) rest in
    let i = stand rs s (at + length (field_bytes f p)) ps rest (past_in f s at p _ h d) os (left_of f s at p _ d) in
    let z : at + length (field_bytes f p ++ join rs ps) ≡ at + length (field_bytes f p) + length (join rs ps) =
    rw length-append (omega arith) in
    record {
      found = rw (step_of f s at p _ h o d, i.found, z);
      behind = rw z i.behind;
      inside = rw z i.inside;
      parts = ap₂ (λ (x : List ℕ) (y : Parts rs). (x, y)) (view_of_lem f s at p _ h d) i.parts;
    }

-- the block or none, by what is left after the fields
record Last (b : Option Field) (s : List ℕ) (at : ℕ) (e : Option (List ℕ)) (tail : List ℕ) : Type 0 where
  found : last_at b s at ≡ record { view = block_view b at e; next = at + length (block_bytes b e) }
  behind : drop (at + length (block_bytes b e)) s ≡ tail
  block : block_of s (block_view b at e) ≡ e

last_of : (b : Option Field) (s : List ℕ) (at : ℕ) (e : Option (List ℕ)) (tail : List ℕ) → Bytes s → at ≤ length s
    → BlockObeys b e tail → drop at s ≡ block_bytes b e ++ tail → Last b s at e tail
unfolding block_at
last_of none s at none tail bs h o d = record { found = rw add-zero; behind = rw add-zero d; block = refl }
last_of (some f) s at (some p) tail bs h o d =
    record {
      found = rw (step_of f s at p tail h o d);
      behind = left_of f s at p tail d;
      block = ap some (view_of_lem f s at p tail h d);
    }
last_of (some f) s at none tail bs h o d =
    record { found = go (step f s at) refl; behind = rw add-zero d; block = refl }
  where
    go : (a : Answer Part) → step f s at ≡ a → if_fits (step f s at) at ≡ record { view = None; next = at + 0 }
    go (accepted q) e =
        let w = step_back f s at bs e in
        absurd (o (part_of s q.view) (drop q.next s) w.obeys (sym d ∙ w.bytes))
    go (refused r) e = rw (e, add-zero)
last_of none s at (some p) tail bs h o d = elim o [ ]

module _ (g : Grammar) (s : List ℕ) (b : Bytes s) where
  -- a body that splits
  stands : (x : Pieces g) → Split g s x → Stand g.rows s 0 x.parts (block_bytes g.block x.block ++ x.tail)
  stands x y = stand g.rows s 0 x.parts _ (omega arith) y.obey y.whole

  lasts : (x : Pieces g) → Split g s x → Last g.block s (length (join g.rows x.parts)) x.block x.tail
  lasts x y =
      let i = stands x y in
      let z : 0 + length (join g.rows x.parts) ≡ length (join g.rows x.parts) = zero-add _ in
      last_of g.block s _ x.block x.tail b (rw z at i.inside) y.last (rw z at i.behind)

  pub accepts : (x : Pieces g) → Split g s x → read g s ≡ accepted (handed_of g x)
  unfolding read
  accepts x y = rw ((stands x y).found, zero-add, (lasts x y).found)

  pieces_back : (x : Pieces g) → Split g s x → pieces_of g s (handed_of g x) ≡ x
  pieces_back x y =
      let i = stands x y in
      let l = lasts x y in
      rw (i.parts, l.block, l.behind)

  pub only : (x y : Pieces g) → Split g s x → Split g s y → x ≡ y
  only x y p q =
      let e : accepted (handed_of g x) ≡ accepted (handed_of g y) = sym (accepts x p) ∙ accepts y q in
      let d : handed_of g x ≡ handed_of g y = cc in
      sym (pieces_back x p) ∙ ap (pieces_of g s) d ∙ pieces_back y q

-- a field's view, and those of the fields after it
abbrev added : (w : Row) (rs : List Row) → View → Views rs × ℕ → Answer (Views (w ∷ rs) × ℕ)
added w rs v q = accepted ((v, q.0), q.1)

-- the fields that were found stand at the place
pub record Have (rs : List Row) (s : List ℕ) (at : ℕ) (vs : Views rs) (n : ℕ) : Type 0 where
  pub obey : AllObey rs (parts_of s rs vs)
  pub bytes : drop at s ≡ join rs (parts_of s rs vs) ++ drop n s
  pub inside : n ≤ length s

have_more : (f : Field) (m : How) (rs : List Row) (s : List ℕ) (at : ℕ) (p : Part) (vs : Views rs) (n : ℕ)
    → Found f s at p → Have rs s p.next vs n → Have ((f, m) ∷ rs) s at (p.view, vs) n
unfolding join
have_more f m rs s at p vs n w i = record {
  obey = (w.obeys, i.obey);
  bytes = w.bytes ∙ rw i.bytes (sym
      (append_assoc (field_bytes f (part_of s p.view)) (join rs (parts_of s rs vs)) (drop n s)));
  inside = i.inside;
}

pub have : (rs : List Row) (s : List ℕ) (at : ℕ) (q : Views rs × ℕ) → Bytes s → at ≤ length s
    → fields_at rs s at ≡ accepted q → Have rs s at q.0 q.1
unfolding fields_at join
have [] s at q b h e =
    let d : ◌≡◌ {A = Unit × ℕ} (tt, at) q = cc in
    let n : at ≡ q.1 = ap (λ (x : Unit × ℕ). x.1) d in
    record { obey = tt; bytes = rw n; inside = rw n at h }
have ((f, m) ∷ rs) s at q b h e =
    let t = then_accepted (step f s at) (λ p. then (fields_at rs s p.next) (added (f, m) rs p.view)) e in
    let p = t.0 in
    let u = then_accepted (fields_at rs s p.next) (added (f, m) rs p.view) t.2 in
    let w = step_back f s at b t.1 in
    let i = have rs s p.next u.0 b w.inside u.1 in
    let d : ◌≡◌ {A = Views ((f, m) ∷ rs) × ℕ} ((p.view, u.0.0), u.0.1) q = cc u.2 in
    rw (← d) (have_more f m rs s at p u.0.0 u.0.1 w i)

-- so does the block that was found, and where none was found none fits
record HaveLast (b : Option Field) (s : List ℕ) (at : ℕ) (o : OptPart) : Type 0 where
  obey : BlockObeys b (block_of s o.view) (drop o.next s)
  bytes : drop at s ≡ block_bytes b (block_of s o.view) ++ drop o.next s
  inside : o.next ≤ length s

have_last : (b : Option Field) (s : List ℕ) (at : ℕ) → Bytes s → at ≤ length s → HaveLast b s at (last_at b s at)
unfolding block_at
have_last none s at bs h = record { obey = tt; bytes = refl; inside = h }
have_last (some f) s at bs h = go (step f s at) refl
  where
    go : (a : Answer Part) → step f s at ≡ a → HaveLast (some f) s at (if_fits (step f s at) at)
    go (accepted q) e =
        let w = step_back f s at bs e in
        rw e (record { obey = w.obeys; bytes = w.bytes; inside = w.inside })
    go (refused r) e =
        rw e (record { obey = λ p rest o d. not_both (step_of f s at p rest h o d) e; bytes = refl; inside = h })

-- the refusal of the first field that the bytes lack
pub refuses_of : (rs : List Row) (s : List ℕ) (at : ℕ) (r : Refusal) → at ≤ length s → FirstLacks rs at (drop at s) r
    → fields_at rs s at ≡ refused r
unfolding fields_at
refuses_of ((f, m) ∷ rs) s at r h (inl l) = rw (step_lacks f s at r h l)
refuses_of ((f, m) ∷ rs) s at r h (inr (p, rest, o, d, y)) =
    let z : FirstLacks rs (at + length (field_bytes f p)) (drop (at + length (field_bytes f p)) s) r =
    rw (left_of f s at p rest d) y in
    rw (step_of f s at p rest h o d, refuses_of rs s (at + length (field_bytes f p)) r (past_in f s at p rest h d) z)
refuses_of [] s at r h x'' = elim x'' [ ]

pub lacks_of : (rs : List Row) (s : List ℕ) (at : ℕ) (r : Refusal) → Bytes s → at ≤ length s
    → fields_at rs s at ≡ refused r → FirstLacks rs at (drop at s) r
unfolding fields_at
lacks_of [] s at r b h e = absurd (not_both refl e)
lacks_of ((f, m) ∷ rs) s at r b h e =
    go (λ p i x. lacks_of rs s p r b i x)
    (then_refused (step f s at) (λ p. then (fields_at rs s p.next) (added (f, m) rs p.view)) e)
  where
    more : (p : Part) → Found f s at p → FirstLacks rs p.next (drop p.next s) r
        → FirstLacks ((f, m) ∷ rs) at (drop at s) r
    more p w y =
        let n : p.next ≡ at + length (field_bytes f (part_of s p.view)) = ap (λ (x : Part). x.next) w.place in
        inr (part_of s p.view, drop p.next s, w.obeys, w.bytes, rw (← n) y)

    on : ((n : ℕ) → n ≤ length s → fields_at rs s n ≡ refused r → FirstLacks rs n (drop n s) r) → (p : Part)
        → Found f s at p
        → (fields_at rs s p.next ≡ refused r) ⊎
        ((q : Views rs × ℕ) × (fields_at rs s p.next ≡ accepted q) × (added (f, m) rs p.view q ≡ refused r))
        → FirstLacks ((f, m) ∷ rs) at (drop at s) r
    on ih p w (inl x) = more p w (ih p.next w.inside x)
    on ih p w (inr (q, x, z)) = absurd (not_both refl z)

    go : ((n : ℕ) → n ≤ length s → fields_at rs s n ≡ refused r → FirstLacks rs n (drop n s) r)
        → (step f s at ≡ refused r) ⊎
        ((p : Part) × (step f s at ≡ accepted p)
        × (then (fields_at rs s p.next) (added (f, m) rs p.view) ≡ refused r))
        → FirstLacks ((f, m) ∷ rs) at (drop at s) r
    go ih (inl x) = inl (lacks_back f s at r b h x)
    go ih (inr (p, x, y)) =
        on ih p (step_back f s at b x) (then_refused (fields_at rs s p.next) (added (f, m) rs p.view) y)

-- the views of fields and of the block lie in field order, without overlap, from a place on and
-- before the tail
abbrev pub InOrder : (rs : List Row) → Views rs → OptView → ℕ → ℕ → Type 0
InOrder [] vs None from tail = from ≤ tail
InOrder [] vs (Some v) from tail = (from ≤ v.start) × (v.start + v.len ≤ tail)
InOrder ((f, m) ∷ rs) (v, vs) e from tail = (from ≤ v.start) × InOrder rs vs e (v.start + v.len) tail

-- views lie in order where the places of fields do
later : (vs : Unit) (e : OptView) (from at tail : ℕ) → from ≤ at → InOrder [] vs e at tail → InOrder [] vs e from tail
later vs None from at tail h o = omega arith
later vs (Some v) from at tail h o = (omega arith, o.1)

ends : (f : Field) (at : ℕ) (p : List ℕ) → (at ≤ place_of f at)
    × (place_of f at + length p ≡ at + length (field_bytes f p))
ends (fixed n) at p = (omega arith, refl)
ends (vector w r) at p = (omega arith, rw (length_vector w r p) (omega arith))

ordered : (rs : List Row) (at : ℕ) (ps : Parts rs) (e : OptView) (tail from : ℕ) → from ≤ at
    → InOrder [] tt e (at + length (join rs ps)) tail → InOrder rs (views_of rs at ps) e from tail
unfolding views_of join
ordered [] at ps e tail from h o = later tt e from at tail h (rw add-zero at o)
ordered ((f, m) ∷ rs) at (p, ps) e tail from h o =
    let n = ends f at p in
    let z : at + length (field_bytes f p ++ join rs ps) ≡ at + length (field_bytes f p) + length (join rs ps) =
    rw length-append (omega arith) in (
      omega (arith, n.0),
      ordered rs (at + length (field_bytes f p)) ps e tail (place_of f at + length p) (omega (arith, n.1)) (rw z at o),
    )

last_ordered : (b : Option Field) (at : ℕ) (e : Option (List ℕ))
    → InOrder [] tt (block_view b at e) at (at + length (block_bytes b e))
last_ordered none at e = omega arith
last_ordered (some f) at none = omega arith
last_ordered (some f) at (some p) = let n = ends f at p in (omega (arith, n.0), omega (arith, n.1))

module _ (g : Grammar) (s : List ℕ) (b : Bytes s) where
  pub splits : (h : Handed g) → read g s ≡ accepted h → Split g s (pieces_of g s h)
  unfolding read
  splits h e =
      let t = then_accepted (fields_at g.rows s 0)
      (λ q. accepted (with_last g q.0 (last_at g.block s q.1))) e in
      let i = have g.rows s 0 t.0 b (omega arith) t.1 in
      let l = have_last g.block s t.0.1 b i.inside in
      let d : with_last g t.0.0 (last_at g.block s t.0.1) ≡ h = cc t.2 in
      rw (← d) (record {
        obey = i.obey;
        whole = i.bytes
            ∙ ap (λ (x : List ℕ). join g.rows (parts_of s g.rows t.0.0) ++ x) l.bytes;
        last = l.obey;
      })

  handed_back : (h : Handed g) → read g s ≡ accepted h → h ≡ handed_of g (pieces_of g s h)
  handed_back h e = let d : accepted h ≡ accepted (handed_of g (pieces_of g s h)) = sym e
      ∙ accepts g s b (pieces_of g s h) (splits h e) in cc

  pub order : (h : Handed g) → read g s ≡ accepted h → InOrder g.rows h.views h.block 0 h.tail
      × (h.tail ≤ length s)
  order h e =
      let x = pieces_of g s h in
      let y = splits h e in
      let at = length (join g.rows x.parts) in
      let o = last_ordered g.block at x.block in
      let l : length s ≡ at + (length (block_bytes g.block x.block) + length x.tail) = ap length y.whole
      ∙ simp length-append in
      rw (handed_back h e) (ordered g.rows 0 x.parts _ _ 0 (omega arith) (rw zero-add o), omega arith)

  pub refuses : (r : Refusal) → FirstLacks g.rows 0 s r → read g s ≡ refused r
  unfolding read
  refuses r y = rw (refuses_of g.rows s 0 r (omega arith) y)

  pub lacks : (r : Refusal) → read g s ≡ refused r → FirstLacks g.rows 0 s r
  unfolding read
  lacks r e =
      go (then_refused (fields_at g.rows s 0) (λ q. accepted (with_last g q.0 (last_at g.block s q.1))) e)
    where
      go : (fields_at g.rows s 0 ≡ refused r) ⊎
          ((q : Views g.rows × ℕ) × (fields_at g.rows s 0 ≡ accepted q)
          × (accepted (with_last g q.0 (last_at g.block s q.1)) ≡ refused r)) → FirstLacks g.rows 0 s r
      go (inl x) = lacks_of g.rows s 0 r b (omega arith) x
      go (inr (q, x, z)) = absurd (not_both refl z)

  pub whichever : ((x : Pieces g) × Split g s x) ⊎ ((r : Refusal) × FirstLacks g.rows 0 s r)
  whichever = go (either (read g s))
    where
      go : ((h : Handed g) × (read g s ≡ accepted h)) ⊎ ((r : Refusal) × (read g s ≡ refused r))
          → ((x : Pieces g) × Split g s x) ⊎ ((r : Refusal) × FirstLacks g.rows 0 s r)
      go (inl (h, e)) = inl (pieces_of g s h, splits h e)
      go (inr (r, e)) = inr (r, lacks r e)
