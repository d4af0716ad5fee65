-- The length of a message's body has three bytes, and in a record two. Assumes nothing.
use Prim.Native.Nat.{ℕ, ◌<◌}
use mathlib.Core.Path.{◌≡◌, refl, sym, ap, ◌∙◌}
use mathlib.Core.Bool.{Bool, true, false}
use mathlib.Core.List.{List}
use mathlib.Core.Logic.{◌⊎◌, inl, inr}
use native.Mathlib.Omega.{arith}
use lib.ListN.{length}
use Rattle.refusal.specs.Answers.{accepted, refused, giving}
use Rattle.refusal.specs.Refusals.{refusal}
use Rattle.refusal.specs.declared.Reason.TheVariants.{Switch}
use Rattle.refusal.proofs.Then.{not_both, then_accepted}
use Rattle.wire.specs.Numbers.{Bytes, number_at}
use Rattle.wire.specs.Parts.{part_of, pick}
use Rattle.wire.specs.declared.view.Part.{Part}
use Rattle.field.specs.Fields.{step, sized}
use Rattle.field.proofs.Steps.{step_back}
use Rattle.envelope.specs.Opening.{head_at}
use Rattle.envelope.proofs.Heads.{head_lies}
use Rattle.grammar.specs.Forms.{reading}
use Rattle.record.specs.Records.{raw}
use Rattle.record.specs.declared.TlsRawRecord.{TlsRawRecord}
use Rattle.record.proofs.Whole.{all_records}
use Rattle.envelope.specs.declared.TlsMessageHead.{TlsMessageHead}
use Rattle.norrabist_c.specs.Heads.{content_head, is_listed, listed_head, no_head}
use Rattle.norrabist_c.proofs.ContentHeads.{told_head}

head_len : (s : List ℕ) (at : ℕ) {h : TlsMessageHead} → Bytes s → head_at s at ≡ accepted h → h.body.len < 16777216
unfolding head_at
head_len s at {h} b e =
    let t = then_accepted (number_at 1 s at)
    (λ k. giving (λ b. record { msg_type = k.value; body = b.view; next = b.next })
    (step (sized 3) s k.next)) e in
    let u = then_accepted (step (sized 3) s t.0.next)
    (λ b. accepted (record { msg_type = t.0.value; body = b.view; next = b.next })) t.2 in
    let f = step_back (sized 3) s t.0.next b u.1 in
    let d : record { msg_type = t.0.value; body = u.0.view; next = u.0.next } ≡ h = cc u.2 in
    let l : u.0.view.len ≡ length (part_of s u.0.view) = ap (λ (q : Part). q.view.len) f.place in
    rw (← d) (omega (arith, l, f.obeys.0))

-- a head with a listed type is a head
pub listed_head_lem : (s : List ℕ) (at : ℕ) {h : TlsMessageHead} → listed_head s at ≡ accepted h → head_at s at ≡ accepted h
unfolding listed_head
listed_head_lem s at {h} e =
    let t = then_accepted (head_at s at)
    (λ x. pick (is_listed x.msg_type) (accepted x) (refused (refusal Switch at 0))) e in
    t.1 ∙ go (is_listed t.0.msg_type) refl t.2
  where
    go : {x : TlsMessageHead} (y : Bool) → is_listed x.msg_type ≡ y
        → pick (is_listed x.msg_type) (accepted x) (refused (refusal Switch at 0)) ≡ accepted h → accepted x
        ≡ accepted h
    go true q p = rw q at p
    go false q p = absurd (not_both refl (sym (rw q at p)))

pub listed_len : (s : List ℕ) (at : ℕ) {h : TlsMessageHead} → Bytes s → listed_head s at ≡ accepted h
    → h.body.len < 16777216
listed_len s at b e = head_len s at b (listed_head_lem s at e)

-- and so has that of the first message of a content
pub first_len : (t at : ℕ) (s : List ℕ) {h : TlsMessageHead} → Bytes s → content_head t at s ≡ accepted h
    → h.body.len < 16777216
first_len t at s {h} b e = go (told_head t at s e)
  where
    go : (listed_head s 0 ≡ accepted h) ⊎ (no_head ≡ h) → h.body.len < 16777216
    go (inl q) = listed_len s 0 b q
    go (inr d) = rw (← d) (omega arith)

-- a record's content has at most two bytes' worth, and so has the body of a message in it
pub content_len : (s : List ℕ) {r : TlsRawRecord} {h : TlsMessageHead} → Bytes s → reading raw s ≡ accepted r
    → content_head r.hdr.record_type r.«data».start (part_of s r.«data») ≡ accepted h → h.body.len < 65536
content_len s {r} {h} b e p =
    go (told_head r.hdr.record_type r.«data».start (part_of s r.«data») p)
  where
    go : (listed_head (part_of s r.«data») 0 ≡ accepted h) ⊎ (no_head ≡ h) → h.body.len < 65536
    go (inl q) =
        let o = ((all_records s b).splits r e).obey in
        let l = head_lies (part_of s r.«data») 0 (listed_head_lem (part_of s r.«data») 0 q) in
        omega (arith, o.1.1.0.0, l.next, l.inside)
    go (inr d) = rw (← d) (omega arith)
