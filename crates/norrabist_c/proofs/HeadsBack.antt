-- Records and messages are those of the heads that are told. Assumes nothing.
use Prim.Native.Nat.{ℕ, ◌+◌}
use mathlib.Core.Path.{◌≡◌, refl, sym, ap, ◌∙◌}
use mathlib.Core.Bool.{Bool, true, false}
use mathlib.Core.List.{List}
use mathlib.Core.Option.{none}
use native.Mathlib.Omega.{arith}
use borrow.Author.Tests.{eq-eqb, eqb-true}
use lib.Dec.{eqb}
use lib.ListN.{length, length-append}
use Rattle.refusal.specs.Answers.{Answer, accepted, refused, then, giving}
use Rattle.refusal.specs.Refusals.{refusal}
use Rattle.refusal.specs.declared.Reason.TheVariants.{Switch}
use Rattle.refusal.proofs.Then.{then_accepted}
use Rattle.wire.specs.Numbers.{Bytes}
use Rattle.wire.specs.Parts.{lookup, part_of, pick}
use Rattle.wire.proofs.Numbers.{length_bytes}
use Rattle.wire.specs.declared.view.View.{View}
use Rattle.grammar.specs.Forms.{reading, value_of}
use Rattle.grammar.specs.Splits.{AllObey, Pieces, handed_of, join, views_of}
use Rattle.message.proofs.Lookup.{◌&◌, by_rows}
use Rattle.message.specs.declared.handshake.TlsMessageHandshake.{TlsMessageHandshake}
use Rattle.envelope.specs.Opening.{Met, by_type_in, head_at, met_at, openings}
use Rattle.envelope.specs.declared.TlsMessageHead.{TlsMessageHead}
use Rattle.envelope.proofs.Heads.{head_lies}
use Rattle.content.specs.declared.TlsMessage.TheVariants.{Handshake}
use Rattle.content_walk.specs.declared.TlsFound.{TlsFound}
use Rattle.record.specs.Records.{raw}
use Rattle.record.specs.declared.TlsRawRecord.{TlsRawRecord}
use Rattle.record.specs.declared.TlsRecordHeader.{TlsRecordHeader}
use Rattle.record.proofs.Whole.{all_records}
use Rattle.record_open.specs.Plaintext.{as_first, contents, first_of, opened_first, plain_record, with_header}
use Rattle.record_open.specs.declared.TlsPlaintextOpened.{TlsPlaintextOpened}
use Rattle.norrabist_c.specs.Contents.{as_found}
use Rattle.norrabist_c.specs.Heads.{PlainHead, content_head, head_told, is_listed, listed_head, no_head, plain_head}
use Rattle.norrabist_c.specs.Heads.{raw_told}
use Rattle.norrabist_c.specs.HeadsBack.{HeadsBack, head_from, opened_from, raw_from}
use Rattle.norrabist_c.proofs.ContentHeads.{first_16, first_accepted, first_place, head_16, head_other}
use Rattle.norrabist_c.proofs.ContentHeads.{other_message}
use Rattle.norrabist_c.proofs.HeadLengths.{listed_head_lem}
use Rattle.norrabist_c.proofs.HellosBack.{of_pieces, same_view}

no : true ≡ false → ⊥
no e = let z : ◌≡◌ {A = ℕ} 0 1 = cc in omega arith

-- a type that is not listed has no row, whatever the bytes
unlisted : (k n : ℕ) (s : List ℕ) → is_listed k ≡ false → lookup k (openings n s) ≡ none
unfolding is_listed
unlisted k n s h =
    by_rows (λ o. is_listed k ≡ false → o ≡ none) k (openings n s)
    ((λ q h. absurd (no (rw q at h)))
    & (λ q h. absurd (no (rw q at h)))
    & (λ q h. absurd (no (rw q at h)))
    & (λ q h. absurd (no (rw q at h)))
    & (λ q h. absurd (no (rw q at h)))
    & (λ q h. absurd (no (rw q at h)))
    & (λ q h. absurd (no (rw q at h)))
    & (λ q h. absurd (no (rw q at h)))
    & (λ q h. absurd (no (rw q at h)))
    & (λ q h. absurd (no (rw q at h)))
    & (λ q h. absurd (no (rw q at h)))
    & (λ q h. absurd (no (rw q at h)))
    & (λ q h. absurd (no (rw q at h)))
    & (λ q h. absurd (no (rw q at h)))
    & (λ q h. absurd (no (rw q at h)))
    & (λ q h. absurd (no (rw q at h)))
    & tt)
    (λ h. refl) h

-- so that its body is not opened, with the refusal of the head
switched : (at from k : ℕ) (s : List ℕ) → is_listed k ≡ false → by_type_in at from k s ≡ refused (refusal Switch at 0)
unfolding by_type_in
switched at from k s h = rw (unlisted k (length s) s h)

module _ (s : List ℕ) (at : ℕ) where
  abbrev body_of : TlsMessageHead → Answer Met
  body_of h = giving (λ m. record { head = h; says = m })
      (by_type_in at h.body.start h.msg_type (part_of s h.body))

  by_head : met_at s at ≡ then (listed_head s at) body_of
  unfolding met_at listed_head
  by_head = go (head_at s at)
    where
      go : (a : Answer TlsMessageHead) → then a body_of ≡ then
          (then a (λ h. pick (is_listed h.msg_type) (accepted h) (refused (refusal Switch at 0)))) body_of
      go (refused r) = refl
      go (accepted h) = one (is_listed h.msg_type) refl
        where
          one : (y : Bool) → is_listed h.msg_type ≡ y → body_of h
              ≡ then (pick (is_listed h.msg_type) (accepted h) (refused (refusal Switch at 0))) body_of
          one true q = rw q
          one false q = rw (q, switched at h.body.start h.msg_type (part_of s h.body) q)

-- the record with its content, and the first message
abbrev with_first : TlsRawRecord → List ℕ → TlsFound → TlsPlaintextOpened
with_first r content y = record { «record» = plain_record r content; body = y.body; message = y.message }

module _ (r : TlsRawRecord) (content : List ℕ) where
  abbrev begins : ℕ
  begins = r.«data».start

  abbrev from : TlsMessageHead → Answer TlsPlaintextOpened
  from h = opened_from content (record { outer = r; head = h })

  -- of a handshake record, from its head
  of_body_lem : (h : TlsMessageHead) (a : Answer TlsMessageHandshake)
      → as_first begins (giving as_found (giving (λ m. record { head = h; says = m }) a))
      ≡ giving (λ m. record { body = h.body; next = h.next; message = Handshake m }) (as_first begins a)
  of_body_lem h (accepted m) = refl
  of_body_lem h (refused x) = refl

  of_head : eqb r.hdr.record_type 0x16 ≡ true → (a : Answer TlsMessageHead)
      → giving (with_first r content) (as_first begins (giving as_found (then a (body_of content 0))))
      ≡ then (as_first begins a) from
  of_head q (refused x) = refl
  of_head q (accepted h) =
      rw (q, of_body_lem h (by_type_in 0 h.body.start h.msg_type (part_of content h.body)))

  -- of any other, from the first of its messages
  of_other : eqb r.hdr.record_type 0x16 ≡ false → (a : Answer TlsFound)
      → first_of r.hdr.record_type begins content ≡ a
      → giving (with_first r content) a ≡ then (giving (λ x. no_head) a) from
  of_other q (refused x) e = refl
  of_other q (accepted y) e = rw (q, first_place r.hdr.record_type begins content e)

  by_content : contents r content ≡ then (content_head r.hdr.record_type begins content) from
  unfolding contents
  by_content = go (eqb r.hdr.record_type 0x16) refl
    where
      go : (y : Bool) → eqb r.hdr.record_type 0x16 ≡ y
          → giving (with_first r content) (first_of r.hdr.record_type begins content)
          ≡ then (content_head r.hdr.record_type begins content) from
      go true q =
          ap (λ (t : ℕ). giving (with_first r content) (first_of t begins content))
          (eqb-true r.hdr.record_type 0x16 q)
          ∙ ap (λ (a : Answer TlsFound). giving (with_first r content) a) (first_16 begins content)
          ∙ ap (λ (a : Answer Met). giving (with_first r content) (as_first begins (giving as_found a)))
          (by_head content 0)
          ∙ of_head q (listed_head content 0)
          ∙ ap (λ (a : Answer TlsMessageHead). then a from)
          (sym (head_16 r.hdr.record_type begins content q))
      go false q =
          of_other q (first_of r.hdr.record_type begins content) refl
          ∙ ap (λ (a : Answer TlsMessageHead). then a from)
          (sym (head_other r.hdr.record_type begins content q))

by_first : (s : List ℕ) → opened_first s ≡ then (plain_head s) (λ x. opened_from (part_of s x.outer.«data») x)
unfolding opened_first plain_head
by_first s = go (reading raw s)
  where
    go : (a : Answer TlsRawRecord) → then a (λ r. contents r (part_of s r.«data»))
        ≡ then (then a (λ r. giving (λ h. record { outer = r; head = h })
        (content_head r.hdr.record_type r.«data».start (part_of s r.«data»))))
        (λ x. opened_from (part_of s x.outer.«data») x)
    go (refused x) = refl
    go (accepted r) =
        by_content r (part_of s r.«data»)
        ∙ on (content_head r.hdr.record_type r.«data».start (part_of s r.«data»))
      where
        on : (a : Answer TlsMessageHead) → then a (from r (part_of s r.«data»))
            ≡ then (giving (λ h. record { outer = r; head = h }) a) (λ x. opened_from (part_of s x.outer.«data») x)
        on (refused x) = refl
        on (accepted h) = refl

by_header : (s : List ℕ) (hdr : TlsRecordHeader) → with_header hdr s
    ≡ then (content_head hdr.record_type 0 s)
    (from (record { hdr = hdr; «data» = record { start = 0; len = length s }; next = length s }) s)
unfolding with_header
by_header s hdr = by_content (record { hdr = hdr; «data» = record { start = 0; len = length s }; next = length s }) s

-- a head that is told is that of a record that was taken
taken : (s : List ℕ) (x : PlainHead) → plain_head s ≡ accepted x → (reading raw s ≡ accepted x.outer)
    × (content_head x.outer.hdr.record_type x.outer.«data».start (part_of s x.outer.«data»)
    ≡ accepted x.head)
unfolding plain_head
taken s x e =
    let t = then_accepted (reading raw s)
    (λ r. giving (λ h. record { outer = r; head = h })
    (content_head r.hdr.record_type r.«data».start (part_of s r.«data»))) e in
    let u = then_accepted
    (content_head t.0.hdr.record_type t.0.«data».start (part_of s t.0.«data»))
    (λ h. accepted (record { outer = t.0; head = h })) t.2 in
    let d : record { outer = t.0; head = u.0 } ≡ x = cc u.2 in
    rw (← d) (t.1, u.1)

-- a record's content stands behind the header
abbrev raw_made : ℕ → ℕ → ℕ → View → ℕ → TlsRawRecord
raw_made t v n d next = record { hdr = record { record_type = t; version = v; len = n }; «data» = d; next = next }

same_raw : (t v n : ℕ) {d d' : View} {m m' : ℕ} → d ≡ d' → m ≡ m' → raw_made t v n d m ≡ raw_made t v n d' m'
same_raw t v n p q = rw (p, q)

raw_value : (s : List ℕ) (x : Pieces raw.grammar) → AllObey raw.grammar.rows x.parts
    → value_of raw s (handed_of raw.grammar x)
    ≡ raw_from (raw_told (accepted (value_of raw s (handed_of raw.grammar x))))
unfolding views_of join
raw_value s x o =
    let p = x.parts in
    let j : length (join raw.grammar.rows p) ≡ 5 + length p.1.1.0 =
    simp (length-append, length_bytes) (omega (arith, o.0, o.1.0)) in
    same_raw _ _ _ (same_view (omega (arith, o.0, o.1.0)) refl) (omega (arith, j))

module _ (s : List ℕ) (b : Bytes s) where
  raw_back : (r : TlsRawRecord) → reading raw s ≡ accepted r → r ≡ raw_from (raw_told (accepted r))
  raw_back r e = of_pieces (λ r. r ≡ raw_from (raw_told (accepted r))) (all_records s b) e (raw_value s)

  head_back : (at : ℕ) (h : TlsMessageHead) → listed_head s at ≡ accepted h
      → (h ≡ head_from at (head_told (accepted h))) × (h.next ≡ at + 4 + h.body.len)
  head_back at h e =
      let l = head_lies s at (listed_head_lem s at e) in
      (same_head h.msg_type h.next (same_view l.start refl), l.next)
    where
      same_head : (t n : ℕ) {v w : View} → v ≡ w → ◌≡◌ {A = TlsMessageHead}
          (record { msg_type = t; body = v; next = n }) (record { msg_type = t; body = w; next = n })
      same_head t n p = rw p

  first_back : (x : PlainHead) → plain_head s ≡ accepted x → x.outer.hdr.record_type ≡ 0x16
      → (x.outer.«data».start ≡ 5) × (x.head.body.start ≡ 4) × (x.head.next ≡ 4 + x.head.body.len)
  first_back x e z =
      let t = taken s x e in
      let content = part_of s x.outer.«data» in
      let begins = x.outer.«data».start in
      let q = first_accepted begins (listed_head content 0)
      (sym (head_16 x.outer.hdr.record_type begins content (eq-eqb x.outer.hdr.record_type 0x16 z))
      ∙ t.1) in
      let l = head_lies content 0 (listed_head_lem content 0 q) in
      (ap (λ (y : TlsRawRecord). y.«data».start) (raw_back x.outer t.0), l.start, l.next)

pub heads_back : (s : List ℕ) → Bytes s → HeadsBack s
heads_back s b =
    record {
      raw_record = raw_back s b;
      head = head_back s b;
      first = first_back s b;
      met =
          λ at. by_head s at;
      opened = by_first s;
      others = λ x e out. other_message x.outer.hdr.record_type x.outer.«data».start
          (part_of s x.outer.«data») (taken s x e).1 out;
      content = by_header s;
      content_others = λ t at h e out. other_message t at s e out;
    }
