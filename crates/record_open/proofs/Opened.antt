-- What a record is whose first message is found: that message, and those behind it; and what a
-- record that can be opened is. Assumes nothing.
use Prim.Native.Nat.{ℕ, ◌+◌, ◌-◌, ◌≤◌}
use mathlib.Core.Path.{◌≡◌, refl, ap, ◌∙◌}
use mathlib.Core.Bool.{true}
use mathlib.Core.List.{List}
use native.Mathlib.Omega.{arith}
use lib.ListN.{length}
use Rattle.refusal.specs.Answers.{Answer, accepted, refused, giving, then}
use Rattle.refusal.proofs.Then.{then_accepted}
use Rattle.list.specs.Stopping.{end_of}
use Rattle.content_walk.specs.ContentWalks.{found_at, messages_of, messages_behind, dropped_of}
use Rattle.content_walk.specs.declared.TlsFound.{TlsFound}
use Rattle.record.specs.Records.{raw}
use Rattle.record.specs.declared.TlsRawRecord.{TlsRawRecord}
use Rattle.record_open.specs.Plaintext.{contents, first_of, is_opened, opened_first, plain_record}
use Rattle.record_open.specs.Plaintext.{plaintext, record_met}
use Rattle.record_open.specs.declared.TlsPlaintextOpened.{TlsPlaintextOpened}
use Rattle.record_open.specs.declared.TlsPlaintext.{TlsPlaintext}
use Rattle.wire.specs.Parts.{part_of}
use Rattle.grammar.specs.Forms.{reading}
use Rattle.content_walk.proofs.Found.{found_in}
use Rattle.content_walk.proofs.Walking.{first_on, behind_in}

module _ (t : ℕ) (content : List ℕ) {next : ℕ} (e : giving (λ x. x.next) (found_at t content 0) ≡ accepted next) where
  first : (x : TlsFound) × (found_at t content 0 ≡ accepted x) × (x.next ≡ next)
  first = let u = then_accepted (found_at t content 0) (λ x. accepted x.next) e in (u.0, u.1, cc u.2)

  first_inside : next ≤ length content
  first_inside = let f = first in omega (arith, found_in t content 0 f.1, f.2)

  -- where the others end, and how many they are
  pub others_in : (end_of (λ (x : TlsFound). x.next) (messages_behind t content next) next ≤ length content)
      × (next + length (messages_behind t content next)
      ≤ end_of (λ (x : TlsFound). x.next) (messages_behind t content next) next)
  others_in = behind_in t content next first_inside

  pub first_vector : length (messages_of t content) ≡ 1 + length (messages_behind t content next)
  first_vector = let f = first in rw (first_on t content f.1, f.2) (omega arith)

  pub first_dropped : dropped_of t content
      ≡ length content - end_of (λ (x : TlsFound). x.next) (messages_behind t content next) next
  unfolding end_of
  first_dropped = let f = first in rw (first_on t content f.1, f.2)

-- the first message, by what is found
module _ (t at : ℕ) (content : List ℕ) where
  pub first_got : {x : TlsFound} → is_opened t ≡ true → found_at t content 0 ≡ accepted x
      → first_of t at content ≡ accepted x
  unfolding first_of
  first_got y e = rw (y, e)

abbrev pub plain_end : TlsPlaintext → ℕ
plain_end p = p.next

abbrev opened_record : TlsPlaintextOpened → TlsPlaintext
opened_record x = x.«record»

abbrev pub raw_end : TlsRawRecord → ℕ
raw_end r = r.next

-- where a record ends, by the record without its counts
module _ (s : List ℕ) where
  pub met_next : giving plain_end (plaintext s) ≡ giving raw_end (record_met s)
  unfolding plaintext opened_first record_met contents plain_record
  met_next = go (reading raw s)
    where
      go : (a : Answer TlsRawRecord)
          → giving plain_end (giving opened_record (then a (λ r. contents r (part_of s r.«data»))))
          ≡ giving raw_end (then a (λ r. giving (λ x. r)
          (first_of r.hdr.record_type r.«data».start (part_of s r.«data»))))
      go (refused q) = refl
      go (accepted r) = on (first_of r.hdr.record_type r.«data».start (part_of s r.«data»))
        where
          on : (b : Answer TlsFound)
              → giving plain_end (giving opened_record (giving
              (λ x. record {
                «record» = plain_record r (part_of s r.«data»);
                body = x.body;
                message = x.message;
              }) b))
              ≡ giving raw_end (giving (λ (x : TlsFound). r) b)
          on (accepted x) = refl
          on (refused q) = refl

  -- a record that is opened was taken
  pub plain_is : {p : TlsPlaintext} → plaintext s ≡ accepted p → (r : TlsRawRecord) × (reading raw s ≡ accepted r)
      × (plain_record r (part_of s r.«data») ≡ p)
  unfolding plaintext opened_first contents
  plain_is {p} e =
      let t = then_accepted (opened_first s) (λ x. accepted x.«record») e in
      let u = then_accepted (reading raw s) (λ r. contents r (part_of s r.«data»)) t.1 in
      let c = part_of s u.0.«data» in
      let v = then_accepted (first_of u.0.hdr.record_type u.0.«data».start c)
      (λ x. accepted (record { «record» = plain_record u.0 c; body = x.body; message = x.message })) u.2 in
      let d : record { «record» = plain_record u.0 c; body = v.0.body; message = v.0.message } ≡ t.0 =
      cc v.2 in
      let z : t.0.«record» ≡ p = cc t.2 in
      (u.0, u.1, ap opened_record d ∙ z)

  pub met_raw : {r : TlsRawRecord} → record_met s ≡ accepted r → reading raw s ≡ accepted r
  unfolding record_met
  met_raw {r} e =
      let u = then_accepted (reading raw s) _ e in
      let v = then_accepted (first_of u.0.hdr.record_type u.0.«data».start (part_of s u.0.«data»))
      (λ x. accepted u.0) u.2 in
      let w : u.0 ≡ r = cc v.2 in
      u.1 ∙ ap accepted w
