-- Joined plaintext records where they lie: the stopping rule of `list/proofs/Stopping.antt`, a
-- record being what is found at a place. Assumes nothing.
use Prim.Native.Nat.{ℕ, zero, suc, ◌+◌, ◌≤◌}
use mathlib.Core.Path.{◌≡◌, refl, sym, ap, ◌∙◌}
use mathlib.Core.List.{List}
use native.Mathlib.Omega.{arith}
use lib.ListN.{length, drop, length-drop}
use Rattle.refusal.specs.Answers.{Answer, accepted, refused, giving, within}
use Rattle.refusal.specs.Refusals.{refusal}
use Rattle.refusal.specs.declared.Reason.TheVariants.{NoSuch}
use Rattle.refusal.specs.declared.Refusal.{Refusal}
use Rattle.refusal.proofs.Then.{not_both, then_accepted, within_accepted}
use Rattle.list.specs.Items.{place, or_no_such}
use Rattle.list.specs.Stopping.{Takes}
use Rattle.list.proofs.Walk.{Moves, rest, rest_on, first, go_on, none, none_after, got}
use Rattle.list.proofs.Stepping.{all_from}
use Rattle.list.proofs.Stopping.{moves_by, ends_in, stops_by}
use Rattle.record.specs.declared.TlsRawRecord.{TlsRawRecord}
use Rattle.record.proofs.Lies.{raw_lies, same_value}
use Rattle.record_open.proofs.Opened.{met_next, plain_is, met_raw}
use Rattle.record_open.specs.Plaintext.{as_first, plaintext, record_met, plain_record}
use Rattle.record_open.specs.declared.TlsPlaintext.{TlsPlaintext}
use Rattle.record_many.specs.Many.{plaintext_from, record_past, records_from, records_told, many, next_record}
use Rattle.record_many.specs.Many.{moved_records, records_after, ManyRecords}
use Rattle.list.specs.declared.steps.Counted.{Counted as TlsRecords}
use Rattle.record_many.specs.declared.TlsRecordsWalk.{TlsRecordsWalk}

abbrev pub behind : TlsPlaintext → ℕ
behind p = p.next

-- a record with its places counted from another place
abbrev pub shifted : ℕ → TlsPlaintext → TlsPlaintext
shifted at p =
    record {
      hdr = p.hdr;
      msg = record { start = at + p.msg.start; len = p.msg.len };
      count = p.count;
      dropped = p.dropped;
      next = at + p.next;
    }

-- where it ends, by the record without its counts
past_shifted : (at : ℕ) (a : Answer TlsPlaintext) (b : Answer TlsRawRecord)
    → giving behind a ≡ giving (λ (r : TlsRawRecord). r.next) b
    → giving behind (giving (shifted at) (within at a)) ≡ giving (λ (r : TlsRawRecord). at + r.next) (within at b)
past_shifted at (accepted p) (accepted r) e = let z : p.next ≡ r.next = same_value e in rw z
past_shifted at (accepted p) (refused r) e = absurd (not_both refl e)
past_shifted at (refused q) (accepted r) e =
    let d : ◌≡◌ {A = Answer ℕ} (refused q) (accepted r.next) = e in absurd (not_both refl (sym d))
past_shifted at (refused q) (refused r) e =
    let z : q ≡ r = let d : ◌≡◌ {A = Answer ℕ} (refused q) (refused r) = e in cc in rw z

pub past_by : (s : List ℕ) (at : ℕ) → record_past s at
    ≡ giving (λ (r : TlsRawRecord). at + r.next) (within at (record_met (drop at s)))
unfolding record_past plaintext_from
past_by s at = past_shifted at (plaintext (drop at s)) (record_met (drop at s)) (met_next (drop at s))

-- a record that is opened at a place lies within the bytes from there on
pub plain_lies : (s : List ℕ) (at : ℕ) {p : TlsPlaintext} → plaintext (drop at s) ≡ accepted p → (5 ≤ p.next)
    × (at + p.next ≤ length s) × (p.msg.start ≤ p.next)
unfolding plain_record
plain_lies s at {p} e =
    let r = plain_is (drop at s) e in
    let i = raw_lies (drop at s) r.1 in
    let n : r.0.next ≡ p.next = ap behind r.2 in
    let m : r.0.«data».start ≡ p.msg.start = ap (λ (x : TlsPlaintext). x.msg.start) r.2 in (
      omega (arith, i.past, n),
      omega (arith, i.past, i.inside, n, length-drop at s),
      omega (arith, i.holds, n, m),
    )

pub met_lies : (s : List ℕ) (at : ℕ) {r : TlsRawRecord} → record_met (drop at s) ≡ accepted r
    → at + r.next ≤ length s
met_lies s at {r} e =
    let i = raw_lies (drop at s) (met_raw (drop at s) e) in
    omega (arith, i.past, i.inside, length-drop at s)

-- a record takes five bytes at least
pub takes_five : (s : List ℕ) → Takes (plaintext_from s) behind 5 (length s)
unfolding plaintext_from
takes_five s = record { one = omega arith; on = on }
  where
    on : (at : ℕ) (x : TlsPlaintext) → plaintext_from s at ≡ accepted x → (at + 5 ≤ x.next) × (x.next ≤ length s)
    on at x e =
        let t = then_accepted (within at (plaintext (drop at s))) (λ p. accepted (shifted at p)) e in
        let i = plain_lies s at (within_accepted at (plaintext (drop at s)) t.1) in
        let z : at + t.0.next ≡ x.next = ap behind (same_value t.2) in
        (omega (arith, i.0, z), omega (arith, i.1, z))

pub by_records : (s : List ℕ) → Moves (plaintext_from s) behind (length s)
by_records s = moves_by (takes_five s)

-- what is left of the records at a place
abbrev pub left : List ℕ → ℕ → List TlsPlaintext
left s at = rest (plaintext_from s) behind (length s) at

moved_on : (s : List ℕ) (w : TlsRecordsWalk) {p : TlsPlaintext} → plaintext_from s w.next ≡ accepted p
    → moved_records s w ≡ record { next = p.next }
unfolding moved_records
moved_on s w e = rw e

moved_not : (s : List ℕ) (w : TlsRecordsWalk) {r : Refusal} → plaintext_from s w.next ≡ refused r
    → moved_records s w ≡ w
unfolding moved_records
moved_not s w e = rw e

module _ (s : List ℕ) where
  -- the walk after k calls stands where the record at the place k is found
  meets : (k : ℕ) → next_record s (records_after k s) ≡ place k (records_from s 0)
  unfolding records_after next_record
  meets zero = rw (all_from (by_records s) 0) (sym (first (by_records s) 0))
  meets (suc k) = go (plaintext_from s (records_after k s).next) refl (meets k)
    where
      go : (a : Answer TlsPlaintext) → plaintext_from s (records_after k s).next ≡ a
          → or_no_such (plaintext_from s (records_after k s).next) ≡ place k (records_from s 0)
          → or_no_such (plaintext_from s (moved_records s (records_after k s)).next) ≡ place (suc k) (records_from s 0)
      go (accepted p) e ih =
          let q : place k (left s 0) ≡ accepted p = rw (← (all_from (by_records s) 0)) (sym ih ∙ rw e) in
          rw (moved_on s (records_after k s) e, all_from (by_records s) 0) (sym (go_on (by_records s) k 0 q))
      go (refused r) e ih =
          let q : place k (records_from s 0) ≡ refused (refusal NoSuch 0 0) = sym ih ∙ rw e in
          rw (moved_not s (records_after k s) e, e) (sym (none_after k (records_from s 0) q))

  tells : (k : ℕ) (p : TlsPlaintext) → place k (records_from s 0) ≡ accepted p
      → records_after (suc k) s ≡ record { next = p.next }
  unfolding records_after next_record
  tells k p e = moved_on s (records_after k s) (got (plaintext_from s (records_after k s).next) (meets k ∙ e))

  stays : (w : TlsRecordsWalk) (r : Refusal) → next_record s w ≡ refused r → (r ≡ refusal NoSuch 0 0)
      × (moved_records s w ≡ w)
  unfolding next_record
  stays w r e = let n = none (plaintext_from s w.next) e in (n.2, moved_not s w n.1)

  first_of : (a : Answer TlsPlaintext) {x : TlsRecords} → plaintext_from s 0 ≡ a
      → giving (λ p. records_told s 0) (as_first 0 a) ≡ accepted x → (1 ≤ x.count) × (x.end ≤ length s)
  unfolding records_told
  first_of (accepted p) {x} e d =
      let z : records_told s 0 ≡ x = same_value d in
      let i = ends_in (takes_five s) (length s) 0 (omega arith) in
      let l : length (records_from s 0) ≡ 1 + length (left s p.next) =
      rw (all_from (by_records s) 0, rest_on (by_records s) 0 e) (omega arith) in
      rw (← z) (omega (arith, l), i.0)
  first_of (refused r) e d = absurd (not_both d refl)

pub every_many : (s : List ℕ) → ManyRecords s
unfolding many
every_many s = record {
  stopping = stops_by (takes_five s);
  meets = meets s;
  tells = tells s;
  stays = stays s;
  some = λ x e. first_of s (plaintext_from s 0) refl e;
}
