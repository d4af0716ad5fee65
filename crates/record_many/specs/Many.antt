-- Joined plaintext records, until the first that is refused: RULES 6.20. The stopping rule is that
-- of `list/specs/Stopping.antt`, a record being what is found at a place.
use Rattle.std.specs.Prelude.{◌+◌, ◌≤◌, ◌≡◌}
use Rattle.refusal.specs.{ℕ, zero, suc, List, drop, length, refusal, Answer, accepted, refused, giving, within, NoSuch, Refusal}
use Rattle.list.specs.{items_from, place, or_no_such, end_of, Stops}
use Rattle.record_open.specs.{as_first, plaintext, TlsPlaintext}
use Rattle.list.specs.declared.steps.Counted.{Counted as TlsRecords}
use Rattle.record_many.specs.declared.TlsRecordsWalk.{TlsRecordsWalk}

-- the record that begins at a place, opened, its places counted from the front of all
unfoldable pub plaintext_from : List ℕ → ℕ → Answer TlsPlaintext
plaintext_from s at =
    giving (λ p. record {
      hdr = p.hdr;
      msg = record { start = at + p.msg.start; len = p.msg.len };
      count = p.count;
      dropped = p.dropped;
      next = at + p.next;
    })
    (within at (plaintext (drop at s)))

-- where it ends
unfoldable pub record_past : List ℕ → ℕ → Answer ℕ
record_past s at = giving (λ p. p.next) (plaintext_from s at)

-- all of them from a place on, until one is refused: a record with dropped bytes is opened, and
-- what stands behind it is read
abbrev pub records_from : List ℕ → ℕ → List TlsPlaintext
records_from s at = items_from (length s) (plaintext_from s) (λ p. p.next) at

-- how many, and where they end
unfoldable pub records_told : List ℕ → ℕ → TlsRecords
records_told s at = record { count = length (records_from s at); end = end_of (λ p. p.next) (records_from s at) at }

-- the first must open: its refusal is the answer, Complete for Incomplete
unfoldable pub many : List ℕ → Answer TlsRecords
many s = giving (λ p. records_told s 0) (as_first 0 (plaintext_from s 0))

-- the record that a walk hands back
unfoldable pub next_record : List ℕ → TlsRecordsWalk → Answer TlsPlaintext
next_record s w = or_no_such (plaintext_from s w.next)

abbrev pub record_on_to : TlsRecordsWalk → Answer TlsPlaintext → TlsRecordsWalk
record_on_to w (accepted p) = record { next = p.next }
record_on_to w (refused r) = w

-- and the walk moved on
unfoldable pub moved_records : List ℕ → TlsRecordsWalk → TlsRecordsWalk
moved_records s w = record_on_to w (plaintext_from s w.next)

-- the walk after so many calls
unfoldable pub records_after : ℕ → List ℕ → TlsRecordsWalk
records_after zero s = record { next = 0 }
records_after (suc k) s = moved_records s (records_after k s)

-- what is shown of all joined records
pub record ManyRecords (s : List ℕ) : Type 0 where
  -- the laws of the stopping rule, a record taking five bytes at least
  pub stopping : Stops (plaintext_from s) (λ p. p.next) 5 (length s)
  -- each call of the walk hands back the record at its place, and past the last one NoSuch
  pub meets : (k : ℕ) → next_record s (records_after k s) ≡ place k (records_from s 0)
  pub tells : (k : ℕ) (p : TlsPlaintext) → place k (records_from s 0) ≡ accepted p → records_after (suc k) s ≡ record { next = p.next }
  pub stays : (w : TlsRecordsWalk) (r : Refusal) → next_record s w ≡ refused r → (r ≡ refusal NoSuch 0 0) × (moved_records s w ≡ w)
  -- where there is an answer, there is a record at least, and it stopped within the bytes
  pub some : (x : TlsRecords) → many s ≡ accepted x → (1 ≤ x.count) × (x.end ≤ length s)
