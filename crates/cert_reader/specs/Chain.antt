-- The reader that holds the lent list of certificates and its place: what it hands out, and where
-- it moves. RULES 10.6; RFC 5246 7.4.2. Of every list `proofs/Same.antt` shows that it hands out
-- the items of the list (`list/specs/Items.antt`).
use Rattle.std.specs.Prelude.{◌≡◌}
use Rattle.std.specs.Borrow.{Bor}
use Rattle.refusal.specs.{ℕ, zero, suc, List, refusal, Answer, accepted, refused, NoSuch, Refusal}
use Rattle.wire.specs.{Part}
use Rattle.field.specs.{sized}
use Rattle.list.specs.{item_from, items, place}
use Rattle.cert_reader.specs.declared.TlsCertificateReader.{TlsCertificateReader}

-- before the first certificate
abbrev pub at_front : Bor (List ℕ) → TlsCertificateReader
at_front l = record { list = l; at = 0 }

-- the certificate at the reader's place
abbrev pub cert_of : TlsCertificateReader → Answer Part
cert_of r = item_from (sized 3) r.list.now r.at

-- the place past what was found, or the one where it was looked for
abbrev pub past_or : ℕ → Answer Part → ℕ
past_or at (accepted p) = p.next
past_or at (refused r) = at

abbrev pub moved_on_of : TlsCertificateReader → TlsCertificateReader
moved_on_of r = record { list = r.list; at = past_or r.at (cert_of r) }

-- the reader after so many moves
unfoldable pub reader_after : ℕ → Bor (List ℕ) → TlsCertificateReader
reader_after zero l = at_front l
reader_after (suc k) l = moved_on_of (reader_after k l)

pub record SameItems (l : Bor (List ℕ)) : Type 0 where
  -- the reader hands out the items of the list, each at its place, and past the last one NoSuch
  pub meets : (k : ℕ) → cert_of (reader_after k l) ≡ place k (items (sized 3) l.now)
  -- it holds the list that it was lent
  pub keeps : (k : ℕ) → (reader_after k l).list ≡ l
  -- a reader that has no certificate says NoSuch and stays, wherever it stands
  pub stays : (r : TlsCertificateReader) (x : Refusal) → cert_of r ≡ refused x → (x ≡ refusal NoSuch 0 0) × (moved_on_of r ≡ r)
