-- A ChangeCipherSpec and an alert that were written: what reading finds of them, by themselves and
-- in a record. Assumes nothing.
use Prim.Native.Nat.{ℕ, zero, suc, ◌-◌, ◌<◌}
use mathlib.Core.Path.{◌≡◌, refl, sym, ◌∙◌}
use mathlib.Core.List.{List, [], ◌∷◌, ◌++◌}
use mathlib.Core.Bool.{Bool, true, false}
use native.Mathlib.Omega.{arith}
use native.Mathlib.Nat.{zero-add}
use borrow.Author.Tests.{eqb-true}
use lib.Dec.{eqb}
use lib.ListN.{length}
use Rattle.refusal.specs.Answers.{accepted}
use Rattle.refusal.specs.declared.Reason.TheVariants.{Incomplete}
use Rattle.wire.specs.Parts.{part_at}
use Rattle.wire.specs.Numbers.{Bytes, be, number_at}
use Rattle.wire.proofs.Parts.{part_in}
use Rattle.wire.proofs.Numbers.{number_got}
use Rattle.list.specs.Items.{items_from}
use Rattle.list.specs.Stopping.{end_of}
use Rattle.content.specs.Contents.{one_or_two, cipher_spec_at, alert_at, change_cipher_spec_of, alert_first}
use Rattle.content.specs.declared.TlsMessage.{TlsMessage}
use Rattle.content.specs.declared.TlsMessage.TheVariants.{ChangeCipherSpec, Alert}
use Rattle.content.specs.declared.TlsMessageAlert.{TlsMessageAlert}
use Rattle.content_walk.specs.ContentWalks.{cipher_spec_found, alert_found, found_at, messages_behind}
use Rattle.record.specs.declared.TlsRecordHeader.{TlsRecordHeader}
use Rattle.record_open.specs.Plaintext.{is_opened, contents, plain_record, plaintext, opened_first}
use Rattle.record_open.proofs.Opened.{first_got}
use Rattle.write_content.specs.ContentTexts.{cipher_spec_text, alert_text, content_text}
use Rattle.claim_wayback.proofs.Wrote.{picked}
use Rattle.claim_wayback.specs.WayBack.{InRecord, Alone}

-- the byte at the front, and the one behind it
first_byte : (x : ℕ) (rest : List ℕ) → number_at 1 (x ∷ rest) 0 ≡ accepted (record { value = x; next = 1 })
unfolding be
first_byte x rest = rw (number_got 1 (x ∷ rest) 0 (part_in Incomplete (x ∷ rest) 0 1 (omega arith)), zero-add x)

second_byte : (x y : ℕ) (rest : List ℕ) → number_at 1 (x ∷ y ∷ rest) 1 ≡ accepted (record { value = y; next = 2 })
unfolding be
second_byte x y rest =
    rw (number_got 1 (x ∷ y ∷ rest) 1 (part_in Incomplete (x ∷ y ∷ rest) 1 1 (omega arith)), zero-add y)

cipher_spec_at_lem : (rest : List ℕ) → cipher_spec_at (1 ∷ rest) 0 ≡ accepted (record { value = 1; next = 1 })
unfolding cipher_spec_at
cipher_spec_at_lem rest = rw (first_byte 1 rest)

alert_at_lem : (a : TlsMessageAlert) (rest : List ℕ) → one_or_two a.severity ≡ true
    → alert_at (a.severity ∷ a.code ∷ rest) 0 ≡ accepted a
unfolding alert_at
alert_at_lem a rest y = rw (first_byte a.severity (a.code ∷ rest), y, second_byte a.severity a.code rest)

-- which bytes were written
spec_wrote : (s : List ℕ) {t : List ℕ} → content_text s ChangeCipherSpec ≡ accepted t → 1 ∷ [] ≡ t
unfolding content_text cipher_spec_text
spec_wrote s e = cc

alert_wrote : (s : List ℕ) (a : TlsMessageAlert) {t : List ℕ} → content_text s (Alert a) ≡ accepted t
    → (one_or_two a.severity ≡ true) × (a.severity ∷ a.code ∷ [] ≡ t)
unfolding content_text alert_text
alert_wrote s a e = picked (one_or_two a.severity) _ e

-- a level is a byte
level_byte : (n : ℕ) → one_or_two n ≡ true → n < 256
level_byte n y = go (eqb n 1) (eqb n 2) refl refl
  where
    go : (b c : Bool) → eqb n 1 ≡ b → eqb n 2 ≡ c → n < 256
    go true c p q = omega (arith, eqb-true n 1 p)
    go false true p q = omega (arith, eqb-true n 2 q)
    go false false p q =
        let z : ◌≡◌ {A = Bool} false true = sym (rw (p, q)) ∙ y in
        let w : ◌≡◌ {A = ℕ} 0 1 = cc in omega arith

spec_bytes : Bytes (1 ∷ [])
spec_bytes zero = omega arith
spec_bytes (suc i) = omega arith

alert_bytes : (x y : ℕ) → x < 256 → y < 256 → Bytes (x ∷ y ∷ [])
alert_bytes x y p q zero = p
alert_bytes x y p q (suc zero) = q
alert_bytes x y p q (suc (suc i)) = omega arith

-- a content that is one message, in its record
alone : (hdr : TlsRecordHeader) (p t rest : List ℕ) (m : TlsMessage) → InRecord hdr p t rest
    → is_opened hdr.record_type ≡ true
    → found_at hdr.record_type p 0 ≡ accepted (record {
      body = record { start = 0; len = length p };
      next = length p;
      message = m;
    })
    → messages_behind hdr.record_type p (length p) ≡ []
    → Alone hdr.record_type hdr.version (length p) m (t ++ rest)
unfolding plaintext opened_first contents plain_record end_of
alone hdr p t rest m i o f g =
    let l : length p - length p ≡ 0 = omega arith in
    let h = first_got hdr.record_type 5 p o f in
    record { counted = rw (i.read, i.bytes, h, f, g, l); opened = rw (i.read, i.bytes, h, f, g, l) }

-- a ChangeCipherSpec that was written
module _ (s t : List ℕ) (e : content_text s ChangeCipherSpec ≡ accepted t) where
  pub spec_read : (rest : List ℕ) → (length t ≡ 1) × (change_cipher_spec_of (t ++ rest) ≡ accepted ChangeCipherSpec)
  unfolding change_cipher_spec_of
  spec_read rest = rw (← spec_wrote s e) (refl, rw (cipher_spec_at_lem rest))

  pub spec_are_bytes : Bytes t
  spec_are_bytes = rw (← spec_wrote s e) spec_bytes

  pub spec_alone : (hdr : TlsRecordHeader) (text rest : List ℕ) → hdr.record_type ≡ 0x14 → InRecord hdr t text rest
      → Alone 0x14 hdr.version 1 ChangeCipherSpec (text ++ rest)
  unfolding found_at cipher_spec_found cipher_spec_at number_at part_at be items_from
  spec_alone hdr text rest k i =
      rw k at (alone hdr (1 ∷ []) text rest ChangeCipherSpec (rw (spec_wrote s e) i) (rw k) (rw k) (rw k))

-- an alert
module _ (s : List ℕ) (a : TlsMessageAlert) (t : List ℕ) (e : content_text s (Alert a) ≡ accepted t) where
  pub alert_read : (rest : List ℕ) → (length t ≡ 2) × (alert_first (t ++ rest) ≡ accepted (Alert a))
  unfolding alert_first
  alert_read rest = let (y, w) = alert_wrote s a e in rw (← w) (refl, rw (alert_at_lem a rest y))

  pub alert_are_bytes : a.code < 256 → Bytes t
  alert_are_bytes h =
      let (y, w) = alert_wrote s a e in
      rw (← w) (alert_bytes a.severity a.code (level_byte a.severity y) h)

  pub alert_alone : (hdr : TlsRecordHeader) (text rest : List ℕ) → hdr.record_type ≡ 0x15 → InRecord hdr t text rest
      → Alone 0x15 hdr.version 2 (Alert a) (text ++ rest)
  unfolding found_at alert_found items_from
  alert_alone hdr text rest k i =
      let (y, w) = alert_wrote s a e in
      rw k at (alone hdr (a.severity ∷ a.code ∷ []) text rest (Alert a) (rw w i) (rw k) (rw (k, alert_at_lem a [] y))
      (rw k (unfold alert_at number_at part_at in refl)))
