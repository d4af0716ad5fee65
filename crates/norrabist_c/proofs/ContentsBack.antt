-- The messages of a content are those of their number and the bytes. Assumes nothing.
use Prim.Native.Nat.{ℕ, zero, suc, ◌+◌, ◌-◌, ◌*◌, ◌<◌, ◌≤◌}
use mathlib.Core.Path.{◌≡◌, refl, sym, ap, ◌∙◌}
use mathlib.Core.Bool.{false, ◌&&◌}
use mathlib.Core.List.{List, [], ◌∷◌, map}
use mathlib.Core.Logic.{◌⊎◌, inl, inr}
use native.Mathlib.Omega.{arith}
use native.Mathlib.Nat.{add-zero, zero-add}
use borrow.Author.Tests.{le-leb}
use lib.Dec.{leb}
use lib.ListN.{length, get_or}
use lib.Seq.{length-take-le, take-length}
use Rattle.refusal.specs.Answers.{Answer, accepted, refused, then, giving, within}
use Rattle.refusal.specs.Refusals.{refusal}
use Rattle.refusal.specs.declared.Reason.TheVariants.{Incomplete, LengthValue}
use Rattle.refusal.specs.declared.Refusal.{Refusal}
use Rattle.refusal.proofs.Then.{either, not_both, then_accepted, within_accepted}
use Rattle.wire.specs.Numbers.{be, number_at}
use Rattle.wire.specs.Parts.{part_at, part_of, pick}
use Rattle.wire.specs.declared.number.Number.{Number}
use Rattle.wire.specs.declared.view.Part.{Part}
use Rattle.wire.proofs.Numbers.{number_is, number_value}
use Rattle.wire.proofs.Parts.{fits, part_in}
use Rattle.field.specs.Fields.{step}
use Rattle.list.specs.Items.{go_on_of, items_from, place}
use Rattle.list.proofs.Walk.{first, go_on, got, none_after, place_below}
use Rattle.envelope.specs.Opening.{Met, met_at}
use Rattle.content.specs.Contents.{alert_at, application_data, cipher_spec_at, heartbeat, heartbeat_in, one_or_two}
use Rattle.content.specs.declared.TlsMessage.TheVariants.{Alert, ApplicationData, ChangeCipherSpec, Heartbeat}
use Rattle.content.specs.declared.TlsMessageAlert.{TlsMessageAlert}
use Rattle.content.specs.declared.TlsMessageHeartbeat.{TlsMessageHeartbeat}
use Rattle.content_walk.specs.ContentWalks.{alert_found, application_found, cipher_spec_found, found_at, handshake_found}
use Rattle.content_walk.specs.ContentWalks.{heartbeat_found, is_single, messages_behind, messages_of}
use Rattle.content_walk.specs.declared.TlsFound.{TlsFound}
use Rattle.content_walk.proofs.Found.{alert_is, cipher_spec_is, found_14, found_15, found_16, found_17, found_18, picked}
use Rattle.content_walk.proofs.Walking.{all_found, all_left, behind, behind_none, by_messages, first_on, left}
use Rattle.norrabist_c.specs.Contents.{ContentsBack, all_of, as_found, heartbeat_from, heartbeat_told}

-- handshake messages, one by one
handshakes_from : (s : List ℕ) (n at : ℕ)
    → items_from n (found_at 0x16 s) behind at
    ≡ map as_found (items_from n (met_at s) (λ (x : Met). x.head.next) at)
unfolding items_from handshake_found
handshakes_from s zero at = refl
handshakes_from s (suc n) at = rw (found_16 s at) (go (λ k. handshakes_from s n k) (met_at s at))
  where
    go : ((k : ℕ) → items_from n (found_at 0x16 s) behind k
        ≡ map as_found (items_from n (met_at s) (λ (x : Met). x.head.next) k)) → (a : Answer Met)
        → go_on_of (giving as_found a) (λ x. items_from n (found_at 0x16 s) behind x.next)
        ≡ map as_found (go_on_of a (λ x. items_from n (met_at s) (λ (x : Met). x.head.next) x.head.next))
    go ih (refused r) = refl
    go ih (accepted x) = ap (λ (xs : List TlsFound). as_found x ∷ xs) (ih x.head.next)

-- where each takes just w bytes, the message at a place begins as many times w bytes later
module _ (t w : ℕ) (s : List ℕ) (f : is_single t ≡ false) (start : ℕ → ℕ) (begins : start 0 ≡ 0)
    (steps : (k : ℕ) → start (suc k) ≡ start k + w)
    (each : (at : ℕ) (x : TlsFound) → found_at t s at ≡ accepted x → x.next ≡ at + w) where
  stands : (k : ℕ) {x : TlsFound} → place k (left t s 0) ≡ accepted x → found_at t s (start k) ≡ accepted x
  stands zero {x} e = rw begins (got (found_at t s 0) (sym (first (by_messages t s f) 0) ∙ e))
  stands (suc k) {x} e = go (λ y p. stands k p) (either (place k (left t s 0)))
    where
      go : ((y : TlsFound) → place k (left t s 0) ≡ accepted y → found_at t s (start k) ≡ accepted y)
          → ((y : TlsFound) × (place k (left t s 0) ≡ accepted y))
          ⊎ ((r : Refusal) × (place k (left t s 0) ≡ refused r))
          → found_at t s (start (suc k)) ≡ accepted x
      go ih (inl (y, p)) =
          let z : y.next ≡ start (suc k) = each (start k) y (ih y p) ∙ sym (steps k) in
          rw (← z) (got (found_at t s y.next) (sym (go_on (by_messages t s f) k 0 p) ∙ e))
      go ih (inr (r, p)) = absurd (not_both e (none_after k (left t s 0) p))

  -- and there is one at every place below the count
  at_place : (k : ℕ) → k < length (messages_of t s) → (x : TlsFound)
      × (place k (messages_of t s) ≡ accepted x) × (found_at t s (start k) ≡ accepted x)
  at_place k h =
      let b = place_below k (messages_of t s) h in
      (b.0, b.1, stands k (rw (← (all_left t s f)) b.1))

-- a message of one byte, and one of two
abbrev cipher_spec : ℕ → TlsFound
cipher_spec at = record { body = record { start = at; len = 1 }; next = at + 1; message = ChangeCipherSpec }

abbrev alert_of : List ℕ → ℕ → TlsFound
alert_of s at =
    record {
      body = record { start = at; len = 2 };
      next = at + 2;
      message = Alert (record { severity = get_or s at 0; code = get_or s (at + 1) 0 });
    }

module _ (s : List ℕ) where
  cipher_found : (at : ℕ) (x : TlsFound) → found_at 0x14 s at ≡ accepted x → x ≡ cipher_spec at
  unfolding cipher_spec_found
  cipher_found at x e =
      let t = then_accepted (cipher_spec_at s at)
      (λ n. accepted (record { body = record { start = at; len = 1 }; next = n.next; message = ChangeCipherSpec }))
      (sym (found_14 s at) ∙ e) in
      let d : record { body = record { start = at; len = 1 }; next = t.0.next; message = ChangeCipherSpec } ≡ x =
      cc t.2 in
      sym d ∙ rw (cipher_spec_is s at t.1).1

  -- a number of one byte is that byte
  one_byte : (at : ℕ) {l : Number} → number_at 1 s at ≡ accepted l → l.value ≡ get_or s at 0
  unfolding be
  one_byte at e = sym (number_value 1 s at e) ∙ simp (zero-add, add-zero)

  same_alert : {at : ℕ} {a b : TlsMessageAlert} → a ≡ b
      → ◌≡◌ {A = TlsFound} (record { body = record { start = at; len = 2 }; next = at + 2; message = Alert a })
      (record { body = record { start = at; len = 2 }; next = at + 2; message = Alert b })
  same_alert e = rw e

  alert_found_lem : (at : ℕ) (x : TlsFound) → found_at 0x15 s at ≡ accepted x → x ≡ alert_of s at
  unfolding alert_found
  alert_found_lem at x e =
      let t = then_accepted (alert_at s at)
      (λ a. accepted (record { body = record { start = at; len = 2 }; next = at + 2; message = Alert a }))
      (sym (found_15 s at) ∙ e) in
      let d : record { body = record { start = at; len = 2 }; next = at + 2; message = Alert t.0 } ≡ x =
      cc t.2 in
      let i = alert_is s at t.1 in
      sym d ∙ same_alert (i.4 ∙ rw (one_byte at i.2, one_byte (at + 1) i.3))

  cipher_specs_lem : (k : ℕ) → k < length (messages_of 0x14 s) → place k (messages_of 0x14 s) ≡ accepted (cipher_spec k)
  cipher_specs_lem k h =
      let p = at_place 0x14 1 s refl (λ i. i) refl (λ i. omega arith)
      (λ at x e. ap (λ (y : TlsFound). y.next) (cipher_found at x e)) k h in
      p.1 ∙ ap accepted (cipher_found k p.0 p.2)

  alerts : (k : ℕ) → k < length (messages_of 0x15 s) → place k (messages_of 0x15 s) ≡ accepted (alert_of s (k * 2))
  alerts k h =
      let p = at_place 0x15 2 s refl (λ i. i * 2) refl (λ i. omega arith)
      (λ at x e. ap (λ (y : TlsFound). y.next) (alert_found_lem at x e)) k h in
      p.1 ∙ ap accepted (alert_found_lem (k * 2) p.0 p.2)

  abbrev all_data : TlsFound
  all_data = all_of (length s) (ApplicationData (record { blob = record { start = 0; len = length s } }))

  all_found_17 : found_at 0x17 s 0 ≡ accepted all_data
  unfolding application_found application_data
  all_found_17 = found_17 s 0

  application : messages_of 0x17 s ≡ all_data ∷ []
  application =
      first_on 0x17 s all_found_17
      ∙ ap (λ (xs : List TlsFound). all_data ∷ xs) (behind_none 0x17 s refl (length s))

-- a heartbeat of which the numbers are known
abbrev made : List ℕ → ℕ → ℕ → ℕ → TlsMessageHeartbeat
made b t n at =
    record {
      heartbeat_type = t;
      payload_len = n;
      payload = record { start = at; len = n };
      padding = record { start = at + n; len = length b - (at + n) };
    }

-- type and length take three bytes
of_three : (b : List ℕ) {h : TlsMessageHeartbeat} → heartbeat b ≡ accepted h
    → h ≡ heartbeat_from (length b) (heartbeat_told (accepted h))
unfolding heartbeat
of_three b {h} e =
    let t = then_accepted (number_at 1 b 0)
    (λ t. then (number_at 2 b t.next) (λ n.
    pick (one_or_two t.value && leb (n.next + n.value + 16) (length b))
    (accepted (made b t.value n.value n.next)) (refused (refusal LengthValue 0 0)))) e in
    let u = then_accepted (number_at 2 b t.0.next)
    (λ n. pick (one_or_two t.0.value && leb (n.next + n.value + 16) (length b))
    (accepted (made b t.0.value n.value n.next)) (refused (refusal LengthValue 0 0))) t.2 in
    let p = picked (one_or_two t.0.value && leb (u.0.next + u.0.value + 16) (length b))
    (accepted (made b t.0.value u.0.value u.0.next)) (refusal LengthValue 0 0) u.2 in
    let y : t.0.next ≡ 1 = ap (λ (l : Number). l.next) (number_is 1 b 0 t.1).is in
    let x : u.0.next ≡ t.0.next + 2 = ap (λ (l : Number). l.next) (number_is 2 b t.0.next u.1).is in
    let z : u.0.next ≡ 3 = omega (arith, x, y) in
    let d : made b t.0.value u.0.value u.0.next ≡ h = cc p.1 in
    rw (← d) (ap (made b t.0.value u.0.value) z)

module _ (s : List ℕ) where
  -- the first n bytes
  front_length : (n : ℕ) → n ≤ length s → length (part_of s (record { start = 0; len = n })) ≡ n
  front_length n h = rw (le-leb (0 + n) (length s) (omega arith)) (length-take-le n s h)

  all_bytes : part_of s (record { start = 0; len = length s }) ≡ s
  all_bytes = rw (le-leb (0 + length s) (length s) (omega arith)) (take-length s)

  parts : (n : ℕ) (h : TlsMessageHeartbeat) → heartbeat_in n s ≡ accepted h
      → h ≡ heartbeat_from n (heartbeat_told (accepted h))
  unfolding heartbeat_in step
  parts n h e =
      let t = then_accepted (part_at Incomplete s 0 n)
      (λ p. within p.view.start (heartbeat (part_of s p.view))) e in
      let f = fits Incomplete s 0 n t.1 in
      let q = within_accepted t.0.view.start (heartbeat (part_of s t.0.view)) t.2 in
      let l : length (part_of s t.0.view) ≡ n =
      ap (λ (p : Part). length (part_of s p.view)) f.is ∙ front_length n (omega (arith, f.inside)) in
      of_three (part_of s t.0.view) q ∙ ap (λ (m : ℕ). heartbeat_from m (heartbeat_told (accepted h))) l

  -- those of all the bytes
  all_in : heartbeat_in (length s) s ≡ within 0 (heartbeat s)
  unfolding heartbeat_in step
  all_in = rw (part_in Incomplete s 0 (length s) (omega arith), all_bytes)

  heartbeats : messages_of 0x18 s
      ≡ go_on_of (giving (λ h. all_of (length s) (Heartbeat h)) (heartbeat_in (length s) s)) (λ x. [])
  unfolding heartbeat_found
  heartbeats = rw (found_18 s 0, all_in) (go (heartbeat s))
    where
      go : (a : Answer TlsMessageHeartbeat)
          → go_on_of (giving (λ h. all_of (length s) (Heartbeat h)) a) (λ x. messages_behind 0x18 s x.next)
          ≡ go_on_of (giving (λ h. all_of (length s) (Heartbeat h)) (within 0 a)) (λ x. [])
      go (refused r) = refl
      go (accepted h) =
          ap (λ (xs : List TlsFound). all_of (length s) (Heartbeat h) ∷ xs) (behind_none 0x18 s refl (length s))

pub contents_back : (s : List ℕ) → ContentsBack s
contents_back s =
    record {
      handshakes = all_found 0x16 s refl ∙ handshakes_from s (length s) 0;
      cipher_specs = cipher_specs_lem s;
      alerts = alerts s;
      application = application s;
      heartbeats = heartbeats s;
      heartbeat_parts = parts s;
    }
