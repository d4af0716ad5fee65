-- A value that was read is the one that its told lengths make. Assumes nothing.
use Prim.Native.Nat.{ℕ, ◌+◌, ◌-◌, ◌*◌, ◌/◌, ◌<◌, ◌≤◌}
use mathlib.Core.Path.{◌≡◌, sym, ap, ap₂, ◌∙◌}
use mathlib.Core.Logic.{⊎_elim}
use mathlib.Core.Bool.{true, false}
use mathlib.Core.List.{List}
use native.Mathlib.Omega.{arith}
use native.Mathlib.Nat.{mul_comm}
use lib.ListN.{length, length-append}
use Rattle.std.specs.Prelude.{Some}
use Rattle.refusal.specs.Answers.{accepted}
use Rattle.refusal.specs.declared.Reason.TheVariants.{Incomplete}
use Rattle.wire.specs.Numbers.{Bytes, be}
use Rattle.wire.specs.Parts.{part_of, opt_part_of, OptView}
use Rattle.wire.specs.declared.view.Part.{Part}
use Rattle.wire.proofs.Parts.{part_in}
use Rattle.wire.proofs.Numbers.{length_bytes, number_got}
use Rattle.field.specs.Fields.{sized, rule_of}
use Rattle.field.specs.declared.RuleName.TheVariants.{Plain}
use Rattle.field.proofs.Rules.{vector_lies}
use Rattle.grammar.specs.Forms.{reading}
use Rattle.grammar.specs.Splits.{join, views_of}
use Rattle.list.specs.Items.{item_from, number_place}
use Rattle.list.proofs.Fields.{item_got}
use Rattle.list.proofs.Fixed.{count_of, number_below, number_past}
use Rattle.read_certs.specs.Certs.{certificate, request, status}
use Rattle.read_certs.specs.declared.certificate.TlsCertificateContents.{TlsCertificateContents}
use Rattle.read_certs.specs.declared.request.TlsCertificateRequestContents.{TlsCertificateRequestContents}
use Rattle.read_certs.specs.declared.status.TlsCertificateStatusContents.{TlsCertificateStatusContents}
use Rattle.read_certs.proofs.Whole.{splits_certificate_lem, splits_request_lem, splits_status_lem}
use Rattle.read_others.specs.Body.{next_protocol, session_ticket}
use Rattle.read_others.specs.declared.next_protocol.TlsNextProtocolContent.{TlsNextProtocolContent}
use Rattle.read_others.specs.declared.ticket.TlsNewSessionTicketContent.{TlsNewSessionTicketContent}
use Rattle.read_others.proofs.Tickets.{accepted_is}
use Rattle.read_others.proofs.Whole.{splits_next_protocol_lem}
use Rattle.norrabist_c.specs.Bodies.{certificate_told, protocol_told, request_told, status_told, ticket_told}
use Rattle.norrabist_c.specs.BodiesBack.{BodiesBack, ListsBack, certificate_from, part_from}
use Rattle.norrabist_c.specs.BodiesBack.{protocol_from, request_from, status_from, ticket_from}
use Rattle.norrabist_c.specs.Lists.{item_told}
use Rattle.norrabist_c.proofs.BodyParts.{by_form, no_pairs}
use Rattle.grammar.proofs.Forms.{made_of}

all_three : {A : Type 0} (f : ℕ → ℕ → ℕ → A) {k l m x y z : ℕ} → k ≡ x → l ≡ y → m ≡ z → f k l m ≡ f x y z
all_three f p q r = rw (p, q, r)

module _ (s : List ℕ) (b : Bytes s) where
  chain : (c : TlsCertificateContents) → reading certificate s ≡ accepted c
      → c ≡ certificate_from (certificate_told (accepted c))
  unfolding views_of join
  chain c e =
      let m = made_of (splits_certificate_lem s b) e in
      let l : c.cert_chain.len ≡ length (part_of s c.cert_chain) =
      ap (λ (x : TlsCertificateContents). x.cert_chain.len) m in
      let a : c.cert_chain.start ≡ 3 = ap (λ (x : TlsCertificateContents). x.cert_chain.start) m in
      let t : c.tail ≡ 3 + c.cert_chain.len = ap (λ (x : TlsCertificateContents). x.tail) m
      ∙ simp (length-append, length_bytes) (omega (arith, l)) in
      ap₂ (λ (x y : ℕ). record { cert_chain = record { start = x; len = c.cert_chain.len }; tail = y }) a t

  response : (c : TlsCertificateStatusContents) → reading status s ≡ accepted c
      → c ≡ status_from (status_told (accepted c))
  unfolding views_of join
  response c e =
      let m = made_of (splits_status_lem s b) e in
      let l : c.blob.len ≡ length (part_of s c.blob) = ap (λ (x : TlsCertificateStatusContents). x.blob.len) m in
      let a : c.blob.start ≡ 4 = ap (λ (x : TlsCertificateStatusContents). x.blob.start) m
      ∙ simp length_bytes in
      let t : c.tail ≡ 4 + c.blob.len = ap (λ (x : TlsCertificateStatusContents). x.tail) m
      ∙ simp (length-append, length_bytes) (omega (arith, l)) in
      ap₂ (λ (x y : ℕ). record {
        status_type = c.status_type;
        blob = record { start = x; len = c.blob.len };
        tail = y;
      }) a t

  protocol : (c : TlsNextProtocolContent) → reading next_protocol s ≡ accepted c
      → c ≡ protocol_from (protocol_told (accepted c))
  unfolding views_of join
  protocol c e =
      let m = made_of (splits_next_protocol_lem s b) e in
      let k : c.selected_protocol.len ≡ length (part_of s c.selected_protocol) =
      ap (λ (x : TlsNextProtocolContent). x.selected_protocol.len) m in
      let l : c.padding.len ≡ length (part_of s c.padding) =
      ap (λ (x : TlsNextProtocolContent). x.padding.len) m in
      let z : c.selected_protocol.start ≡ 1 =
      ap (λ (x : TlsNextProtocolContent). x.selected_protocol.start) m in
      let a : c.padding.start ≡ 2 + c.selected_protocol.len =
      ap (λ (x : TlsNextProtocolContent). x.padding.start) m
      ∙ simp (length-append, length_bytes) (omega (arith, k)) in
      let t : c.tail ≡ 2 + c.selected_protocol.len + c.padding.len =
      ap (λ (x : TlsNextProtocolContent). x.tail) m
      ∙ simp (length-append, length_bytes) (omega (arith, k, l)) in
      all_three (λ (x y z : ℕ). record {
        selected_protocol = record { start = x; len = c.selected_protocol.len };
        padding = record { start = y; len = c.padding.len };
        tail = z;
      }) z a t

  -- a request, by where its parts begin, and by its pairs
  abbrev placed : TlsCertificateRequestContents → ℕ → OptView → ℕ → ℕ → TlsCertificateRequestContents
  placed c x o y z = record {
    cert_types = record { start = x; len = c.cert_types.len };
    sig_hash_algs = o;
    unparsed_ca = record { start = y; len = c.unparsed_ca.len };
    tail = z;
  }

  put : (c : TlsCertificateRequestContents) {o : OptView} {x y z : ℕ} → c.cert_types.start ≡ x
      → c.sig_hash_algs ≡ o → c.unparsed_ca.start ≡ y → c.tail ≡ z → c ≡ placed c x o y z
  put c {o} p q r t =
      ap (λ (o : OptView). placed c c.cert_types.start o c.unparsed_ca.start c.tail) q
      ∙ all_three (λ (x y z : ℕ). placed c x o y z) p r t

  long : (c : TlsCertificateRequestContents) → reading (request true) s ≡ accepted c
      → c ≡ request_from (request_told (accepted c))
  unfolding views_of join
  long c e =
      let m = made_of (splits_request_lem true s b) e in
      let n = length (opt_part_of s c.sig_hash_algs) in
      let k : c.cert_types.len ≡ length (part_of s c.cert_types) =
      ap (λ (x : TlsCertificateRequestContents). x.cert_types.len) m in
      let l : c.unparsed_ca.len ≡ length (part_of s c.unparsed_ca) =
      ap (λ (x : TlsCertificateRequestContents). x.unparsed_ca.len) m in
      let v : c.sig_hash_algs ≡ Some (record { start = 3 + c.cert_types.len; len = n }) =
      ap (λ (x : TlsCertificateRequestContents). x.sig_hash_algs) m
      ∙ ap (λ (x : ℕ). Some (record { start = x; len = n }))
      (simp (length-append, length_bytes) (omega (arith, k))) in
      let a : c.unparsed_ca.start ≡ 5 + c.cert_types.len + n =
      ap (λ (x : TlsCertificateRequestContents). x.unparsed_ca.start) m
      ∙ simp (length-append, length_bytes) (omega (arith, k)) in
      let t : c.tail ≡ 5 + c.cert_types.len + n + c.unparsed_ca.len =
      ap (λ (x : TlsCertificateRequestContents). x.tail) m
      ∙ simp (length-append, length_bytes) (omega (arith, k, l)) in
      let z : c.cert_types.start ≡ 1 = ap (λ (x : TlsCertificateRequestContents). x.cert_types.start) m in
      put c z v a t
      ∙ sym (ap (λ (o : OptView). request_from (request_told (accepted (placed c 0 o 0 0)))) v)

  short : (c : TlsCertificateRequestContents) → reading (request false) s ≡ accepted c
      → c ≡ request_from (request_told (accepted c))
  unfolding views_of join
  short c e =
      let d = splits_request_lem false s b in
      let m = made_of d e in
      let n : length (opt_part_of s c.sig_hash_algs) ≡ 0 = (d.splits c e).obey.1.0 in
      let k : c.cert_types.len ≡ length (part_of s c.cert_types) =
      ap (λ (x : TlsCertificateRequestContents). x.cert_types.len) m in
      let l : c.unparsed_ca.len ≡ length (part_of s c.unparsed_ca) =
      ap (λ (x : TlsCertificateRequestContents). x.unparsed_ca.len) m in
      let v = no_pairs s b e in
      let a : c.unparsed_ca.start ≡ 3 + c.cert_types.len =
      ap (λ (x : TlsCertificateRequestContents). x.unparsed_ca.start) m
      ∙ simp (length-append, length_bytes) (omega (arith, k, n)) in
      let t : c.tail ≡ 3 + c.cert_types.len + c.unparsed_ca.len =
      ap (λ (x : TlsCertificateRequestContents). x.tail) m
      ∙ simp (length-append, length_bytes) (omega (arith, k, l, n)) in
      let z : c.cert_types.start ≡ 1 = ap (λ (x : TlsCertificateRequestContents). x.cert_types.start) m in
      put c z v a t
      ∙ sym (ap (λ (o : OptView). request_from (request_told (accepted (placed c 0 o 0 0)))) v)

  ticket : (n : ℕ) (c : TlsNewSessionTicketContent) → session_ticket n s ≡ accepted c
      → c ≡ ticket_from (ticket_told (accepted c))
  ticket n c e =
      let a = accepted_is n s e in
      let h : 6 ≤ n = a.0 in
      let z : n ≡ 6 + (n - 6) = omega arith in
      rw a.1 (ap (λ (y : ℕ). record {
        ticket_lifetime_hint = be 4 s 0;
        ticket = record { start = 6; len = n - 6 };
        tail = y;
      }) z)

pub bodies_back : (s : List ℕ) → Bytes s → BodiesBack s
bodies_back s b = record {
  ticket = ticket s b;
  chain = chain s b;
  request = λ c e. ⊎_elim (long s b c) (short s b c) (by_form s e);
  response = response s b;
  protocol = protocol s b;
}

-- and an item of a list is the one that is told
module _ (s : List ℕ) where
  item : (w at : ℕ) (p : Part) → item_from (sized w) s at ≡ accepted p → p ≡ part_from w at (item_told (accepted p))
  item w at p e =
      let l = vector_lies w (rule_of Plain) s at (item_got (sized w) s at e) in
      let z : p.next ≡ p.view.start + p.view.len = omega (arith, l.start, l.next) in
      ap₂ (λ (x y : ℕ). record { view = record { start = x; len = p.view.len }; next = y }) l.start z

  number : (n : ℕ) → n < length s / 2
      → number_place n 2 s ≡ accepted (record { value = be 2 s (2 * n); next = 2 * n + 2 })
  number n h =
      let g = number_below 2 (omega arith) s n (rw (count_of 2 (omega arith) s) h) in
      let z : n * 2 ≡ 2 * n = mul_comm n 2 in
      g.1 ∙ rw z (number_got 2 s (2 * n) (part_in Incomplete s (2 * n) 2 (omega (arith, g.0))))

pub lists_back : (s : List ℕ) → ListsBack s
lists_back s = record {
  item = item s;
  count = count_of 2 (omega arith) s;
  number = number s;
  past = λ n h. number_past 2 (omega arith) s n (rw (count_of 2 (omega arith) s) h);
}
