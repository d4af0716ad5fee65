-- What was read is made of its pieces: so the lengths of its parts are those that the grammar
-- allows, and each part begins behind those before it. Assumes nothing.
use Prim.Native.Nat.{ℕ, ◌^◌, ◌<◌}
use mathlib.Core.Path.{◌≡◌, refl, ap, ◌∙◌}
use mathlib.Core.Logic.{◌⊎◌, inl, inr, ⊎_elim}
use mathlib.Core.Bool.{Bool, true, false}
use mathlib.Core.List.{List}
use native.Mathlib.Omega.{arith}
use lib.ListN.{length}
use Rattle.std.specs.Prelude.{None}
use Rattle.refusal.specs.Answers.{Answer, accepted, refused, or_else}
use Rattle.refusal.specs.Refusals.{refusal}
use Rattle.refusal.specs.declared.Reason.TheVariants.{Complete}
use Rattle.refusal.proofs.Then.{not_both, then_accepted}
use Rattle.wire.specs.Numbers.{Bytes, be, bytes_in}
use Rattle.wire.specs.declared.number.Width.{Width}
use Rattle.wire.specs.declared.number.Width.TheVariants.{One, Two, Three, Four}
use Rattle.wire.specs.Parts.{part_of, opt_part_of}
use Rattle.wire.specs.declared.view.Part.{Part}
use Rattle.wire.specs.declared.number.Number.{Number}
use Rattle.wire.proofs.Numbers.{be_lt}
use Rattle.field.specs.Fields.{Field, sized}
use Rattle.field.proofs.Steps.{step_back}
use Rattle.grammar.specs.Forms.{reading}
use Rattle.grammar.specs.Splits.{views_of}
use Rattle.list.specs.Items.{item_from, items, number_place, place}
use Rattle.list.proofs.Fields.{item_got}
use Rattle.read_certs.specs.Certs.{certificate, certificate_request, request, status}
use Rattle.read_certs.specs.declared.certificate.TlsCertificateContents.{TlsCertificateContents}
use Rattle.read_certs.specs.declared.request.TlsCertificateRequestContents.{TlsCertificateRequestContents}
use Rattle.read_certs.specs.declared.status.TlsCertificateStatusContents.{TlsCertificateStatusContents}
use Rattle.read_certs.proofs.Whole.{splits_certificate_lem, splits_request_lem, splits_status_lem}
use Rattle.read_others.specs.Body.{next_protocol}
use Rattle.read_others.specs.declared.next_protocol.TlsNextProtocolContent.{TlsNextProtocolContent}
use Rattle.read_others.proofs.Whole.{splits_next_protocol_lem}
use Rattle.norrabist_c.specs.Parts.{opt_told}
use Rattle.grammar.proofs.Forms.{made_of}

module _ (s : List ℕ) (b : Bytes s) {c : TlsCertificateContents} (e : reading certificate s ≡ accepted c) where
  pub chain_len : c.cert_chain.len < 16777216
  unfolding views_of
  chain_len =
      let d = splits_certificate_lem s b in
      let l : c.cert_chain.len ≡ length (part_of s c.cert_chain) =
      ap (λ (x : TlsCertificateContents). x.cert_chain.len) (made_of d e) in
      omega (arith, l, (d.splits c e).obey.0.0)

module _ (s : List ℕ) (b : Bytes s) {c : TlsCertificateStatusContents} (e : reading status s ≡ accepted c) where
  pub blob_len : c.blob.len < 16777216
  unfolding views_of
  blob_len =
      let d = splits_status_lem s b in
      let l : c.blob.len ≡ length (part_of s c.blob) =
      ap (λ (x : TlsCertificateStatusContents). x.blob.len) (made_of d e) in
      omega (arith, l, (d.splits c e).obey.1.0.0)

module _ (s : List ℕ) (b : Bytes s) {c : TlsNextProtocolContent} (e : reading next_protocol s ≡ accepted c) where
  pub protocol_len : c.selected_protocol.len < 256
  unfolding views_of
  protocol_len =
      let d = splits_next_protocol_lem s b in
      let l : c.selected_protocol.len ≡ length (part_of s c.selected_protocol) =
      ap (λ (x : TlsNextProtocolContent). x.selected_protocol.len) (made_of d e) in
      omega (arith, l, (d.splits c e).obey.0.0)

  pub padding_len : c.padding.len < 256
  unfolding views_of
  padding_len =
      let d = splits_next_protocol_lem s b in
      let l : c.padding.len ≡ length (part_of s c.padding) =
      ap (λ (x : TlsNextProtocolContent). x.padding.len) (made_of d e) in
      omega (arith, l, (d.splits c e).obey.1.0.0)

-- a request is read by one of its forms
pub by_form : (s : List ℕ) {c : TlsCertificateRequestContents} → certificate_request s ≡ accepted c
    → (reading (request true) s ≡ accepted c) ⊎ (reading (request false) s ≡ accepted c)
unfolding certificate_request
by_form s {c} e = go (reading (request true) s) (reading (request false) s) e
  where
    go : (x y : Answer TlsCertificateRequestContents)
        → or_else x (or_else y (refused (refusal Complete 0 0))) ≡ accepted c → (x ≡ accepted c) ⊎ (y ≡ accepted c)
    go (accepted a) y q = inl q
    go (refused r) (accepted a) q = inr q
    go (refused r) (refused t) q = absurd (not_both q refl)

-- by either form the types and the names have the lengths that their fields allow
module _ (long : Bool) (s : List ℕ) (b : Bytes s) {c : TlsCertificateRequestContents}
    (e : reading (request long) s ≡ accepted c) where
  form_types : c.cert_types.len < 256
  unfolding views_of
  form_types =
      let d = splits_request_lem long s b in
      let l : c.cert_types.len ≡ length (part_of s c.cert_types) =
      ap (λ (x : TlsCertificateRequestContents). x.cert_types.len) (made_of d e) in
      omega (arith, l, (d.splits c e).obey.0.0)

  form_names : c.unparsed_ca.len < 65536
  unfolding views_of
  form_names =
      let d = splits_request_lem long s b in
      let l : c.unparsed_ca.len ≡ length (part_of s c.unparsed_ca) =
      ap (λ (x : TlsCertificateRequestContents). x.unparsed_ca.len) (made_of d e) in
      omega (arith, l, (d.splits c e).obey.1.1.0.0)

-- by the long form there are pairs, by the short one none
module _ (s : List ℕ) (b : Bytes s) {c : TlsCertificateRequestContents} where
  form_pairs : reading (request true) s ≡ accepted c → (opt_told c.sig_hash_algs).len < 65536
  unfolding views_of
  form_pairs e =
      let d = splits_request_lem true s b in
      let l : (opt_told c.sig_hash_algs).len ≡ length (opt_part_of s c.sig_hash_algs) =
      ap (λ (x : TlsCertificateRequestContents). (opt_told x.sig_hash_algs).len) (made_of d e) in
      omega (arith, l, (d.splits c e).obey.1.0.0)

  pub no_pairs : reading (request false) s ≡ accepted c → c.sig_hash_algs ≡ None
  unfolding views_of
  no_pairs e =
      let d = splits_request_lem false s b in
      let o : length (opt_part_of s c.sig_hash_algs) ≡ 0 = (d.splits c e).obey.1.0 in
      ap (λ (x : TlsCertificateRequestContents). x.sig_hash_algs) (made_of d e) ∙ rw o

  module _ (e : certificate_request s ≡ accepted c) where
    pub types-len : c.cert_types.len < 256
    types-len = ⊎_elim (form_types true s b) (form_types false s b) (by_form s e)

    pub names-len : c.unparsed_ca.len < 65536
    names-len = ⊎_elim (form_names true s b) (form_names false s b) (by_form s e)

    pub pairs_len : (opt_told c.sig_hash_algs).len < 65536
    pairs_len = ⊎_elim form_pairs (λ y. rw (no_pairs y) (omega arith)) (by_form s e)

-- the item whose length has w bytes
pub of_width : (w : ℕ) (s : List ℕ) (at : ℕ) {p : Part} → Bytes s → item_from (sized w) s at ≡ accepted p
    → p.view.len < 256 ^ w
of_width w s at {p} b e =
    let f = step_back (sized w) s at b (item_got (sized w) s at e) in
    let l : p.view.len ≡ length (part_of s p.view) = ap (λ (q : Part). q.view.len) f.place in
    omega (arith, l, f.obeys.0)

-- so that four bytes hold it
pub item_len : (w : Width) (s : List ℕ) (at : ℕ) {p : Part} → Bytes s → item_from (sized (bytes_in w)) s at ≡ accepted p
    → p.view.len < 4294967296
item_len One s at b e = omega (arith, of_width 1 s at b e)
item_len Two s at b e = omega (arith, of_width 2 s at b e)
item_len Three s at b e = omega (arith, of_width 3 s at b e)
item_len Four s at b e = of_width 4 s at b e

-- and the number at a place has two bytes
pub number_len : (n : ℕ) (s : List ℕ) {x : Number} → Bytes s → number_place n 2 s ≡ accepted x → x.value < 65536
number_len n s {x} b e =
    let t =
    then_accepted (place n (items (Field.fixed 2) s))
    (λ (p : Part). accepted (record { value = be 2 s p.view.start; next = p.next })) e in
    let d : record { value = be 2 s t.0.view.start; next = t.0.next } ≡ x = cc t.2 in
    rw (← d) (omega (arith, be_lt 2 s t.0.view.start b))
