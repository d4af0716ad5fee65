-- The value back from what is told of it: each part begins at a sum of lengths that are told, so
-- that nothing is lost. RULES 1.7, 3.11. Shown by `proofs/BodiesBack.antt`.
use Rattle.std.specs.Prelude.{◌+◌, ◌*◌, ◌/◌, ◌<◌, ◌≤◌, ◌≡◌}
use Rattle.refusal.specs.{ℕ, List, length, refusal, accepted, refused, NoSuch}
use Rattle.wire.specs.{pick, be, OptView, None, Some, Part}
use Rattle.field.specs.{fixed, sized}
use Rattle.grammar.specs.{reading}
use Rattle.list.specs.{item_from, items, number_place}
use Rattle.read_certs.specs.{certificate, certificate_request, status}
use Rattle.read_certs.specs.declared.{certificate.TlsCertificateContents.TlsCertificateContents, request.TlsCertificateRequestContents.TlsCertificateRequestContents, status.TlsCertificateStatusContents.TlsCertificateStatusContents}
use Rattle.read_others.specs.Body.{next_protocol, session_ticket}
use Rattle.read_others.specs.declared.{next_protocol.TlsNextProtocolContent.TlsNextProtocolContent, ticket.TlsNewSessionTicketContent.TlsNewSessionTicketContent}
use Rattle.norrabist_c.specs.Bodies.{certificate_told, protocol_told, request_told, status_told, ticket_told}
use Rattle.norrabist_c.specs.Lists.{item_told}
use Rattle.norrabist_c.specs.declared.{bodies.NewSessionTicketTold.NewSessionTicketTold, bodies.CertificateTold.CertificateTold, bodies.CertificateRequestTold.CertificateRequestTold, bodies.CertificateStatusTold.CertificateStatusTold, bodies.NextProtocolTold.NextProtocolTold, lists.ItemTold.ItemTold}

-- behind the lifetime of 4 bytes
abbrev pub ticket_from : NewSessionTicketTold → TlsNewSessionTicketContent
ticket_from t = record { ticket_lifetime_hint = t.hint; ticket = record { start = 6; len = t.ticket }; tail = 6 + t.ticket }

-- behind a length of 3 bytes
abbrev pub certificate_from : CertificateTold → TlsCertificateContents
certificate_from t = record { cert_chain = record { start = 3; len = t.chain }; tail = 3 + t.chain }

-- the types behind a length of 1 byte, the pairs of the long form behind one of 2, then the names
-- behind one of 2
abbrev pub names_at : CertificateRequestTold → ℕ
names_at t = pick t.has_pairs (5 + t.types + t.pairs) (3 + t.types)

abbrev pub pairs_from : CertificateRequestTold → OptView
pairs_from t = pick t.has_pairs (Some (record { start = 3 + t.types; len = t.pairs })) None

abbrev pub request_from : CertificateRequestTold → TlsCertificateRequestContents
request_from t = record {
  cert_types = record { start = 1; len = t.types };
  sig_hash_algs = pairs_from t;
  unparsed_ca = record { start = names_at t; len = t.names };
  tail = names_at t + t.names;
}

-- behind the type and a length of 3 bytes
abbrev pub status_from : CertificateStatusTold → TlsCertificateStatusContents
status_from t = record { status_type = t.status_type; blob = record { start = 4; len = t.blob }; tail = 4 + t.blob }

-- each behind a length of 1 byte
abbrev pub protocol_from : NextProtocolTold → TlsNextProtocolContent
protocol_from t = record {
  selected_protocol = record { start = 1; len = t.protocol };
  padding = record { start = 2 + t.protocol; len = t.padding };
  tail = 2 + t.protocol + t.padding;
}

-- the item whose length of w bytes stands at a byte: the next one begins where it ends
abbrev pub part_from : ℕ → ℕ → ItemTold → Part
part_from w at t = record { view = record { start = at + w; len = t.len }; next = t.start + t.len }

pub record BodiesBack (s : List ℕ) : Type 0 where
  pub ticket : (n : ℕ) (c : TlsNewSessionTicketContent) → session_ticket n s ≡ accepted c
      → c ≡ ticket_from (ticket_told (accepted c))
  pub chain : (c : TlsCertificateContents) → reading certificate s ≡ accepted c
      → c ≡ certificate_from (certificate_told (accepted c))
  pub request : (c : TlsCertificateRequestContents) → certificate_request s ≡ accepted c
      → c ≡ request_from (request_told (accepted c))
  pub response : (c : TlsCertificateStatusContents) → reading status s ≡ accepted c
      → c ≡ status_from (status_told (accepted c))
  pub protocol : (c : TlsNextProtocolContent) → reading next_protocol s ≡ accepted c
      → c ≡ protocol_from (protocol_told (accepted c))

pub record ListsBack (s : List ℕ) : Type 0 where
  pub item : (w at : ℕ) (p : Part) → item_from (sized w) s at ≡ accepted p → p ≡ part_from w at (item_told (accepted p))
  -- as many numbers as there are pairs of bytes, each where as many pairs stand before it
  pub count : length (items (fixed 2) s) ≡ length s / 2
  pub number : (n : ℕ) → n < length s / 2 → number_place n 2 s ≡ accepted (record { value = be 2 s (2 * n); next = 2 * n + 2 })
  pub past : (n : ℕ) → length s / 2 ≤ n → number_place n 2 s ≡ refused (refusal NoSuch 0 0)
