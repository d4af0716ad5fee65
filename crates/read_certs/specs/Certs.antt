-- The bodies that speak of certificates, Certificate, CertificateRequest and CertificateStatus:
-- RULES 4.4, 4.7 to 4.10; RFC 5246 7.4.2, 7.4.4, RFC 6066 8.
use Rattle.std.specs.Prelude.{◌≡◌, ◌∷◌}
use Rattle.refusal.specs.{ℕ, Bool, true, false, List, [], none, refusal, Answer, accepted, refused, or_else, Complete, Refusal}
use Rattle.wire.specs.{pick, None}
use Rattle.field.specs.{fixed, sized}
use Rattle.grammar.specs.{as_view, as_opt, as_number, Pieces, Split, handed_of, FirstLacks, Form, value_of, reading}
use Rattle.read_certs.specs.declared.{certificate.TlsCertificateContents.TlsCertificateContents, request.TlsCertificateRequestContents.TlsCertificateRequestContents, status.TlsCertificateStatusContents.TlsCertificateStatusContents}

-- RULES 4.4: Certificate, its list the items `sized 3` of the part; RFC 5246 7.4.2
abbrev pub certificate : Form TlsCertificateContents
certificate = record {
  grammar = record { rows = (sized 3, as_view) ∷ []; block = none };
  value = λ (chain, _) e t. record { cert_chain = chain; tail = t };
  handed = λ c. (c.cert_chain, tt);
  block = λ c. None;
  tail = λ c. c.tail;
}

-- RULES 4.10: CertificateStatus; RFC 6066 8
abbrev pub status : Form TlsCertificateStatusContents
status = record {
  grammar = record { rows = (fixed 1, as_number 1) ∷ (sized 3, as_view) ∷ []; block = none };
  value = λ (k, (b, _)) e t. record { status_type = k; blob = b; tail = t };
  handed = λ c. (c.status_type, (c.blob, tt));
  block = λ c. None;
  tail = λ c. c.tail;
}

-- RULES 4.7: the long form, RFC 5246 7.4.4; 4.8: the short one, without the pairs, RFC 4346 7.4.4.
-- In the place of the pairs the short form has a field of no bytes, which is handed out as absent.
-- Types are items `fixed 1` of their part, pairs `fixed 2`, names `sized 2`
abbrev pub request : Bool → Form TlsCertificateRequestContents
request long = record {
  grammar = record { rows = (sized 1, as_view) ∷ (pick long (sized 2) (fixed 0), as_opt long) ∷ (sized 2, as_view) ∷ []; block = none };
  value = λ (types, (pairs, (names, _))) e t. record { cert_types = types; sig_hash_algs = pairs; unparsed_ca = names; tail = t };
  handed = λ c. (c.cert_types, (c.sig_hash_algs, (c.unparsed_ca, tt)));
  block = λ c. None;
  tail = λ c. c.tail;
}

-- RULES 4.9: the long form, or else the short one, or else Complete
unfoldable pub certificate_request : List ℕ → Answer TlsCertificateRequestContents
certificate_request s = or_else (reading (request true) s) (or_else (reading (request false) s) (refused (refusal Complete 0 0)))

-- which form it is read by: the long one where the body splits by it, else the short one, else it
-- is Complete; shown by `proofs/Whole.antt`
pub record OfRequest (body : List ℕ) : Type 0 where
  pub as_long : (x : Pieces (request true).grammar) → Split (request true).grammar body x → certificate_request body ≡ accepted (value_of (request true) body (handed_of (request true).grammar x))
  pub as_short : (r : Refusal) → FirstLacks (request true).grammar.rows 0 body r → (x : Pieces (request false).grammar) → Split (request false).grammar body x → certificate_request body ≡ accepted (value_of (request false) body (handed_of (request false).grammar x))
  pub neither : (r t : Refusal) → FirstLacks (request true).grammar.rows 0 body r → FirstLacks (request false).grammar.rows 0 body t → certificate_request body ≡ refused (refusal Complete 0 0)
