-- What is told of the other bodies that hold fields (RULES 1.7): their numbers and the lengths of
-- their parts, or the table's number and nothing else.
use Rattle.refusal.specs.{false, Answer, accepted, refused, number_of}
use Rattle.wire.specs.{Number}
use Rattle.read_certs.specs.declared.{certificate.TlsCertificateContents.TlsCertificateContents, request.TlsCertificateRequestContents.TlsCertificateRequestContents, status.TlsCertificateStatusContents.TlsCertificateStatusContents}
use Rattle.read_others.specs.declared.{next_protocol.TlsNextProtocolContent.TlsNextProtocolContent, ticket.TlsNewSessionTicketContent.TlsNewSessionTicketContent}
use Rattle.norrabist_c.specs.Parts.{opt_told}
use Rattle.norrabist_c.specs.declared.{bodies.NewSessionTicketTold.NewSessionTicketTold, bodies.CertificateTold.CertificateTold, bodies.CertificateRequestTold.CertificateRequestTold, bodies.CertificateStatusTold.CertificateStatusTold, bodies.NextProtocolTold.NextProtocolTold, bodies.KeyUpdateTold.KeyUpdateTold}

abbrev pub ticket_told : Answer TlsNewSessionTicketContent → NewSessionTicketTold
ticket_told (accepted c) = record { ticket = c.ticket.len; hint = c.ticket_lifetime_hint; number = 0 }
ticket_told (refused r) = record { ticket = 0; hint = 0; number = number_of r.reason }

abbrev pub certificate_told : Answer TlsCertificateContents → CertificateTold
certificate_told (accepted c) = record { chain = c.cert_chain.len; number = 0 }
certificate_told (refused r) = record { chain = 0; number = number_of r.reason }

abbrev pub request_told : Answer TlsCertificateRequestContents → CertificateRequestTold
request_told (accepted c) =
    record { pairs = (opt_told c.sig_hash_algs).len; names = c.unparsed_ca.len; types = c.cert_types.len; has_pairs = (opt_told c.sig_hash_algs).present; number = 0 }
request_told (refused r) = record { pairs = 0; names = 0; types = 0; has_pairs = false; number = number_of r.reason }

abbrev pub status_told : Answer TlsCertificateStatusContents → CertificateStatusTold
status_told (accepted c) = record { blob = c.blob.len; status_type = c.status_type; number = 0 }
status_told (refused r) = record { blob = 0; status_type = 0; number = number_of r.reason }

abbrev pub protocol_told : Answer TlsNextProtocolContent → NextProtocolTold
protocol_told (accepted c) = record { protocol = c.selected_protocol.len; padding = c.padding.len; number = 0 }
protocol_told (refused r) = record { protocol = 0; padding = 0; number = number_of r.reason }

abbrev pub key_told : Answer Number → KeyUpdateTold
key_told (accepted n) = record { request = n.value; number = 0 }
key_told (refused r) = record { request = 0; number = number_of r.reason }
