pub mod Certs
pub use Certs.{certificate, status, request, certificate_request, OfRequest}
pub use declared.request.TlsCertificateRequestContents.{TlsCertificateRequestContents}
