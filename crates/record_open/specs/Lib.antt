pub mod Plaintext
pub use Plaintext.{as_first, first_of, opened_first, plaintext, with_header, record_met}
pub use declared.{TlsPlaintext.TlsPlaintext}
