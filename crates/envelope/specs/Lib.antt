pub mod Opening
pub use Opening.{head_at, opened, by_type, by_type_in, Met, met_at, message}
pub use declared.TlsMessageHead.{TlsMessageHead}
