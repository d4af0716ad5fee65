pub mod Walks
pub mod Walking
pub use Walks.{messages, met_head, next_message}
pub use declared.TlsHandshakeWalk.{TlsHandshakeWalk}
