pub mod ContentWalks
pub mod ContentWalking
pub use ContentWalks.{found_at, past_at, is_single, messages_of, dropped_of}
pub use declared.{TlsFound.TlsFound, TlsRecordWalk.TlsRecordWalk}
