pub mod Many
pub use Many.{plaintext_from, many, next_record, ManyRecords}
pub use declared.TlsRecordsWalk.{TlsRecordsWalk}
