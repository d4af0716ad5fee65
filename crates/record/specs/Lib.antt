pub mod Records
pub use Records.{header, fragment, raw, encrypted}
pub use declared.{TlsRawRecord.TlsRawRecord, TlsRecordHeader.TlsRecordHeader}
