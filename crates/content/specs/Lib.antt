pub mod Contents
pub use Contents.{one_or_two, cipher_spec_at, alert_at, heartbeat, heartbeat_in, change_cipher_spec_of, alert_first, application_data, heartbeat_of}
pub use declared.{TlsMessage.TlsMessage, TlsMessageAlert.TlsMessageAlert, TlsMessageHeartbeat.TlsMessageHeartbeat}
pub use declared.TlsMessage.TheVariants.{Handshake, ChangeCipherSpec, Alert, ApplicationData, Heartbeat}
