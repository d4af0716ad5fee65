pub mod Client
pub use Client.{client, strict_client, TellsExactness}
pub use declared.TlsClientHelloContents.{TlsClientHelloContents}
