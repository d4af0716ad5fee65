pub mod Messages
pub use Messages.{raw_exchange, dh_exchange, ecdh_exchange, kind_number, type_of, WrittenBody, no_body, client_body, server_body, draft18_body, exchange_body, finished_body, body_written, not_written_of}
pub use declared.{handshake.TlsMessageHandshake.TlsMessageHandshake, keyexchange.TlsClientKeyExchangeContents.TlsClientKeyExchangeContents}
pub use declared.handshake.TlsMessageHandshake.TheVariants.{HelloRequest, ClientHello, NewSessionTicket, EndOfEarlyData, HelloRetryRequest, Certificate, ServerKeyExchange, CertificateRequest, ServerDone, CertificateVerify, ClientKeyExchange, Finished, CertificateStatus, NextProtocol, KeyUpdate, ServerHello, ServerHelloV13Draft18}
pub use declared.keyexchange.TlsClientKeyExchangeContents.TheVariants.{Unknown, Dh, Ecdh}
