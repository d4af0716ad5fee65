-- The type bytes of handshake messages and of records: RULES 5.4 and 6.9.
use Rattle.refusal.specs.{ℕ}

-- RFC 5246 7.4.1.1
abbrev pub hello_request_type : ℕ
hello_request_type = 0x00

-- RFC 5246 7.4.1.2
abbrev pub client_hello_type : ℕ
client_hello_type = 0x01

-- RFC 5246 7.4.1.3
abbrev pub server_hello_type : ℕ
server_hello_type = 0x02

-- RFC 5077 3.3
abbrev pub new_session_ticket_type : ℕ
new_session_ticket_type = 0x04

-- RFC 8446 4.5
abbrev pub end_of_early_data_type : ℕ
end_of_early_data_type = 0x05

-- draft-ietf-tls-tls13-18 4.1.4
abbrev pub hello_retry_request_type : ℕ
hello_retry_request_type = 0x06

-- RFC 5246 7.4.2
abbrev pub certificate_type : ℕ
certificate_type = 0x0b

-- RFC 5246 7.4.3
abbrev pub server_key_exchange_type : ℕ
server_key_exchange_type = 0x0c

-- RFC 5246 7.4.4
abbrev pub certificate_request_type : ℕ
certificate_request_type = 0x0d

-- RFC 5246 7.4.5
abbrev pub server_done_type : ℕ
server_done_type = 0x0e

-- RFC 5246 7.4.8
abbrev pub certificate_verify_type : ℕ
certificate_verify_type = 0x0f

-- RFC 5246 7.4.7
abbrev pub client_key_exchange_type : ℕ
client_key_exchange_type = 0x10

-- RFC 5246 7.4.9
abbrev pub finished_type : ℕ
finished_type = 0x14

-- RFC 6066 2, 8
abbrev pub certificate_status_type : ℕ
certificate_status_type = 0x16

-- RFC 8446 4.6.3
abbrev pub key_update_type : ℕ
key_update_type = 0x18

-- draft-agl-tls-nextprotoneg-03 3
abbrev pub next_protocol_type : ℕ
next_protocol_type = 0x43

-- RFC 5246 6.2.1, 7.1
abbrev pub change_cipher_spec_record : ℕ
change_cipher_spec_record = 0x14

-- RFC 5246 6.2.1, 7.2
abbrev pub alert_record : ℕ
alert_record = 0x15

-- RFC 5246 6.2.1, 7.4
abbrev pub handshake_record : ℕ
handshake_record = 0x16

-- RFC 5246 6.2.1, 10
abbrev pub application_data_record : ℕ
application_data_record = 0x17

-- RFC 6520 3, 7
abbrev pub heartbeat_record : ℕ
heartbeat_record = 0x18
