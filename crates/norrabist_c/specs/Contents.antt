-- What is told of an alert and of a heartbeat: RULES 1.7, 6.16, 6.18; and that the messages of a
-- record of each type follow from what is told. Shown by `proofs/ContentsBack.antt`.
use Rattle.std.specs.Prelude.{◌+◌, ◌-◌, ◌*◌, ◌<◌, ◌≡◌, ◌∷◌}
use Rattle.refusal.specs.{ℕ, List, [], map, get_or, length, Answer, accepted, refused, number_of, giving}
use Rattle.list.specs.{go_on_of, place}
use Rattle.envelope.specs.{Met}
use Rattle.content.specs.{TlsMessage, TlsMessageAlert, TlsMessageHeartbeat, Handshake, ChangeCipherSpec, Alert, ApplicationData, Heartbeat, heartbeat_in}
use Rattle.record_walk.specs.{messages}
use Rattle.content_walk.specs.{TlsFound, messages_of}
use Rattle.norrabist_c.specs.declared.{contents.AlertTold.AlertTold, contents.HeartbeatTold.HeartbeatTold}

abbrev pub alert_told : Answer TlsMessageAlert → AlertTold
alert_told (accepted a) = record { severity = a.severity; code = a.code; number = 0 }
alert_told (refused r) = record { severity = 0; code = 0; number = number_of r.reason }

abbrev pub heartbeat_told : Answer TlsMessageHeartbeat → HeartbeatTold
heartbeat_told (accepted h) = record { payload = h.payload_len; heartbeat_type = h.heartbeat_type; number = 0 }
heartbeat_told (refused r) = record { payload = 0; heartbeat_type = 0; number = number_of r.reason }

-- a heartbeat of n bytes: its payload begins at byte 3, and the padding behind it
abbrev pub heartbeat_from : ℕ → HeartbeatTold → TlsMessageHeartbeat
heartbeat_from n t =
    record {
      heartbeat_type = t.heartbeat_type;
      payload_len = t.payload;
      payload = record { start = 3; len = t.payload };
      padding = record { start = 3 + t.payload; len = n - (3 + t.payload) };
    }

-- a handshake message as one of its record
abbrev pub as_found : Met → TlsFound
as_found x = record { body = x.head.body; next = x.head.next; message = Handshake x.says }

-- a message that is all of n bytes
abbrev pub all_of : ℕ → TlsMessage → TlsFound
all_of n m = record { body = record { start = 0; len = n }; next = n; message = m }

-- the messages of a content by its type, from their number and the bytes
pub record ContentsBack (s : List ℕ) : Type 0 where
  -- handshake messages are those of the walk over them
  pub handshakes : messages_of 0x16 s ≡ map as_found (messages s)
  -- every ChangeCipherSpec is a byte
  pub cipher_specs : (k : ℕ) → k < length (messages_of 0x14 s)
      → place k (messages_of 0x14 s) ≡ accepted (record { body = record { start = k; len = 1 }; next = k + 1; message = ChangeCipherSpec })
  -- every alert is two, level and description
  pub alerts : (k : ℕ) → k < length (messages_of 0x15 s)
      → place k (messages_of 0x15 s) ≡ accepted (record { body = record { start = k * 2; len = 2 }; next = k * 2 + 2; message = Alert (record { severity = get_or s (k * 2) 0; code = get_or s (k * 2 + 1) 0 }) })
  -- application data is all of the bytes
  pub application : messages_of 0x17 s ≡ all_of (length s) (ApplicationData (record { blob = record { start = 0; len = length s } })) ∷ []
  -- and so is a heartbeat, where its reader takes all of them
  pub heartbeats : messages_of 0x18 s ≡ go_on_of (giving (λ h. all_of (length s) (Heartbeat h)) (heartbeat_in (length s) s)) (λ x. [])
  -- which follows from its type and the length of its payload
  pub heartbeat_parts : (n : ℕ) (h : TlsMessageHeartbeat) → heartbeat_in n s ≡ accepted h → h ≡ heartbeat_from n (heartbeat_told (accepted h))
