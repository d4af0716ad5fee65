-- Everything that is claimed beyond the contracts of single functions, of the forms, lists,
-- messages and records of this code: one field for each theorem. RULES cites them, or what they
-- claim, beside its rules. `claims::all_claims` promises them all, so that none can go missing.
-- `EveryForm` and `EveryListing` (`grammar/specs/Demand3.antt`), `EveryStrict`
-- (`grammar/specs/Strict.antt`) and `EveryClosed` (`grammar/specs/Closed.antt`), over all contents,
-- are what the fields of demand 3 and `splits_ticket` are shown by, and have no field.
use Rattle.std.specs.Prelude.{◌≤◌, ◌≡◌}
use Rattle.std.specs.Borrow.{Bor}
use Rattle.refusal.specs.{ℕ, Bool, List, get_or, NumbersApart, accepted, OneResult, true, false, as_answer}
use Rattle.wire.specs.{if_some, part_of, Bytes, EachUndoes, View, Number, Part}
use Rattle.field.specs.{Field, fixed, sized, least}
use Rattle.field.specs.Closing.{EveryClosing, EveryLength}
use Rattle.grammar.specs.{client_to_fill, BySplit, ByVersion, ByExactSplit, ByClosedSplit}
use Rattle.list.specs.{NoneMore, ByItems}
use Rattle.read_start.specs.declared.Start.{Start}
use Rattle.read_client.specs.{client, TellsExactness, TlsClientHelloContents}
use Rattle.read_server.specs.{server, server_versions, draft18, TlsServerHelloContents, TlsServerHelloV13Draft18Contents}
use Rattle.read_certs.specs.{certificate, request, status, OfRequest}
use Rattle.read_certs.specs.declared.{certificate.TlsCertificateContents.TlsCertificateContents, request.TlsCertificateRequestContents.TlsCertificateRequestContents, status.TlsCertificateStatusContents.TlsCertificateStatusContents}
use Rattle.cert_reader.specs.Chain.{SameItems}
use Rattle.read_others.specs.Body.{retry, ticket_form, next_protocol, OfTicket}
use Rattle.read_others.specs.declared.{next_protocol.TlsNextProtocolContent.TlsNextProtocolContent, retry.TlsHelloRetryRequestContents.TlsHelloRetryRequestContents, ticket.TlsNewSessionTicketContent.TlsNewSessionTicketContent}
use Rattle.message.specs.{TlsMessageHandshake, kind_number, type_of, body_written}
use Rattle.write_message.specs.Written.{handshake_text}
use Rattle.open_hellos.specs.HelloMessages.{AsMessage}
use Rattle.envelope.specs.{opened, TlsMessageHead}
use Rattle.content.specs.declared.{TlsMessage.TlsMessage, TlsMessageAlert.TlsMessageAlert, TlsMessageHeartbeat.TlsMessageHeartbeat}
use Rattle.record_walk.specs.Walking.{Walking}
use Rattle.content_walk.specs.ContentWalking.{ContentWalking}
use Rattle.content_walk.specs.declared.TlsFound.{TlsFound}
use Rattle.record.specs.{raw}
use Rattle.record.specs.declared.{TlsRecordHeader.TlsRecordHeader, TlsRawRecord.TlsRawRecord, TlsEncrypted.TlsEncrypted}
use Rattle.record_open.specs.declared.{TlsPlaintext.TlsPlaintext, TlsPlaintextOpened.TlsPlaintextOpened}
use Rattle.record_many.specs.{ManyRecords}
use Rattle.list.specs.declared.steps.Counted.{Counted as TlsRecords}
use Rattle.record_joined.specs.Joined.{view_in_of, NoRecordMore}
use Rattle.norrabist_c.specs.HellosBack.{HellosBack}
use Rattle.norrabist_c.specs.BodiesBack.{BodiesBack, ListsBack}
use Rattle.norrabist_c.specs.HeadsBack.{HeadsBack}
use Rattle.norrabist_c.specs.Contents.{ContentsBack}
use Rattle.norrabist_c.specs.Slices.{SlicesSame}
use Rattle.claim_rows.specs.Readings.{rows, own_rows, AllRead}
use Rattle.claim_readers.specs.Readers.{Readers}
use Rattle.claim_wayback.specs.WayBack.{EveryText, WritesBack, WritesWhole, ReadsAgain, BackByVersion, AgainByVersion, OneText, WayBack}
use Rattle.claim_writers.specs.Writers.{Writers}
use Rattle.claims.specs.Crossed.{HeaderAndRecord, is_written}

-- of every list of bytes: what is lent is one by its type, which `claims::bytes_lent` promises
abbrev pub OfBytes : (List ℕ → Type 0) → Type 0
OfBytes P = (s : List ℕ) → Bytes s → P s

pub record Claims : Type 0 where
  -- the table of refusals: no two share a number, and none has 0
  pub table : NumbersApart
  -- equal numbers and equal values are one result: of each value that an answer of the code holds
  pub one_part : OneResult (as_answer {A = Part})
  pub one_number_of : OneResult (as_answer {A = Number})
  pub one_write : OneResult (as_answer {A = ℕ})
  pub one_start : OneResult (as_answer {A = Start})
  pub one_client : OneResult (as_answer {A = TlsClientHelloContents})
  pub one_server : OneResult (as_answer {A = TlsServerHelloContents})
  pub one_draft18 : OneResult (as_answer {A = TlsServerHelloV13Draft18Contents})
  pub one_certificate : OneResult (as_answer {A = TlsCertificateContents})
  pub one_request : OneResult (as_answer {A = TlsCertificateRequestContents})
  pub one_status : OneResult (as_answer {A = TlsCertificateStatusContents})
  pub one_retry : OneResult (as_answer {A = TlsHelloRetryRequestContents})
  pub one_ticket : OneResult (as_answer {A = TlsNewSessionTicketContent})
  pub one_next_protocol : OneResult (as_answer {A = TlsNextProtocolContent})
  pub one_message : OneResult (as_answer {A = TlsMessageHandshake})
  pub one_head : OneResult (as_answer {A = TlsMessageHead})
  pub one_header : OneResult (as_answer {A = TlsRecordHeader})
  pub one_raw : OneResult (as_answer {A = TlsRawRecord})
  pub one_encrypted : OneResult (as_answer {A = TlsEncrypted})
  pub one_plaintext : OneResult (as_answer {A = TlsPlaintext})
  pub one_opened : OneResult (as_answer {A = TlsPlaintextOpened})
  pub one_content : OneResult (as_answer {A = TlsMessage})
  pub one_alert : OneResult (as_answer {A = TlsMessageAlert})
  pub one_heartbeat : OneResult (as_answer {A = TlsMessageHeartbeat})
  pub one_found_of : OneResult (as_answer {A = TlsFound})
  pub one_past : OneResult (as_answer {A = ℕ})
  pub one_many : OneResult (as_answer {A = TlsRecords})
  -- numbers and their bytes, of every width
  pub numbers : (w : ℕ) → EachUndoes w
  -- demand 3, its reading half, of the three hellos: by their grammars, a ServerHello by its
  -- version, and which of the two ServerHellos a message is
  pub reads_client : OfBytes (BySplit client)
  pub reads_server : (hasExt : Bool) → OfBytes (BySplit (server hasExt))
  pub reads_draft18 : OfBytes (BySplit draft18)
  pub reads_by_version : OfBytes (ByVersion server_versions)
  pub reads_as_message : (s : List ℕ) → AsMessage s
  -- the same of the strict ClientHello, and that it goes by what `exactness` tells of the plain one
  pub reads_strict : OfBytes (ByExactSplit client client_to_fill)
  pub tells_strict : OfBytes TellsExactness
  -- any text, written; demand 3, its writing half: what was read, written back, with at most so
  -- many bytes before the tail
  pub every_text : EveryText
  pub writes_client : OfBytes (WritesBack client 0x01 131396)
  pub writes_strict : OfBytes (WritesWhole client client_to_fill 0x01)
  pub writes_server : (hasExt : Bool) → OfBytes (WritesBack (server hasExt) 0x02 65607)
  pub writes_draft18 : OfBytes (WritesBack draft18 0x02 65573)
  pub writes_by_version : OfBytes BackByVersion
  pub writes_one_text : OneText
  -- what a second reading finds of a hello that was written
  pub again_client : OfBytes (λ s. (c : TlsClientHelloContents) → ReadsAgain client s c)
  pub again_server : (hasExt : Bool) → OfBytes (λ s. (c : TlsServerHelloContents) → ReadsAgain (server hasExt) s c)
  pub again_draft18 : OfBytes (λ s. (c : TlsServerHelloV13Draft18Contents) → ReadsAgain draft18 s c)
  pub again_by_version : AgainByVersion
  -- lists: of the items of every field that takes a byte at least; that the bound never ends one;
  -- and those that are handed out: names, certificates, methods and types, ciphers and signature
  -- pairs
  pub lists : (f : Field) → 1 ≤ least f → OfBytes (ByItems f)
  pub none_more_of : NoneMore
  pub names : OfBytes (ByItems (sized 2))
  pub certificates : OfBytes (ByItems (sized 3))
  pub methods : OfBytes (ByItems (fixed 1))
  pub ciphers : OfBytes (ByItems (fixed 2))
  -- the other bodies that hold fields, by their grammars; which form a CertificateRequest is read
  -- by; a field of any kind that has to end with the bytes, and one behind a length by numbers; the
  -- ticket by its closed form, and by the length given and the one that stands in it
  pub splits_certificate : OfBytes (BySplit certificate)
  pub splits_request : (long : Bool) → OfBytes (BySplit (request long))
  pub chooses : OfBytes OfRequest
  pub splits_status : OfBytes (BySplit status)
  pub splits_retry : OfBytes (BySplit retry)
  pub splits_next_protocol : OfBytes (BySplit next_protocol)
  pub closing : EveryClosing
  pub closing_length : EveryLength
  pub splits_ticket : OfBytes (ByClosedSplit ticket_form)
  pub ticket : (n : ℕ) → OfBytes (OfTicket n)
  -- records, joined ones, the walk over one, the messages of a content of every type, joined ones
  -- that are opened, the reader that holds its list, and a part of a part as a part of the whole
  pub splits_record : OfBytes (BySplit raw)
  pub no_record_more : (s : List ℕ) → NoRecordMore s
  pub walks : (content : List ℕ) → Walking content
  pub contents : (t : ℕ) (content : List ℕ) → ContentWalking t content
  pub many : (s : List ℕ) → ManyRecords s
  pub readers : (l : Bor (List ℕ)) → SameItems l
  pub same_bytes_of : (s : List ℕ) (outer inner : View) → part_of s (view_in_of s outer inner) ≡ part_of (part_of s outer) inner
  -- what reading finds of what was written
  pub way_back_of : WayBack
  -- what C and Rust are told is the whole value, each start a sum of lengths; of the messages of a
  -- content their number is enough; and the slices that they hand over have the message's own text
  pub hellos_told : OfBytes HellosBack
  pub bodies_told : OfBytes BodiesBack
  pub lists_told : (s : List ℕ) → ListsBack s
  pub heads_told : OfBytes HeadsBack
  pub contents_told : (s : List ℕ) → ContentsBack s
  pub slices_same : SlicesSame
  -- rules said a second time: the header and the record, types and kinds, which kinds are written,
  -- the rows of RULES 8 and our own
  pub header : (s : List ℕ) → HeaderAndRecord s
  pub kinds : (msgType n : ℕ) (s : List ℕ) (m : TlsMessageHandshake) → opened msgType n s ≡ accepted m → type_of m ≡ msgType
  pub written : (m : TlsMessageHandshake) → if_some (body_written m) (λ b. true) false ≡ is_written (kind_number m)
  pub rules_rows : AllRead rows
  pub other_rows : AllRead own_rows
  -- RULES 1.2: every reader with its number by places and lengths, which refusals it gives and that
  -- it gives each; every writer with its number and which refusals it gives, and the type that a
  -- written message begins with
  pub readers_say : Readers
  pub writers_say : (s out : List ℕ) → Writers s out
  pub writers_type : (s : List ℕ) (m : TlsMessageHandshake) (t : List ℕ) → handshake_text s m ≡ accepted t → get_or t 0 0 ≡ type_of m
