-- What reading finds of what was written: one law for every message, cited by each kind, and the
-- one theorem over every form for records and hellos. Assumes nothing.
use Prim.Native.Nat.{ℕ, ◌+◌, ◌<◌, ◌≤◌}
use mathlib.Core.Path.{◌≡◌, refl, sym, ap, ◌∙◌}
use mathlib.Core.List.{List, [], ◌++◌, append_assoc, append-nil}
use mathlib.Core.Bool.{true}
use mathlib.Core.Option.{none}
use native.Mathlib.Omega.{arith}
use borrow.Author.Tests.{le-leb}
use lib.ListN.{length, drop, length-append}
use lib.Seq.{drop_at, drop-drop, take-length}
use Rattle.refusal.specs.Answers.{Answer, accepted}
use Rattle.refusal.specs.declared.Reason.TheVariants.{Incomplete}
use Rattle.refusal.proofs.Then.{not_both}
use Rattle.wire.specs.Parts.{part_of}
use Rattle.wire.specs.Numbers.{Bytes, be, bytes_of}
use Rattle.wire.proofs.Parts.{part_in}
use Rattle.wire.proofs.Numbers.{length_bytes, be_of, be_drop, number_got}
use Rattle.field.specs.Fields.{rule_of, sized}
use Rattle.field.specs.Standing.{field_bytes, Obeys}
use Rattle.field.specs.declared.RuleName.TheVariants.{Plain}
use Rattle.field.proofs.Steps.{length_vector, step_of, view_of_lem}
use Rattle.field.specs.Texts.{allowed}
use Rattle.field.proofs.Texts.{obeys}
use Rattle.grammar.specs.Splits.{join, Pieces, Split, views_of}
use Rattle.grammar.specs.Forms.{Form, pieces, by_version}
use Rattle.read_client.specs.Client.{client}
use Rattle.read_server.specs.Server.{server, server_versions, draft18}
use Rattle.read_server.specs.declared.tlsv12.TlsServerHelloContents.{TlsServerHelloContents}
use Rattle.message.specs.declared.keyexchange.TlsClientKeyExchangeContents.TheVariants.{Unknown}
use Rattle.message.specs.declared.handshake.TlsMessageHandshake.{TlsMessageHandshake}
use Rattle.message.specs.declared.handshake.TlsMessageHandshake.TheVariants.{HelloRequest, ClientKeyExchange, Finished}
use Rattle.open_hellos.specs.HelloMessages.{IsDraft18}
use Rattle.open_hellos.proofs.Opened as hellos
use Rattle.envelope.specs.Opening.{head_at, opened, by_type, by_type_in, met_at}
use Rattle.envelope.proofs.Heads.{in_got}
use Rattle.envelope.proofs.Whole.{whole_body_lem}
use Rattle.record.specs.Records.{fragment, raw}
use Rattle.record.proofs.Whole.{all_records}
use Rattle.record.specs.declared.TlsRecordHeader.{TlsRecordHeader}
use Rattle.write_rules.specs.HelloTexts.{hello_text}
use Rattle.write_rules.specs.MessageTexts.{head_text, message_text, view_text}
use Rattle.claim_wayback.proofs.Wrote.{picked, message_wrote, hello_wrote, view_wrote}
use Rattle.claim_wayback.proofs.Bytes.{bytes_append, bytes_number, bytes_field}
use Rattle.write_draft18.proofs.Lengths.{draft18_length}
use Rattle.write_others.specs.Exchange.{exchange_text}
use Rattle.write_message.specs.Written.{handshake_text}
use Rattle.write_record.specs.RecordTexts.{record_bytes, record_text}
use Rattle.write_content.specs.ContentTexts.{content_text}
use Rattle.claim_wayback.proofs.Contents.{spec_read, spec_are_bytes, spec_alone, alert_read, alert_are_bytes}
use Rattle.claim_wayback.proofs.Contents.{alert_alone}
use Rattle.claim_wayback.proofs.Demand3.{draft18_version, one_text, again_client_lem, again_server_lem, again_draft18_lem}
use Rattle.claim_wayback.proofs.Demand3.{again_by_version_lem}
use Rattle.claim_wayback.specs.WayBack.{framed, again, Found, ReadsHello, whole_of, Messages, InRecord, Contents}
use Rattle.claim_wayback.specs.WayBack.{WayBack}

-- the message at the front
every : (msgType : ℕ) (b rest : List ℕ) → msgType < 256 → length b < 16777216
    → Found msgType b (by_type_in 0 4 msgType b) (framed msgType b) rest
unfolding met_at head_at
every msgType b rest h o =
    let s = framed msgType b ++ rest in
    let a : s ≡ bytes_of 1 msgType ++ (field_bytes (sized 3) b ++ rest) =
    append_assoc (bytes_of 1 msgType) (field_bytes (sized 3) b) rest in
    let l : length s ≡ 4 + length b + length rest = simp (length-append, length_bytes) (omega arith) in
    let d : drop 1 s ≡ field_bytes (sized 3) b ++ rest =
    rw a (drop_at (bytes_of 1 msgType) (field_bytes (sized 3) b ++ rest) 1 (length_bytes 1 msgType)) in
    let k : be 1 s 0 ≡ msgType = rw a (be_of 1 msgType (field_bytes (sized 3) b ++ rest) h) in
    let n = number_got 1 s 0 (part_in Incomplete s 0 1 (omega arith)) in
    let p = step_of (sized 3) s 1 b rest (omega arith) (o, refl) d in
    let v = view_of_lem (sized 3) s 1 b rest (omega arith) d in
    let z : 1 + length (field_bytes (sized 3) b) ≡ 4 + length b = omega (arith, length_vector 3 (rule_of Plain) b) in
    record { whole = simp (length-append, length_bytes) (omega arith); met = rw (n, k, p, z, v); bytes = v }

texts : (msgType : ℕ) (body : Answer (List ℕ)) (t : List ℕ) → message_text (head_text msgType) body ≡ accepted t
    → (b : List ℕ) × (body ≡ accepted b) × (length b < 16777216) × (framed msgType b ≡ t)
texts msgType body t e = let w = message_wrote msgType body e in (w.bytes, w.is, w.obeys.0, w.whole)

-- a text and the message in it
written : (msgType : ℕ) (body : Answer (List ℕ)) (t rest : List ℕ) → msgType < 256
    → message_text (head_text msgType) body ≡ accepted t → (b : List ℕ) × (body ≡ accepted b)
    × Found msgType b (by_type_in 0 4 msgType b) t rest
written msgType body t rest h e =
    let w = texts msgType body t e in
    (w.0, w.1, rw w.3 at (every msgType w.0 rest h w.2))

-- where the body is known, and what it is opened as
known_body : (msgType : ℕ) (body : Answer (List ℕ)) (t rest b : List ℕ) (m : TlsMessageHandshake) → msgType < 256
    → message_text (head_text msgType) body ≡ accepted t → ((x : List ℕ) → body ≡ accepted x → b ≡ x)
    → by_type msgType b ≡ accepted m → Found msgType b (accepted m) t rest
known_body msgType body t rest b m h e is q =
    let w = written msgType body t rest h e in
    let f : Found msgType b (by_type_in 0 4 msgType b) t rest = rw (is w.0 w.1) w.2 in
    rw (in_got 0 4 msgType b q) at f

all : (b : List ℕ) → part_of b (whole_of b) ≡ b
all b = rw (le-leb (0 + length b) (length b) (omega arith)) (take-length b)

-- a hello that reading by its form finds again
hello : {C : Type 0} (k : Form C) (msgType : ℕ) (make : C → TlsMessageHandshake) (s : List ℕ) (c : C)
    (text : Answer (List ℕ)) (t rest : List ℕ) → msgType < 256 → message_text (head_text msgType) text ≡ accepted t
    → ((b : List ℕ) → text ≡ accepted b → (d : C) × (by_type msgType b ≡ accepted (make d))
    × (pieces k b d ≡ again k s c)) → ReadsHello k msgType make s c t rest
hello k msgType make s c text t rest h e f =
    let w = written msgType text t rest h e in
    let a = f w.0 w.1 in
    record { body = w.0; found = a.0; reads = rw (in_got 0 4 msgType w.0 a.1) at w.2; same = a.2 }

-- one whose version announces a form is none of draft 18
not_draft18 : (b : List ℕ) (d : TlsServerHelloContents) → by_version server_versions b ≡ accepted d → IsDraft18 b → ⊥
not_draft18 b d e i = not_both e ((hellos.demand3 b).draft18_hello i).1

messages : (s rest : List ℕ) → Bytes s → Messages s rest
unfolding handshake_text by_type opened
messages s rest bytes = record {
  hello_request = λ t e. known_body 0x00 (accepted []) t rest [] HelloRequest (omega arith) e (λ x d. cc) refl;
  finished =
      λ v t e. known_body 0x14 (view_text s v) t rest (part_of s v) _ (omega arith) e (λ x d. view_wrote s v d)
      (whole_body_lem (λ w. Finished w) (part_of s v));
  client_key_exchange = λ k t e.
      let w = written 0x10 (exchange_text s k) t rest (omega arith) e in
      (w.0, w.1, rw (in_got 0 4 0x10 w.0 (whole_body_lem (λ v. ClientKeyExchange (Unknown v)) w.0)) at w.2);
  client_hello = λ c t e. hello client 0x01 _ s c (hello_text client s c) t rest (omega arith) e (λ b q.
      let a = again_client_lem s bytes c b q in
      (a.0, rw a.1, a.2));
  server_hello =
      λ hasExt c h v t e. hello (server hasExt) 0x02 _ s c (hello_text (server true) s c) t rest (omega arith) e (λ b q.
      let a = again_server_lem hasExt s bytes c b (one_text hasExt s c ∙ q) in
      let n : by_version server_versions b ≡ accepted a.0 = again_by_version_lem s c b h q ∙ rw v a.1 in
      (a.0, (hellos.demand3 b).server_hello (not_draft18 b a.0 n) ∙ rw n, a.2));
  draft18_hello = λ c v t e. hello draft18 0x02 _ s c (hello_text draft18 s c) t rest (omega arith) e (λ b q.
      let a = again_draft18_lem s bytes c b q in
      let w = hello_wrote draft18 s c q in
      let l : 2 ≤ length b = omega (arith, draft18_length s c w.0, ap length w.1) in
      let n : be 2 b 0 ≡ 0x7f12 = rw w.1 at (draft18_version s c (omega arith)) ∙ v in
      (a.0, ((hellos.demand3 b).draft18_hello (l, n)).0 ∙ rw a.1, a.2));
}

-- a record at the front
module _ (hdr : TlsRecordHeader) (p rest : List ℕ) where
  abbrev record_pieces : Pieces raw.grammar
  record_pieces =
      record {
        parts =
            (bytes_of 1 hdr.record_type, (bytes_of 2 hdr.version, (p, tt)));
        block = none;
        tail = rest;
      }

  record_bytes_lem : Bytes p → Bytes rest → Bytes (record_bytes hdr p ++ rest)
  unfolding join
  record_bytes_lem b r =
      let c = bytes_append (field_bytes fragment p) [] (bytes_field fragment p b) (λ i. omega arith) in
      let d = bytes_append (bytes_of 2 hdr.version) _ (bytes_number 2 hdr.version) c in
      bytes_append (record_bytes hdr p) rest
      (bytes_append (bytes_of 1 hdr.record_type) _ (bytes_number 1 hdr.record_type) d) r

  -- one field behind the other
  record_fields : record_bytes hdr p ++ rest ≡ bytes_of 1 hdr.record_type ++
      (bytes_of 2 hdr.version ++ (field_bytes fragment p ++ rest))
  unfolding join
  record_fields = simp (append_assoc, append-nil)

  record_front : hdr.record_type < 256 → hdr.version < 65536 → Bytes p → Bytes rest → Obeys fragment p
      → InRecord hdr p (record_bytes hdr p) rest
  unfolding join views_of
  record_front k v bp br o =
      let s = record_bytes hdr p ++ rest in
      let l : length (record_bytes hdr p) ≡ 5 + length p = simp (length-append, length_bytes) (omega arith) in
      let d₁ : drop 1 s ≡ bytes_of 2 hdr.version ++ (field_bytes fragment p ++ rest) =
      rw record_fields (drop_at (bytes_of 1 hdr.record_type) _ 1 (length_bytes 1 hdr.record_type)) in
      let d₃ : drop 3 s ≡ field_bytes fragment p ++ rest = sym (drop-drop 2 1 s)
      ∙ rw d₁ (drop_at (bytes_of 2 hdr.version) _ 2 (length_bytes 2 hdr.version)) in
      let e₁ : be 1 s 0 ≡ hdr.record_type = rw record_fields (be_of 1 hdr.record_type _ k) in
      let e₂ : be 2 s 1 ≡ hdr.version = be_drop 2 s 1 ∙ rw d₁ (be_of 2 hdr.version _ v) in
      let z : length (record_bytes hdr p) + 0 ≡ 5 + length p = omega arith in
      let y : Split raw.grammar s record_pieces =
      record {
        obey =
            (length_bytes 1 hdr.record_type, (length_bytes 2 hdr.version, (o, tt)));
        whole = refl;
        last =
            tt;
      } in
      record {
        whole = l;
        read = (all_records s (record_bytes_lem bp br)).accepts record_pieces y
            ∙ rw (length_bytes 1 hdr.record_type, length_bytes 2 hdr.version, e₁, e₂, z);
        bytes = view_of_lem fragment s 3 p rest (omega (arith, length-append (record_bytes hdr p) rest)) d₃;
      }

in_record : (hdr : TlsRecordHeader) (p t rest : List ℕ) → hdr.record_type < 256 → hdr.version < 65536 → Bytes p
    → Bytes rest → record_text hdr p ≡ accepted t → InRecord hdr p t rest
unfolding record_text
in_record hdr p t rest k v bp br e =
    let q = picked (allowed fragment (length p)) _ e in
    rw q.1 at (record_front hdr p rest k v bp br (obeys fragment p q.0))

contents : (s rest : List ℕ) → Contents s rest
unfolding content_text
contents s rest = record {
  handshake = λ m. refl;
  cipher_spec = λ t e. spec_read s t e rest;
  alert = λ a t e. alert_read s a t e rest;
  cipher_spec_in = λ hdr p t k v br e d.
      spec_alone s p e hdr t rest k (in_record hdr p t rest (omega (arith, k)) v (spec_are_bytes s p e) br d);
  alert_in = λ hdr a p t k v c br e d.
      alert_alone s a p e hdr t rest k (in_record hdr p t rest (omega (arith, k)) v (alert_are_bytes s a p e c) br d);
}

pub way_back : WayBack
way_back = record {
  every = every;
  texts = texts;
  messages = messages;
  contents = contents;
  all = all;
  records = in_record;
}
