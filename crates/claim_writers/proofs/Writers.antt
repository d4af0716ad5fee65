-- Each writer's case, from the definition of its text. Assumes nothing.
use Prim.Native.Nat.{ℕ, ◌+◌, ◌%◌, ◌^◌, ◌<◌, ◌≤◌}
use mathlib.Core.Path.{◌≡◌, refl, sym, ap, ◌∙◌}
use mathlib.Core.Option.{none}
use mathlib.Core.List.{List, [], ◌∷◌, ◌++◌, append-nil}
use mathlib.Core.Bool.{Bool, true, false, ◌&&◌, and-true}
use mathlib.Core.Logic.{inl, inr}
use native.Mathlib.Omega.{arith}
use native.Mathlib.Nat.{zero-add}
use borrow.Author.Tests.{leb-true, leb-false, le-leb, lt-leb, lt-ltb, ltb-true, eqb-true, eqb-false}
use borrow.Author.Tests.{eq-eqb}
use lib.ListN.{length, length-append}
use lib.Dec.{leb, ltb, eqb, leb-suc-suc}
use Rattle.std.specs.Prelude.{Some, None}
use Rattle.refusal.specs.Refusals.{OneOf, refusal, unplaced}
use Rattle.refusal.specs.Answers.{Answer, accepted, refused, then}
use Rattle.refusal.specs.declared.Reason.{Reason}
use Rattle.refusal.specs.declared.Reason.TheVariants.{Verify, LengthValue, TooLarge, BadLength, NoRoom}
use Rattle.refusal.specs.declared.Reason.TheVariants.{NotYetImplemented}
use Rattle.refusal.specs.declared.Refusal.{Refusal}
use Rattle.refusal.proofs.Told.{unplaced_reason}
use Rattle.wire.specs.Parts.{pick, part_of, opt_part_of, OptView}
use Rattle.wire.specs.Numbers.{bytes_of, bytes_in, number_text}
use Rattle.wire.specs.Puts.{room}
use Rattle.wire.specs.declared.view.View.{View}
use Rattle.wire.specs.declared.number.Width.{Width}
use Rattle.wire.specs.declared.number.Width.TheVariants.{One, Two, Three, Four}
use Rattle.wire.proofs.Parts.{room_in, room_out}
use Rattle.wire.proofs.Numbers.{length_bytes}
use Rattle.wire.proofs.Puts.{Came, text_refused, text_in, text_out}
use Rattle.field.specs.Fields.{Field, fixed, vector, sized, rule_of}
use Rattle.field.specs.Standing.{field_bytes}
use Rattle.field.specs.Texts.{allows, allowed, field_text}
use Rattle.field.specs.declared.RuleName.{RuleName}
use Rattle.field.specs.declared.RuleName.TheVariants.{Plain, SessionId, Ciphers, Methods, Fragment}
use Rattle.field.proofs.Rules.{unless_is}
use Rattle.field.proofs.Steps.{length_vector}
use Rattle.field.proofs.Texts.{both_true}
use Rattle.grammar.specs.Hellos.{random, session_id_of, ciphers, extensions}
use Rattle.grammar.specs.Grammars.{as_view, as_opt}
use Rattle.grammar.specs.Forms.{Form}
use Rattle.write_rules.specs.HelloTexts.{may_stand, may_write, hello_bytes, hello_text}
use Rattle.write_rules.specs.MessageTexts.{head_text, message_text, view_text, sized_text}
use Rattle.write_rules.proofs.Parts.{may_in, may_out}
use Rattle.write_rules.proofs.Mays.{asked}
use Rattle.write_rules.proofs.Hellos.{obeyed, hello_refused, hello_message}
use Rattle.write_rules.proofs.Messages.{Message, short_head, message_is}
use Rattle.read_client.specs.Client.{client}
use Rattle.read_client.specs.declared.TlsClientHelloContents.{TlsClientHelloContents}
use Rattle.write_client.proofs.Lengths.{client_length, client_bounds}
use Rattle.read_server.specs.Server.{server, draft18}
use Rattle.read_server.specs.declared.tlsv12.TlsServerHelloContents.{TlsServerHelloContents}
use Rattle.read_server.specs.declared.tlsv13draft18.TlsServerHelloV13Draft18Contents.{TlsServerHelloV13Draft18Contents}
use Rattle.write_server.proofs.Lengths.{server_length, server_bounds}
use Rattle.write_draft18.proofs.Lengths.{draft18_length, draft18_bounds}
use Rattle.message.specs.declared.keyexchange.TlsClientKeyExchangeContents.{TlsClientKeyExchangeContents}
use Rattle.message.specs.declared.keyexchange.TlsClientKeyExchangeContents.TheVariants.{Dh, Ecdh, Unknown}
use Rattle.message.specs.declared.handshake.TlsMessageHandshake.{TlsMessageHandshake}
use Rattle.write_others.specs.Exchange.{exchange_text}
use Rattle.write_others.proofs.Parts.{view_message, view_refused, sized-message, sized_refused}
use Rattle.message.specs.Messages.{WrittenBody, no_body, client_body, server_body, draft18_body, exchange_body}
use Rattle.message.specs.Messages.{finished_body, body_written, not_written_of}
use Rattle.message.proofs.Written.{message_of, by_written}
use Rattle.write_message.specs.Written.{handshake_text}
use Rattle.content.specs.Contents.{one_or_two}
use Rattle.content.specs.declared.TlsMessage.{TlsMessage}
use Rattle.content.specs.declared.TlsMessage.TheVariants.{Handshake, ChangeCipherSpec, Alert, ApplicationData, Heartbeat}
use Rattle.write_content.specs.ContentTexts.{cipher_spec_text, alert_text, content_text}
use Rattle.grammar.specs.Splits.{join}
use Rattle.record.specs.declared.TlsRecordHeader.{TlsRecordHeader}
use Rattle.write_record.specs.RecordTexts.{record_bytes, record_text}
use Rattle.claim_writers.specs.Writers.{Case, comes_to, refusing, up_to, where_fits, within_bytes, opt_within, opt_len}
use Rattle.claim_writers.specs.Writers.{random_fits, id_fits, ciphers_fit, extensions_fit, part_fits, client_write}
use Rattle.claim_writers.specs.Writers.{server_write, draft18_write, exchange_write, finished_write, request_write}
use Rattle.claim_writers.specs.Writers.{handshake_write, record_write, wide, most, rule_fits, rule_refuses}
use Rattle.claim_writers.specs.Writers.{cipher_spec_write, alert_write, content_write, field_write, Comes, Writers}

-- what a case comes to, with its refusals; and with one more
comes : {t : Answer (List ℕ)} {at : ℕ} {out : List ℕ} {c : Case} {whys : List Reason} → comes_to (room t at out) ≡ c
    → OneOf whys c.number → Comes t at out c whys
comes e h = record { is = e; only = rw (ap (λ (x : Case). x.number) e) h }

wider : {t : Answer (List ℕ)} {at : ℕ} {out : List ℕ} {c : Case} {whys : List Reason} (why : Reason)
    → Comes t at out c whys → Comes t at out c (why ∷ whys)
wider why h = record { is = h.is; only = inr h.only }

-- a text that is refused
case_no : {t : Answer (List ℕ)} {at : ℕ} {out : List ℕ} (why : Reason) (whys : List Reason)
    → room t at out ≡ refused (unplaced why) → Comes t at out (refusing why) (why ∷ whys)
case_no why whys e = comes (ap comes_to e ∙ ap (λ (r : Reason). refusing r) (unplaced_reason why)) (inl refl)

-- one of n bytes, by whether it ends within the output
case_yes : {t : Answer (List ℕ)} (bs : List ℕ) (at n : ℕ) (out : List ℕ) → t ≡ accepted bs → length bs ≡ n
    → Comes t at out (up_to (at + n) out) (NoRoom ∷ [])
case_yes {t} bs at n out e l = rw (← l) (go (leb (at + length bs) (length out)) refl)
  where
    go : (b : Bool) → leb (at + length bs) (length out) ≡ b → Comes t at out (up_to (at + length bs) out) (NoRoom ∷ [])
    go true q =
        rw q (comes (ap comes_to (text_in bs at out e (room_in out at (length bs) (leb-true _ _ q))).says) (inr refl))
    go false q = rw q (case_no NoRoom [] (text_out bs at out e (room_out out at (length bs) (leb-false _ _ q))).says)

-- a text by a test
case_by : {t : Answer (List ℕ)} (why : Reason) (bs : List ℕ) (fits : Bool) (at n : ℕ) (out : List ℕ)
    → t ≡ pick fits (accepted bs) (refused (unplaced why)) → length bs ≡ n
    → Comes t at out (pick fits (up_to (at + n) out) (refusing why)) (why ∷ NoRoom ∷ [])
case_by why bs true at n out e l = wider why (case_yes bs at n out e l)
case_by why bs false at n out e l = case_no why (NoRoom ∷ []) (text_refused at out e).says

-- a message of n bytes, and one by a test: where it holds there is a body of k bytes
message_yes : (msgType : ℕ) {body : Answer (List ℕ)} {bs : List ℕ} (k n : ℕ) (out : List ℕ)
    → Message (head_text msgType) 4 body bs k × (4 + k ≡ n)
    → Comes (message_text (head_text msgType) body) 0 out (up_to n out) (NoRoom ∷ [])
message_yes msgType {bs = bs} k n out (b, l) =
    let m : length (b.front ++ bs) ≡ n = simp length-append (omega (arith, b.wide, b.long, l)) in
    rw zero-add at (case_yes (b.front ++ bs) 0 n out
    (message_is (head_text msgType) b.front bs (rw b.long at b.before) b.is) m)

message_case : (msgType : ℕ) {body : Answer (List ℕ)} {bs : List ℕ} (k n : ℕ) (fits : Bool) (out : List ℕ)
    → (fits ≡ true → Message (head_text msgType) 4 body bs k × (4 + k ≡ n))
    → (fits ≡ false → Came (message_text (head_text msgType) body) 0 out (refused (unplaced BadLength)) out)
    → Comes (message_text (head_text msgType) body) 0 out (where_fits fits n out) (BadLength ∷ NoRoom ∷ [])
message_case msgType k n true out y z = wider BadLength (message_yes msgType k n out (y refl))
message_case msgType k n false out y z = case_no BadLength (NoRoom ∷ []) (z refl).says

-- tests: two that hold together are one
same : (a b : Bool) → (a ≡ true → b ≡ true) → (b ≡ true → a ≡ true) → a ≡ b
same true b f g = sym (f refl)
same false true f g = g refl
same false false f g = refl

also : {a a' b b' : Bool} → a ≡ a' → b ≡ b' → (a && b) ≡ (a' && b')
also p q = rw (p, q)

-- what w bytes hold
width_most : (w : Width) (n : ℕ) → ltb n (256 ^ bytes_in w) ≡ leb n (most w)
width_most One n = leb-suc-suc n 255
width_most Two n = leb-suc-suc n 65535
width_most Three n = leb-suc-suc n 16777215
width_most Four n = leb-suc-suc n 4294967295

width_wide : (w : Width) → bytes_in w ≡ wide w
width_wide One = refl
width_wide Two = refl
width_wide Three = refl
width_wide Four = refl

-- any length that they hold, one below a limit, and an even one
plain : (w : Width) (n : ℕ) → (ltb n (256 ^ bytes_in w) && true) ≡ leb n (most w)
plain w n = and-true (ltb n (256 ^ bytes_in w)) ∙ width_most w n

narrow : (w : Width) (n k : ℕ) → k < 256 ^ bytes_in w → (ltb n (256 ^ bytes_in w) && leb n k) ≡ leb n k
narrow w n k h =
    let m = 256 ^ bytes_in w in
    same (ltb n m && leb n k) (leb n k) (λ e. (both_true (ltb n m) (leb n k) e).1)
    (λ e. rw (lt-ltb n m (omega (arith, leb-true n k e))) e)

even : (n : ℕ) → (ltb n 65536 && eqb (n % 2) 0) ≡ (eqb (n % 2) 0 && leb n 65534)
even n = same _ _ there back
  where
    there : (ltb n 65536 && eqb (n % 2) 0) ≡ true → (eqb (n % 2) 0 && leb n 65534) ≡ true
    there e =
        let h = both_true (ltb n 65536) (eqb (n % 2) 0) e in
        rw h.1 (le-leb n 65534 (omega (arith, ltb-true n 65536 h.0, eqb-true (n % 2) 0 h.1)))

    back : (eqb (n % 2) 0 && leb n 65534) ≡ true → (ltb n 65536 && eqb (n % 2) 0) ≡ true
    back e =
        let h = both_true (eqb (n % 2) 0) (leb n 65534) e in
        rw (lt-ltb n 65536 (omega (arith, leb-true n 65534 h.1))) h.0

-- a part that may stand in a field
view_may : (f : Field) (s : List ℕ) (v : View) → may_stand f as_view s v ≡ (within_bytes s v && allowed f v.len)
view_may f s v = go (within_bytes s v) refl
  where
    go : (t : Bool) → within_bytes s v ≡ t → may_stand f as_view s v ≡ (within_bytes s v && allowed f v.len)
    go true e = may_in f s v e ∙ sym (ap (λ (b : Bool). b && allowed f v.len) e)
    go false e = may_out f s v e ∙ sym (ap (λ (b : Bool). b && allowed f v.len) e)

opt_may : (f : Field) (s : List ℕ) (o : OptView)
    → may_stand f (as_opt false) s o ≡ (opt_within s o && allowed f (opt_len o))
opt_may f s None = refl
opt_may f s (Some v) = view_may f s v

id_may : (s : List ℕ) (o : OptView) → may_stand session_id_of.0 (as_opt false) s o ≡ id_fits s o
id_may s o = opt_may session_id_of.0 s o
    ∙ ap (λ (b : Bool). opt_within s o && b)
    (rw (unless_is {A = ℕ → ℕ → Refusal} (leb (opt_len o) 32) (λ at behind. refusal Verify at 0))
    (narrow One (opt_len o) 32 (omega arith)))

ciphers_may : (s : List ℕ) (v : View) → may_stand ciphers.0 as_view s v ≡ ciphers_fit s v
ciphers_may s v = view_may ciphers.0 s v
    ∙ ap (λ (b : Bool). within_bytes s v && b)
    (rw (unless_is {A = ℕ → ℕ → Refusal} (eqb (v.len % 2) 0) (λ at behind. refusal LengthValue behind 0))
    (even v.len))

extensions_may : (s : List ℕ) (o : OptView) → may_stand extensions (as_opt false) s o ≡ extensions_fit s o
extensions_may s o = opt_may extensions s o ∙ ap (λ (b : Bool). opt_within s o && b) (plain Two (opt_len o))

part_may : (w : Width) (s : List ℕ) (v : View) → may_stand (sized (bytes_in w)) as_view s v ≡ part_fits (most w) s v
part_may w s v = view_may (sized (bytes_in w)) s v ∙ ap (λ (b : Bool). within_bytes s v && b) (plain w v.len)

-- how long a part is that lies within the bytes
view_length : (s : List ℕ) (v : View) (more : Bool) → (within_bytes s v && more) ≡ true → length (part_of s v) ≡ v.len
view_length s v more e =
    eqb-true _ _ (both_true (within_bytes s v) _
    (may_in (fixed v.len) s v (both_true (within_bytes s v) more e).0 ∙ eq-eqb v.len v.len refl)).1

opt_length : (s : List ℕ) (o : OptView) (more : Bool) → (opt_within s o && more) ≡ true
    → length (opt_part_of s o) ≡ opt_len o
opt_length s None more e = refl
opt_length s (Some v) more e = view_length s v more e

-- the hellos: which may be written, and how long they are
hello_case : {C : Type 0} (k : Form C) (msgType : ℕ) (s : List ℕ) (c : C) (fits : Bool) (n : ℕ) (out : List ℕ)
    → may_write k s c ≡ fits
    → (may_write k s c ≡ true → fits ≡ true → (4 + length (hello_bytes k s c) ≡ n)
    × (length (hello_bytes k s c) < 16777216))
    → Comes (message_text (head_text msgType) (hello_text k s c)) 0 out (where_fits fits n out) (BadLength ∷ NoRoom ∷ [])
hello_case k msgType s c fits n out m h =
    message_case msgType (length (hello_bytes k s c)) n fits out
    (λ e. let (l, b) = h (m ∙ e) e in (hello_message k msgType s c _ (m ∙ e) refl b, l))
    (λ e. hello_refused k msgType s c out {t = false} (sym (m ∙ e)) refl refl)

client_hello_lem : (s : List ℕ) (c : TlsClientHelloContents) (out : List ℕ)
    → Comes (message_text (head_text 0x01) (hello_text client s c)) 0 out (client_write s c out) (BadLength ∷ NoRoom ∷ [])
unfolding client_write
client_hello_lem s c out =
    hello_case client 0x01 s c _ _ out
    (asked client s c
    ∙ also (view_may random.0 s c.random)
    (also (id_may s c.session_id)
    (also (ciphers_may s c.ciphers) (also (part_may One s c.comp) (extensions_may s c.ext)))))
    (λ m e.
    let o = obeyed client s c m in
    let l = client_length s c o in
    let (r, a) = both_true (random_fits s c.random) _ e in
    let (i, b) = both_true (id_fits s c.session_id) _ a in
    let (j, d) = both_true (ciphers_fit s c.ciphers) _ b in
    let (k, x) = both_true (part_fits 255 s c.comp) _ d in (
      omega (
        arith,
        l,
        opt_length s c.session_id _ i,
        view_length s c.ciphers _ j,
        view_length s c.comp _ k,
        opt_length s c.ext _ x,
      ),
      omega (arith, l, client_bounds s c o),
    ))

server_hello_lem : (s : List ℕ) (c : TlsServerHelloContents) (out : List ℕ)
    → Comes (message_text (head_text 0x02) (hello_text (server true) s c)) 0 out (server_write s c out)
    (BadLength ∷ NoRoom ∷ [])
unfolding server_write
server_hello_lem s c out =
    hello_case (server true) 0x02 s c _ _ out
    (asked (server true) s c
    ∙ also (view_may random.0 s c.random) (also (id_may s c.session_id) (extensions_may s c.ext)))
    (λ m e.
    let o = obeyed (server true) s c m in
    let l = server_length s c o in
    let (r, a) = both_true (random_fits s c.random) _ e in
    let (i, x) = both_true (id_fits s c.session_id) _ a in (
      omega (arith, l, opt_length s c.session_id _ i, opt_length s c.ext _ x),
      omega (arith, l, server_bounds s c o),
    ))

draft18_hello_lem : (s : List ℕ) (c : TlsServerHelloV13Draft18Contents) (out : List ℕ)
    → Comes (message_text (head_text 0x02) (hello_text draft18 s c)) 0 out (draft18_write s c out) (BadLength ∷ NoRoom ∷ [])
unfolding draft18_write
draft18_hello_lem s c out =
    hello_case draft18 0x02 s c _ _ out
    (asked draft18 s c ∙ also (view_may random.0 s c.random) (extensions_may s c.ext))
    (λ m e.
    let o = obeyed draft18 s c m in
    let l = draft18_length s c o in (
      omega (arith, l, opt_length s c.ext _ (both_true (random_fits s c.random) _ e).1),
      omega (arith, l, draft18_bounds s c o),
    ))

-- a part, as it is and behind its length
view_case : (msgType : ℕ) (s : List ℕ) (v : View) (out : List ℕ)
    → Comes (message_text (head_text msgType) (view_text s v)) 0 out (where_fits (part_fits 16777215 s v) (4 + v.len) out)
    (BadLength ∷ NoRoom ∷ [])
view_case msgType s v out =
    message_case msgType (length (part_of s v)) (4 + v.len) (part_fits 16777215 s v) out
    (λ e. (
      view_message s v msgType {t = true} (sym (part_may Three s v ∙ e)) refl (part_of s v) refl,
      omega (arith, view_length s v _ e),
    ))
    (λ e. view_refused s v msgType out {t = false} (sym (part_may Three s v ∙ e)) refl refl)

sized_case : (msgType : ℕ) (w : Width) → wide w ≤ 2 → (s : List ℕ) (v : View) (out : List ℕ)
    → Comes (message_text (head_text msgType) (sized_text (bytes_in w) s v)) 0 out
    (where_fits (part_fits (most w) s v) (4 + (wide w + v.len)) out) (BadLength ∷ NoRoom ∷ [])
sized_case msgType w h s v out =
    message_case msgType (wide w + length (part_of s v)) (4 + (wide w + v.len)) (part_fits (most w) s v) out
    (λ e. (
      sized-message s v (bytes_in w) {t = true} (sym (part_may w s v ∙ e)) refl (part_of s v) refl msgType
          (rw (width_wide w) h) (wide w) (sym (width_wide w)),
      omega (arith, view_length s v _ e),
    ))
    (λ e. sized_refused s v (bytes_in w) msgType out {t = false} (sym (part_may w s v ∙ e)) refl refl)

client_key_exchange_lem : (s : List ℕ) (k : TlsClientKeyExchangeContents) (out : List ℕ)
    → Comes (message_text (head_text 0x10) (exchange_text s k)) 0 out (exchange_write s k out) (BadLength ∷ NoRoom ∷ [])
client_key_exchange_lem s (Unknown v) out = view_case 0x10 s v out
client_key_exchange_lem s (Dh v) out = sized_case 0x10 Two (omega arith) s v out
client_key_exchange_lem s (Ecdh v) out = sized_case 0x10 One (omega arith) s v out

finished : (s : List ℕ) (v : View) (out : List ℕ)
    → Comes (message_text (head_text 0x14) (view_text s v)) 0 out (finished_write s v out) (BadLength ∷ NoRoom ∷ [])
finished s v out = view_case 0x14 s v out

head : (msgType n : ℕ) (out : List ℕ)
    → Comes (head_text msgType n) 0 out (where_fits (leb n 16777215) 4 out) (BadLength ∷ NoRoom ∷ [])
unfolding head_text number_text
head msgType n out = rw (width_most Three n) (go (leb n 16777215))
  where
    go : (t : Bool) → Comes (then (pick t (accepted (bytes_of 3 n)) (refused (unplaced BadLength)))
        (λ b. accepted (bytes_of 1 msgType ++ b))) 0 out (where_fits t 4 out) (BadLength ∷ NoRoom ∷ [])
    go true =
        wider BadLength (case_yes (bytes_of 1 msgType ++ bytes_of 3 n) 0 4 out refl (simp (length-append, length_bytes)))
    go false = case_no BadLength (NoRoom ∷ []) (text_refused 0 out refl).says

hello_request_lem : (out : List ℕ)
    → Comes (message_text (head_text 0x00) (accepted [])) 0 out (request_write out) (NoRoom ∷ [])
hello_request_lem out = message_yes 0x00 0 4 out (short_head 0x00 refl refl (omega arith), refl)

not_written : (out : List ℕ)
    → Comes not_written_of 0 out (refusing NotYetImplemented) (NotYetImplemented ∷ BadLength ∷ NoRoom ∷ [])
not_written out = case_no NotYetImplemented (BadLength ∷ NoRoom ∷ []) (text_refused 0 out refl).says

-- of each kind that is written, and of every other
of_written : (s out : List ℕ) (b : WrittenBody)
    → Comes (handshake_text s (message_of b)) 0 out (handshake_write s (message_of b) out)
    (NotYetImplemented ∷ BadLength ∷ NoRoom ∷ [])
unfolding handshake_text handshake_write
of_written s out no_body = wider NotYetImplemented (wider BadLength (hello_request_lem out))
of_written s out (client_body c) = wider NotYetImplemented (client_hello_lem s c out)
of_written s out (server_body c) = wider NotYetImplemented (server_hello_lem s c out)
of_written s out (draft18_body c) = wider NotYetImplemented (draft18_hello_lem s c out)
of_written s out (exchange_body k) = wider NotYetImplemented (client_key_exchange_lem s k out)
of_written s out (finished_body v) = wider NotYetImplemented (finished s v out)

of_other : (s out : List ℕ) (m : TlsMessageHandshake) → body_written m ≡ none
    → Comes (handshake_text s m) 0 out (handshake_write s m out) (NotYetImplemented ∷ BadLength ∷ NoRoom ∷ [])
unfolding handshake_text handshake_write
of_other s out m e = rw e (not_written out)

handshake : (s : List ℕ) (m : TlsMessageHandshake) (out : List ℕ)
    → Comes (handshake_text s m) 0 out (handshake_write s m out) (NotYetImplemented ∷ BadLength ∷ NoRoom ∷ [])
handshake s m out =
    by_written (λ x. Comes (handshake_text s x) 0 out (handshake_write s x out)
    (NotYetImplemented ∷ BadLength ∷ NoRoom ∷ [])) (of_written s out) (λ x e a. of_other s out x e) m

-- the other messages of a record
cipher_byte : (out : List ℕ) → Comes cipher_spec_text 0 out (cipher_spec_write out) (NoRoom ∷ [])
unfolding cipher_spec_text
cipher_byte out = case_yes (1 ∷ []) 0 1 out refl refl

levels : (n : ℕ) → one_or_two n ≡ (leb 1 n && leb n 2)
levels n = go (eqb n 1) (eqb n 2) refl refl
  where
    neither : (t : Bool) → leb 1 n ≡ t → eqb n 1 ≡ false → eqb n 2 ≡ false → (leb 1 n && leb n 2) ≡ false
    neither true e p q = rw (e, lt-leb n 2 (omega (arith, leb-true 1 n e, eqb-false n 1 p, eqb-false n 2 q)))
    neither false e p q = rw e

    go : (a b : Bool) → eqb n 1 ≡ a → eqb n 2 ≡ b → one_or_two n ≡ (leb 1 n && leb n 2)
    go true b p q = let e : n ≡ 1 = eqb-true n 1 p in rw e
    go false true p q = let e : n ≡ 2 = eqb-true n 2 q in rw e
    go false false p q = rw (p, q) (sym (neither (leb 1 n) refl p q))

alert : (severity code : ℕ) (out : List ℕ)
    → Comes (alert_text severity code) 0 out (alert_write severity out) (BadLength ∷ NoRoom ∷ [])
unfolding alert_text
alert severity code out =
    case_by BadLength (severity ∷ code ∷ []) (leb 1 severity && leb severity 2) 0 2 out (rw (levels severity)) refl

content : (s : List ℕ) (m : TlsMessage) (out : List ℕ)
    → Comes (content_text s m) 0 out (content_write s m out) (NotYetImplemented ∷ BadLength ∷ NoRoom ∷ [])
unfolding content_text
content s (Handshake m) out = handshake s m out
content s ChangeCipherSpec out = wider NotYetImplemented (wider BadLength (cipher_byte out))
content s (Alert a) out = wider NotYetImplemented (alert a.severity a.code out)
content s (ApplicationData d) out = not_written out
content s (Heartbeat h) out = not_written out

plaintext : (hdr : TlsRecordHeader) (p out : List ℕ)
    → Comes (record_text hdr p) 0 out (record_write p out) (TooLarge ∷ NoRoom ∷ [])
unfolding record_text join
plaintext hdr p out =
    rw zero-add at
    (case_by {t = record_text hdr p} TooLarge (record_bytes hdr p) (leb (length p) 16640) 0 (5 + length p) out
    (rw (
      unless_is {A = ℕ → ℕ → Refusal} (leb (length p) 16640) (λ at behind. refusal TooLarge at 0),
      narrow Two (length p) 16640 (omega arith),
    ))
    (simp (length-append, length_bytes, append-nil) (omega arith)))

-- what they are made of
number : (w : Width) (n at : ℕ) (out : List ℕ)
    → Comes (number_text (bytes_in w) n) at out (where_fits (leb n (most w)) (at + wide w) out) (BadLength ∷ NoRoom ∷ [])
unfolding number_text
number w n at out =
    case_by BadLength (bytes_of (bytes_in w) n) (leb n (most w)) at (wide w) out (rw (width_most w n))
    (length_bytes (bytes_in w) n ∙ width_wide w)

field : (w : Width) (k : RuleName) (p : List ℕ) (at : ℕ) (out : List ℕ)
    → Comes (field_text (vector (bytes_in w) (rule_of k)) p) at out (field_write w k p at out) (rule_refuses k ∷ NoRoom ∷ [])
unfolding field_text
field w k p at out =
    case_by (rule_refuses k) (field_bytes (vector (bytes_in w) (rule_of k)) p)
    (leb (length p) (most w) && rule_fits k (length p)) at (wide w + length p) out
    (rw (also (width_most w (length p)) (fits k), unfit k))
    (length_vector (bytes_in w) (rule_of k) p ∙ rw (width_wide w))
  where
    fits : (k : RuleName) → allows (rule_of k) (length p) ≡ rule_fits k (length p)
    fits Plain = refl
    fits SessionId = unless_is _ _
    fits Ciphers = unless_is _ _
    fits Methods = refl
    fits Fragment = unless_is _ _

    unfit : (k : RuleName) → (rule_of k).unfit ≡ rule_refuses k
    unfit Plain = refl
    unfit SessionId = refl
    unfit Ciphers = refl
    unfit Methods = refl
    unfit Fragment = refl

pub every_writing : (s out : List ℕ) → Writers s out
every_writing s out = record {
  client_hello = λ c. client_hello_lem s c out;
  server_hello = λ c. server_hello_lem s c out;
  draft18_hello = λ c. draft18_hello_lem s c out;
  client_key_exchange = λ k. client_key_exchange_lem s k out;
  finished = λ v. finished s v out;
  hello_request = hello_request_lem out;
  handshake = λ m. handshake s m out;
  cipher_spec = cipher_byte out;
  alert = λ severity code. alert severity code out;
  content = λ m. content s m out;
  plaintext = λ hdr. plaintext hdr s out;
  number = λ w n at. number w n at out;
  bytes = λ at. case_yes s at (length s) out refl refl;
  field = λ w k at. field w k s at out;
  head = λ msgType n. head msgType n out;
}
