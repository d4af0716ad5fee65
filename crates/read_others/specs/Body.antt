-- The bodies of a HelloRetryRequest, a NewSessionTicket and a NextProtocol: RULES 4.2, 4.3, 4.11;
-- draft-ietf-tls-tls13-18 4.1.4, RFC 5077 3.3, draft-agl-tls-nextprotoneg-03.
use Rattle.std.specs.Prelude.{◌+◌, ◌-◌, ◌<◌, ◌≤◌, ◌≡◌, ◌∷◌, ◌++◌}
use Rattle.refusal.specs.{ℕ, List, [], none, some, ltb, length, take, drop, refusal, Answer, accepted, refused, then, Incomplete, Verify, LengthValue, Refusal}
use Rattle.wire.specs.{pick, part_of, be, bytes_of, None}
use Rattle.field.specs.{fixed, sized, step, TooFew}
use Rattle.grammar.specs.{as_view, as_number, version, cipher, extensions, Form, ClosedForm, closed, ByClosedSplit}
use Rattle.read_others.specs.declared.{next_protocol.TlsNextProtocolContent.TlsNextProtocolContent, retry.TlsHelloRetryRequestContents.TlsHelloRetryRequestContents, ticket.TlsNewSessionTicketContent.TlsNewSessionTicketContent}

-- RULES 4.3: HelloRetryRequest; draft-ietf-tls-tls13-18 4.1.4
abbrev pub retry : Form TlsHelloRetryRequestContents
retry = record {
  grammar = record { rows = version ∷ cipher ∷ []; block = some extensions };
  value = λ (v, (c, _)) e t. record { version = v; cipher = c; ext = e; tail = t };
  handed = λ c. (c.version, (c.cipher, tt));
  block = λ c. c.ext;
  tail = λ c. c.tail;
}

-- RULES 4.11: NextProtocol; draft-agl-tls-nextprotoneg-03
abbrev pub next_protocol : Form TlsNextProtocolContent
next_protocol = record {
  grammar = record { rows = (sized 1, as_view) ∷ (sized 1, as_view) ∷ []; block = none };
  value = λ (protocol, (padding, _)) e t. record { selected_protocol = protocol; padding = padding; tail = t };
  handed = λ c. (c.selected_protocol, (c.padding, tt));
  block = λ c. None;
  tail = λ c. c.tail;
}

-- RULES 4.2: NewSessionTicket; RFC 5077 3.3: the lifetime, and the ticket behind its length, which
-- has to end with the body
abbrev pub ticket_form : ClosedForm TlsNewSessionTicketContent
ticket_form = record {
  rows = (fixed 4, as_number 4) ∷ [];
  last = sized 2;
  value = λ (lifetime, _) ticket end. record { ticket_lifetime_hint = lifetime; ticket = ticket; tail = end };
  handed = λ c. (c.ticket_lifetime_hint, tt);
  last_view = λ c. c.ticket;
  end = λ c. c.tail;
}

-- a body of n bytes: 4.14: Verify comes before Incomplete, and both before LengthValue; the n bytes
-- are opened by themselves
unfoldable pub session_ticket : ℕ → List ℕ → Answer TlsNewSessionTicketContent
session_ticket n s =
    pick (ltb n 4) (refused (refusal Verify 0 0))
    (then (step (fixed n) s 0) (λ whole. closed ticket_form (part_of s whole.view)))

-- RFC 5077 3.3, with no reader in it: the body is a lifetime, a length, a ticket of that length,
-- which are n bytes together, and what follows them
abbrev pub TicketSplit : ℕ → List ℕ → List ℕ → List ℕ → List ℕ → Type 0
TicketSplit n body lifetime ticket after = (length lifetime ≡ 4) × (length ticket < 65536) × (6 + length ticket ≡ n) × (body ≡ lifetime ++ (bytes_of 2 (length ticket) ++ (ticket ++ after)))

-- what is shown of a ticket of n bytes by `proofs/Whole.antt`
pub record OfTicket (n : ℕ) (body : List ℕ) : Type 0 where
  pub under4 : n < 4 → session_ticket n body ≡ refused (refusal Verify 0 0)
  pub short : 4 ≤ n → (r : Refusal) → TooFew Incomplete n 0 body r → session_ticket n body ≡ refused r
  -- then the n bytes are read by themselves, and of these holds what does of a closed form
  pub alone : 4 ≤ n → n ≤ length body → (session_ticket n body ≡ closed ticket_form (take n body)) × ByClosedSplit ticket_form (take n body)
  -- the length is missing, or unlike the bytes after it, or like them
  pub missing : 4 ≤ n → n < 6 → n ≤ length body → session_ticket n body ≡ refused (refusal LengthValue 4 0)
  pub unlike : 6 ≤ n → n ≤ length body → (be 2 body 4 ≡ n - 6 → ⊥) → session_ticket n body ≡ refused (refusal LengthValue 4 0)
  pub like : 6 ≤ n → n ≤ length body → be 2 body 4 ≡ n - 6 → session_ticket n body ≡ accepted (record { ticket_lifetime_hint = be 4 body 0; ticket = record { start = 6; len = n - 6 }; tail = n })
  -- two bytes of length announce 65,535 at most
  pub too_long_of : 65541 < n → (c : TlsNewSessionTicketContent) → session_ticket n body ≡ accepted c → ⊥
  -- what stands behind the n bytes is not looked at
  pub behind : n ≤ length body → (more : List ℕ) → session_ticket n (body ++ more) ≡ session_ticket n body
  -- a body that splits is accepted, with what it splits into
  pub accepts : (l t x : List ℕ) → TicketSplit n body l t x → session_ticket n body ≡ accepted (record { ticket_lifetime_hint = be 4 l 0; ticket = record { start = 6; len = length t }; tail = n })
  -- a body that is accepted splits into what the value names
  pub splits : (c : TlsNewSessionTicketContent) → session_ticket n body ≡ accepted c → TicketSplit n body (bytes_of 4 c.ticket_lifetime_hint) (part_of body c.ticket) (drop c.tail body)
  -- the split is the only one
  pub only : (l m t u x y : List ℕ) → TicketSplit n body l t x → TicketSplit n body m u y → (l ≡ m) × (t ≡ u) × (x ≡ y)
