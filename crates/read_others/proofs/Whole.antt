-- What demand 3 says of the hellos, of these bodies, instances of the one theorem, and the ticket
-- by the length given. Assumes nothing.
use Prim.Native.Nat.{ℕ}
use mathlib.Core.Path.{refl}
use mathlib.Core.List.{List}
use native.Mathlib.Omega.{arith}
use lib.ListN.{take}
use Rattle.wire.specs.Numbers.{Bytes}
use Rattle.wire.proofs.Numbers.{bytes_take}
use Rattle.field.specs.Fields.{fixed}
use Rattle.field.proofs.Steps.{step_lacks}
use Rattle.grammar.specs.Demand3.{BySplit, Lawful}
use Rattle.grammar.specs.Closed.{ByClosedSplit, ClosedLawful}
use Rattle.grammar.proofs.Forms.{by_split}
use Rattle.grammar.proofs.Closed.{by_closed_split}
use Rattle.read_others.specs.Body.{retry, ticket_form, next_protocol, OfTicket}
use Rattle.read_others.proofs.Tickets.{under_4, past_end, alone, missing, unlike, like, too_long, behind, accepts}
use Rattle.read_others.proofs.Tickets.{splits, only}

retry_lawful : Lawful retry
retry_lawful =
    record { suits = (refl, (refl, tt)); handed = λ o e t. refl; block = λ o e t. refl; tail = λ o e t. refl }

next_protocol_lawful : Lawful next_protocol
next_protocol_lawful =
    record { suits = (tt, (tt, tt)); handed = λ o e t. refl; block = λ o e t. refl; tail = λ o e t. refl }

pub splits_retry_lem : (body : List ℕ) → Bytes body → BySplit retry body
splits_retry_lem = by_split retry retry_lawful

pub splits_next_protocol_lem : (body : List ℕ) → Bytes body → BySplit next_protocol body
splits_next_protocol_lem = by_split next_protocol next_protocol_lawful

ticket_lawful : ClosedLawful ticket_form
ticket_lawful =
    record { suits = (refl, tt); handed = λ o v n. refl; last_view = λ o v n. refl; end = λ o v n. refl }

pub splits_ticket_lem : (body : List ℕ) → Bytes body → ByClosedSplit ticket_form body
splits_ticket_lem = by_closed_split ticket_form ticket_lawful

pub of_ticket_lem : (n : ℕ) (body : List ℕ) → Bytes body → OfTicket n body
of_ticket_lem n s b = record {
  under4 = under_4 n s;
  short = λ h r f. past_end n s h (step_lacks (fixed n) s 0 r (omega arith) f);
  alone = λ h i. (alone n s h i, splits_ticket_lem (take n s) (bytes_take n s b));
  missing = missing n s;
  unlike = unlike n s;
  like = like n s;
  too_long_of = too_long n s b;
  behind = behind n s;
  accepts = accepts n s;
  splits = splits n s b;
  only = only n s;
}
