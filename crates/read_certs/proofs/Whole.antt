-- Each body that speaks of certificates is accepted exactly when it splits by its grammar,
-- instances of the one theorem. Assumes nothing.
use Prim.Native.Nat.{ℕ}
use mathlib.Core.Path.{refl}
use mathlib.Core.Bool.{Bool, true, false}
use mathlib.Core.List.{List}
use Rattle.wire.specs.Numbers.{Bytes}
use Rattle.grammar.specs.Demand3.{BySplit, Lawful}
use Rattle.grammar.proofs.Forms.{by_split}
use Rattle.read_certs.specs.Certs.{certificate, request, certificate_request}
use Rattle.read_certs.specs.Certs.{status, OfRequest}

certificate_lawful : Lawful certificate
certificate_lawful = record { suits = (tt, tt); handed = λ o e t. refl; block = λ o e t. refl; tail = λ o e t. refl }

request_lawful : (long : Bool) → Lawful (request long)
request_lawful long =
    record { suits = (tt, (tt, (tt, tt))); handed = λ o e t. refl; block = λ o e t. refl; tail = λ o e t. refl }

status_lawful : Lawful status
status_lawful = record { suits = (refl, (tt, tt)); handed = λ o e t. refl; block = λ o e t. refl; tail = λ o e t. refl }

pub splits_certificate_lem : (body : List ℕ) → Bytes body → BySplit certificate body
splits_certificate_lem = by_split certificate certificate_lawful

pub splits_request_lem : (long : Bool) (body : List ℕ) → Bytes body → BySplit (request long) body
splits_request_lem long = by_split (request long) (request_lawful long)

pub splits_status_lem : (body : List ℕ) → Bytes body → BySplit status body
splits_status_lem = by_split status status_lawful

-- the two forms one after the other, by the theorem of each
pub of_request_lem : (body : List ℕ) → Bytes body → OfRequest body
unfolding certificate_request
of_request_lem s b =
    let l = splits_request_lem true s b in
    let h = splits_request_lem false s b in
    record {
      as_long = λ x y. rw (l.accepts x y);
      as_short = λ r f x y. rw (l.refuses r f, h.accepts x y);
      neither = λ r t f g. rw (l.refuses r f, h.refuses t g);
    }
