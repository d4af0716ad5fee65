-- A case gives no refusal but these: shown of the checks that it makes, by looking each of their
-- refusals up. Assumes nothing.
use Prim.Native.Nat.{ℕ, ◌+◌}
use mathlib.Core.Path.{◌≡◌, refl}
use mathlib.Core.Logic.{inl, inr}
use mathlib.Core.List.{List, [], ◌∷◌}
use mathlib.Core.Bool.{Bool, true, false, ◌&&◌}
use borrow.Author.Tests.{eqb-true}
use lib.Dec.{eqb}
use lib.ListN.{take, drop}
use Rattle.refusal.specs.Answers.{Answer, accepted, refused, number_in}
use Rattle.refusal.specs.Refusals.{number_of, OneOf}
use Rattle.refusal.specs.declared.Reason.{Reason}
use Rattle.refusal.specs.declared.Reason.TheVariants.{Incomplete, Complete, Verify, LengthValue, Tag, Switch}
use Rattle.refusal.specs.declared.Reason.TheVariants.{TooLarge, NoSuch}
use Rattle.refusal.proofs.Told.{its_reason}
use Rattle.wire.specs.Parts.{pick}
use Rattle.wire.specs.Numbers.{be}
use Rattle.field.proofs.Texts.{both_true}
use Rattle.list.specs.Items.{or_no_such}
use Rattle.content_walk.specs.declared.TlsRecordWalk.{TlsRecordWalk}
use Rattle.claim_readers.specs.Readers.{All, ◌&◌, end, Check, of_message, in_order, beside, client_case, strict_case}
use Rattle.claim_readers.specs.Readers.{server_case}
use Rattle.claim_readers.specs.Readers.{by_version_case, draft18_case, server_message_case, retry_case, ticket_case}
use Rattle.claim_readers.specs.Readers.{certificate_case, request_case, status_case, next_protocol_case}
use Rattle.claim_readers.specs.Readers.{key_update_case, whole_case, opened_case, body_case, met_case, of_first}
use Rattle.claim_readers.specs.Readers.{cipher_spec_case, alert_case, application_case, heartbeat_case}
use Rattle.claim_readers.specs.Readers.{heartbeat_in_case, found_case, record_type_case, plaintext_case, many_case}
use Rattle.claim_readers.specs.Readers.{place_case, or_none, walk_case, walk_by_type_case, walk_records_case}

-- the number is 0 or that of one of these, with the list in sight
pub record Only (whys : List Reason) (n : ℕ) : Type 0 where
  pub given : OneOf whys n

-- whether a number is 0 or one of these
abbrev has : List Reason → ℕ → Bool
has [] n = eqb n 0
has (why ∷ whys) n = pick (eqb n (number_of why)) true (has whys n)

has_one : (whys : List Reason) (n : ℕ) → has whys n ≡ true → OneOf whys n
has_one [] n e = eqb-true n 0 e
has_one (why ∷ whys) n e = go (eqb n (number_of why)) refl (λ x. has_one whys n x)
  where
    go : (t : Bool) → eqb n (number_of why) ≡ t → (has whys n ≡ true → OneOf whys n) → OneOf (why ∷ whys) n
    go true q ih = inl (eqb-true n (number_of why) q)
    go false q ih = inr (ih (rw q at e))

has_only : (whys : List Reason) (n : ℕ) → has whys n ≡ true → Only whys n
has_only whys n e = record { given = has_one whys n e }

none_one : (whys : List Reason) → OneOf whys 0
none_one [] = refl
none_one (why ∷ whys) = inr (none_one whys)

pub none_refused : {whys : List Reason} → Only whys 0
none_refused {whys} = record { given = none_one whys }

-- of two such numbers either is one
either_way : {whys : List Reason} {a b : ℕ} (t : Bool) → Only whys a → Only whys b → Only whys (pick t a b)
either_way true p q = p
either_way false p q = q

-- whether the refusals of checks are among these
abbrev has_all : List Reason → List Check → Bool
has_all whys [] = true
has_all whys ((t, why) ∷ checks) = has whys (number_of why) && has_all whys checks

-- checks and what is left to say
pub only_order : {whys : List Reason} {k : ℕ} (checks : List Check) → has_all whys checks ≡ true → Only whys k
    → Only whys (in_order checks k)
unfolding in_order
only_order [] h o = o
only_order {whys} ((t, why) ∷ checks) h o =
    let p = both_true (has whys (number_of why)) (has_all whys checks) h in
    either_way t (has_only whys (number_of why) p.0) (only_order checks p.1 o)

pub checks_only : {whys : List Reason} (checks : List Check) → has_all whys checks ≡ true → Only whys (in_order checks 0)
checks_only checks h = only_order checks h none_refused

-- what stands beside a number
beside_only : {whys : List Reason} {other : ℕ} (k : ℕ) (table : List (ℕ × ℕ))
    → All (λ (x : ℕ × ℕ). Only whys x.1) table → Only whys other
    → Only whys (beside k table other)
unfolding beside
beside_only k [] end o = o
beside_only k (x ∷ rest) (p & ps) o = either_way (eqb k x.0) p (beside_only k rest ps o)

pub strict_only : (s : List ℕ) → Only (Incomplete ∷ Verify ∷ LengthValue ∷ []) (strict_case s)
unfolding strict_case client_case
strict_only s = either_way (eqb (client_case s) 0) (checks_only _ refl) (checks_only _ refl)

pub server_message_only : (s : List ℕ) → Only (Incomplete ∷ Verify ∷ Tag ∷ []) (server_message_case s)
unfolding server_message_case draft18_case by_version_case server_case
server_message_only s =
    only_order _ refl (either_way (eqb (be 2 s 0) 0x7f12) (checks_only _ refl) (only_order _ refl (checks_only _ refl)))

pub opened_only : (n k : ℕ) (s : List ℕ) → Only of_message (opened_case k n s)
unfolding opened_case client_case server_message_case draft18_case by_version_case server_case ticket_case retry_case certificate_case whole_case request_case status_case next_protocol_case key_update_case
opened_only n k s =
    beside_only k _
    (none_refused
    & none_refused
    & checks_only _ refl
    & only_order _ refl (either_way (eqb (be 2 s 0) 0x7f12) (checks_only _ refl)
    (only_order _ refl (checks_only _ refl)))
    & checks_only _ refl & checks_only _ refl & checks_only _ refl & checks_only _ refl
    & checks_only _ refl & checks_only _ refl & checks_only _ refl & checks_only _ refl
    & checks_only _ refl & checks_only _ refl & checks_only _ refl & checks_only _ refl
    & end)
    (has_only of_message (number_of Switch) refl)

pub met_only : (at : ℕ) (s : List ℕ) → Only of_message (met_case at s)
unfolding met_case body_case
met_only at s = only_order _ refl (opened_only _ (be 1 s at) (take (be 3 s (at + 1)) (drop (at + 4) s)))

pub heartbeat_in_only : (n : ℕ) (s : List ℕ) → Only (Incomplete ∷ LengthValue ∷ []) (heartbeat_in_case n s)
unfolding heartbeat_in_case heartbeat_case
heartbeat_in_only n s = only_order _ refl (checks_only _ refl)

pub found_only : (t at : ℕ) (s : List ℕ) → Only of_message (found_case t at s)
unfolding found_case cipher_spec_case alert_case application_case heartbeat_case
found_only t at s =
    beside_only t _
    (checks_only _ refl & checks_only _ refl & met_only at s & none_refused & checks_only _ refl & end)
    (has_only of_message (number_of Switch) refl)

-- Complete for Incomplete
of_first_only : {whys : List Reason} {c : ℕ} → Only whys (number_of Complete) → Only whys c → Only whys (of_first c)
of_first_only {c} p q = either_way (eqb c 1) p q

pub content_only : (t : ℕ) (content : List ℕ) → Only of_message (record_type_case t content)
unfolding record_type_case heartbeat_case
content_only t content =
    only_order _ refl (beside_only t _
    (checks_only _ refl
    & checks_only _ refl
    & of_first_only (has_only _ (number_of Complete) refl) (met_only 0 content)
    & checks_only _ refl
    & end)
    none_refused)

pub plaintext_only : (s : List ℕ) → Only (TooLarge ∷ of_message) (plaintext_case s)
unfolding plaintext_case
plaintext_only s =
    only_order _ refl (record { given = inr (content_only (be 1 s 0) (take (be 2 s 3) (drop 5 s))).given })

-- Complete for Incomplete, so that it is not Incomplete
pub many_only : (s : List ℕ)
    → Only (TooLarge ∷ Complete ∷ Verify ∷ LengthValue ∷ Tag ∷ Switch ∷ []) (many_case s)
unfolding many_case
many_only s = go (plaintext_case s) (plaintext_only s).given
  where
    go : (c : ℕ) → OneOf (TooLarge ∷ of_message) c
        → Only (TooLarge ∷ Complete ∷ Verify ∷ LengthValue ∷ Tag ∷ Switch ∷ []) (of_first c)
    go c (inl e) = rw e (has_only _ (number_of TooLarge) refl)
    go c (inr (inl e)) = rw e (has_only _ (number_of Complete) refl)
    go c (inr (inr o)) = of_first_only (has_only _ (number_of Complete) refl) (record { given = inr o })

pub place_only : (k count : ℕ) → Only (NoSuch ∷ []) (place_case k count)
unfolding place_case
place_only k count = checks_only _ refl

none_only : (c : ℕ) → Only (NoSuch ∷ []) (or_none c)
none_only c = either_way (eqb c 0) none_refused (has_only _ (number_of NoSuch) refl)

pub walk_only : (at : ℕ) (s : List ℕ) → Only (NoSuch ∷ []) (walk_case at s)
unfolding walk_case
walk_only at s = none_only (met_case at s)

pub walk_by_type_only : (w : TlsRecordWalk) (s : List ℕ) → Only (NoSuch ∷ []) (walk_by_type_case w s)
unfolding walk_by_type_case
walk_by_type_only w s = only_order _ refl (none_only (found_case w.record_type w.next s))

pub walk_records_only : (at : ℕ) (s : List ℕ) → Only (NoSuch ∷ []) (walk_records_case at s)
unfolding walk_records_case
walk_records_only at s = none_only (plaintext_case (drop at s))

-- where none is found it is NoSuch
pub no_such : {A : Type 0} (x : Answer A) → Only (NoSuch ∷ []) (number_in (or_no_such x))
no_such (accepted a) = none_refused
no_such (refused r) = rw (its_reason NoSuch 0 0) (has_only (NoSuch ∷ []) (number_of NoSuch) refl)
