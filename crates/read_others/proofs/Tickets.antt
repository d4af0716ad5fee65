-- The NewSessionTicket by the length given and by the one that stands in it; and its split. Assumes
-- nothing.
use Prim.Native.Nat.{ℕ, ◌+◌, ◌-◌, ◌<◌, ◌≤◌}
use mathlib.Core.Path.{◌≡◌, refl, sym, ap, ◌∙◌}
use mathlib.Core.Bool.{Bool, true, false}
use mathlib.Core.List.{List, ◌++◌, append_assoc}
use native.Mathlib.Omega.{arith}
use borrow.Author.Tests.{lt-ltb, le-ltb, le-leb, ltb-true, ltb-false, leb-true, leb-false, eqb-true, eqb-false}
use lib.Dec.{ltb, leb, eqb}
use lib.ListN.{length, take, drop, take-append-drop, length-append}
use lib.Seq.{take_at, drop_at, length-take-le, take-append-le}
use Rattle.refusal.specs.Answers.{accepted, refused, giving}
use Rattle.refusal.specs.Refusals.{refusal}
use Rattle.refusal.specs.declared.Reason.TheVariants.{Incomplete, Verify, LengthValue}
use Rattle.refusal.specs.declared.Refusal.{Refusal}
use Rattle.refusal.proofs.Then.{not_both}
use Rattle.wire.specs.Numbers.{Bytes, be, bytes_of}
use Rattle.wire.specs.Parts.{part_of}
use Rattle.wire.specs.declared.view.Part.{Part}
use Rattle.wire.proofs.Parts.{found, part_in, part_out}
use Rattle.wire.proofs.Numbers.{length_bytes, be_drop, be_take, be_of, be_lt, of_be}
use Rattle.field.specs.Fields.{rule_of, fixed, sized, step}
use Rattle.field.specs.declared.RuleName.TheVariants.{Plain}
use Rattle.field.specs.Closing.{close_at}
use Rattle.field.proofs.Rules.{fixed_in}
use Rattle.field.proofs.Steps.{step_back, length_part}
use Rattle.field.proofs.Closing.{every_length, as_said}
use Rattle.grammar.specs.Closed.{closed}
use Rattle.grammar.proofs.Chain.{begin_closed, and, end}
use Rattle.read_others.specs.Body.{ticket_form, session_ticket, TicketSplit}
use Rattle.read_others.specs.declared.ticket.TlsNewSessionTicketContent.{TlsNewSessionTicketContent}

-- what is handed out where the length is like the bytes after it
abbrev pub content : ℕ → List ℕ → TlsNewSessionTicketContent
content n s = record { ticket_lifetime_hint = be 4 s 0; ticket = record { start = 6; len = n - 6 }; tail = n }

abbrev amiss : Refusal
amiss = refusal LengthValue 4 0

pub under_4 : (n : ℕ) (s : List ℕ) → n < 4 → session_ticket n s ≡ refused (refusal Verify 0 0)
unfolding session_ticket
under_4 n s h = rw (lt-ltb n 4 h)

pub past_end : (n : ℕ) (s : List ℕ) {r : Refusal} → 4 ≤ n → step (fixed n) s 0 ≡ refused r
    → session_ticket n s ≡ refused r
unfolding session_ticket
past_end n s h e = rw (le-ltb n 4 h, e)

pub inside : (n : ℕ) (s : List ℕ) {p : Part} → 4 ≤ n → step (fixed n) s 0 ≡ accepted p
    → session_ticket n s ≡ closed ticket_form (part_of s p.view)
unfolding session_ticket
inside n s h e = rw (le-ltb n 4 h, e)

pub alone : (n : ℕ) (s : List ℕ) → 4 ≤ n → n ≤ length s → session_ticket n s ≡ closed ticket_form (take n s)
alone n s h i = inside n s h (fixed_in n s 0 (omega arith)) ∙ rw (le-leb (0 + n) (length s) (omega arith))

pub too_few : (n : ℕ) (s : List ℕ) → length s < n
    → step (fixed n) s 0 ≡ refused (refusal Incomplete 0 (n - (length s - 0)))
unfolding step
too_few n s h = part_out Incomplete s 0 n (omega arith)

-- n bytes by themselves: the last field decides
closes : (n : ℕ) (s : List ℕ) → 4 ≤ n → n ≤ length s
    → session_ticket n s ≡ giving (λ p. record { ticket_lifetime_hint = be 4 s 0; ticket = p.view; tail = p.next })
    (close_at (sized 2) amiss (take n s) 4)
closes n s h i =
    let l : length (take n s) ≡ n = length-take-le n s i in
    alone n s h i
    ∙ end (and (begin_closed ticket_form (take n s)) (fixed_in 4 (take n s) 0 (rw l h)))
    ∙ rw (be_take 4 n s 0 h)

pub missing : (n : ℕ) (s : List ℕ) → 4 ≤ n → n < 6 → n ≤ length s → session_ticket n s ≡ refused amiss
missing n s h u i =
    let l : length (take n s) ≡ n = length-take-le n s i in
    closes n s h i ∙ rw ((every_length 2 (rule_of Plain) amiss (take n s) 4).missing (rw l u))

pub unlike : (n : ℕ) (s : List ℕ) → 6 ≤ n → n ≤ length s → (be 2 s 4 ≡ n - 6 → ⊥) → session_ticket n s ≡ refused amiss
unlike n s h i not =
    let l : length (take n s) ≡ n = length-take-le n s i in
    let m : be 2 (take n s) 4 ≡ be 2 s 4 = be_take 2 n s 4 h in
    closes n s (omega arith) i ∙ rw ((every_length 2 (rule_of Plain) amiss (take n s) 4).unlike (rw l h) (rw (l, m) not))

pub like : (n : ℕ) (s : List ℕ) → 6 ≤ n → n ≤ length s → be 2 s 4 ≡ n - 6 → session_ticket n s ≡ accepted (content n s)
like n s h i e =
    let l : length (take n s) ≡ n = length-take-le n s i in
    let m : be 2 (take n s) 4 ≡ be 2 s 4 = be_take 2 n s 4 h in
    closes n s (omega arith) i
    ∙ rw ((every_length 2 (rule_of Plain) amiss (take n s) 4).like (rw l h) (rw (l, m) e) refl, l)

-- what it can be: under 4, more than the bytes, without a length, or with one that is unlike the
-- bytes after it or like them
pub data Which (n : ℕ) (s : List ℕ) : Type 0 where
  short : n < 4 → Which n s
  past : 4 ≤ n → length s < n → Which n s
  lacking : 4 ≤ n → n < 6 → n ≤ length s → Which n s
  wrong : 6 ≤ n → n ≤ length s → (be 2 s 4 ≡ n - 6 → ⊥) → Which n s
  right : 6 ≤ n → n ≤ length s → be 2 s 4 ≡ n - 6 → Which n s

pub which : (n : ℕ) (s : List ℕ) → Which n s
which n s = by-four (ltb n 4) refl
  where
    by_length : 6 ≤ n → n ≤ length s → (t : Bool) → eqb (be 2 s 4) (n - 6) ≡ t → Which n s
    by_length h i true q = right h i (eqb-true (be 2 s 4) (n - 6) q)
    by_length h i false q = wrong h i (eqb-false (be 2 s 4) (n - 6) q)

    by-six : 4 ≤ n → n ≤ length s → (t : Bool) → ltb n 6 ≡ t → Which n s
    by-six h i true q = lacking h (ltb-true n 6 q) i
    by-six h i false q = by_length (ltb-false n 6 q) i (eqb (be 2 s 4) (n - 6)) refl

    by_end : 4 ≤ n → (t : Bool) → leb n (length s) ≡ t → Which n s
    by_end h true q = by-six h (leb-true n (length s) q) (ltb n 6) refl
    by_end h false q = past h (leb-false n (length s) q)

    by-four : (t : Bool) → ltb n 4 ≡ t → Which n s
    by-four true q = short (ltb-true n 4 q)
    by-four false q = by_end (ltb-false n 4 q) (leb n (length s)) refl

-- what was accepted was there, with a length like the bytes after it
record Was (n : ℕ) (s : List ℕ) : Type 0 where
  six : 6 ≤ n
  there : n ≤ length s
  alike : be 2 s 4 ≡ n - 6

accepted_was : (n : ℕ) (s : List ℕ) {c : TlsNewSessionTicketContent} → session_ticket n s ≡ accepted c → Was n s
accepted_was n s e = go (which n s)
  where
    go : Which n s → Was n s
    go (short h) = absurd (not_both e (under_4 n s h))
    go (past h i) = absurd (not_both e (past_end n s h (too_few n s i)))
    go (lacking h u i) = absurd (not_both e (missing n s h u i))
    go (wrong h i not) = absurd (not_both e (unlike n s h i not))
    go (right h i q) = record { six = h; there = i; alike = q }

-- and it is what is handed out
pub accepted_is : (n : ℕ) (s : List ℕ) {c : TlsNewSessionTicketContent} → session_ticket n s ≡ accepted c → (6 ≤ n)
    × (c ≡ content n s)
accepted_is n s {c} e =
    let w = accepted_was n s e in
    let d : accepted c ≡ accepted (content n s) = sym e ∙ like n s w.six w.there w.alike in
    (w.six, cc)

pub too_long : (n : ℕ) (s : List ℕ) → Bytes s → 65541 < n → (c : TlsNewSessionTicketContent)
    → session_ticket n s ≡ accepted c → ⊥
too_long n s b h c e =
    let w = accepted_was n s e in
    let l : be 2 s 4 < 65536 = be_lt 2 s 4 b in
    omega (arith, w.alike, l)

pub behind : (n : ℕ) (s : List ℕ) → n ≤ length s → (more : List ℕ) → session_ticket n (s ++ more) ≡ session_ticket n s
behind n s i more = go (ltb n 4) refl
  where
    go : (t : Bool) → ltb n 4 ≡ t → session_ticket n (s ++ more) ≡ session_ticket n s
    go true q = under_4 n (s ++ more) (ltb-true n 4 q) ∙ sym (under_4 n s (ltb-true n 4 q))
    go false q =
        let h = ltb-false n 4 q in
        alone n (s ++ more) h (rw length-append (omega arith))
        ∙ rw (take-append-le n s more i) (sym (alone n s h i))

apart : (n : ℕ) (l m x y : List ℕ) → length l ≡ n → length m ≡ n → l ++ x ≡ m ++ y → (l ≡ m) × (x ≡ y)
apart n l m x y a b e =
    (sym (take_at l x n a) ∙ ap (take n) e ∙ take_at m y n b, sym (drop_at l x n a) ∙ ap (drop n) e ∙ drop_at m y n b)

pub only : (n : ℕ) (s l m t u x y : List ℕ) → TicketSplit n s l t x → TicketSplit n s m u y → (l ≡ m) × (t ≡ u)
    × (x ≡ y)
only n s l m t u x y (a, b, c, d) (a', b', c', d') =
    let p = apart 4 l m (bytes_of 2 (length t) ++ (t ++ x)) (bytes_of 2 (length u) ++ (u ++ y)) a a' (sym d ∙ d') in
    let q = apart 2 (bytes_of 2 (length t)) (bytes_of 2 (length u)) (t ++ x) (u ++ y) (length_bytes 2 (length t))
    (length_bytes 2 (length u)) p.1 in
    let r = apart (length t) t u x y refl (omega arith) q.1 in
    (p.0, r.0, r.1)

pub accepts : (n : ℕ) (s l t x : List ℕ) → TicketSplit n s l t x
    → session_ticket n s ≡ accepted (record {
      ticket_lifetime_hint = be 4 l 0;
      ticket = record { start = 6; len = length t };
      tail = n;
    })
accepts n s l t x (a, b, c, d) =
    let f : drop 4 s ≡ bytes_of 2 (length t) ++ (t ++ x) = rw d (drop_at l _ 4 a) in
    let z : length s ≡ 4 + (2 + (length t + length x)) = rw d (simp (length-append, length_bytes, a)) in
    let m : be 2 s 4 ≡ length t = be_drop 2 s 4 ∙ rw f (be_of 2 (length t) (t ++ x) b) in
    let k : be 4 s 0 ≡ be 4 l 0 =
    sym (be_take 4 4 s 0 (omega arith)) ∙ rw d (ap (λ (y : List ℕ). be 4 y 0) (take_at l _ 4 a)) in
    let g : n - 6 ≡ length t = omega arith in
    like n s (omega arith) (omega arith) (m ∙ sym g) ∙ rw (k, g)

content_splits : (n : ℕ) (s : List ℕ) → Bytes s → Was n s
    → TicketSplit n s (bytes_of 4 (be 4 s 0)) (part_of s (record { start = 6; len = n - 6 })) (drop n s)
content_splits n s b w =
    let h = w.six in
    let i = w.there in
    let m : 6 + (n - 6) ≡ n = omega arith in
    let k : length (part_of s (record { start = 6; len = n - 6 })) ≡ n - 6 = length_part s 6 (n - 6) (omega arith) in
    let t : step (sized 2) s 4 ≡ accepted (found 6 (n - 6)) =
    as_said 2 (rule_of Plain) s 4 (omega arith) refl ∙ rw w.alike (part_in Incomplete s 6 (n - 6) (omega arith)) in
    let p = part_of s (record { start = 6; len = n - 6 }) in
    let d : drop 4 s ≡ bytes_of 2 (length p) ++ (p ++ drop n s) =
    (step_back (sized 2) s 4 b t).bytes ∙ append_assoc (bytes_of 2 (length p)) p (drop (6 + (n - 6)) s)
    ∙ ap (λ (j : ℕ). bytes_of 2 (length p) ++ (p ++ drop j s)) m in
    let l : be 2 s 4 < 65536 = be_lt 2 s 4 b in (
      length_bytes 4 (be 4 s 0),
      omega (arith, k, w.alike, l),
      omega (arith, k),
      rw (of_be 4 s b (omega arith), ← d) (sym (take-append-drop 4 s)),
    )

pub splits : (n : ℕ) (s : List ℕ) → Bytes s → (c : TlsNewSessionTicketContent) → session_ticket n s ≡ accepted c
    → TicketSplit n s (bytes_of 4 c.ticket_lifetime_hint) (part_of s c.ticket) (drop c.tail s)
splits n s b c e = rw (accepted_is n s e).1 (content_splits n s b (accepted_was n s e))
