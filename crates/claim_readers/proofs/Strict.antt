-- The number of the strict ClientHello is its case of `specs/Readers.antt`: the checks of the plain
-- one, and then those of the lists and of the tail. Assumes nothing.
use Prim.Native.Nat.{ℕ, ◌+◌, ◌-◌, ◌≤◌, ◌<◌}
use mathlib.Core.Path.{◌≡◌, refl, sym, ap, subst, ◌∙◌}
use mathlib.Core.List.{List, [], ◌∷◌}
use mathlib.Core.Logic.{◌⊎◌, inl, inr}
use mathlib.Core.Bool.{Bool, true, false, ◌||◌}
use mathlib.Core.Option.{Option, none, some}
use native.Mathlib.Omega.{arith}
use borrow.Author.Tests.{leb-true, leb-false, ltb-false, eq-eqb, ne_eqb, eqb-true, eqb-false}
use lib.ListN.{length, drop, length-drop}
use lib.Dec.{leb, ltb, eqb}
use Rattle.refusal.specs.Answers.{Answer, accepted, refused, number_in}
use Rattle.refusal.specs.Refusals.{number_of, refusal}
use Rattle.refusal.specs.declared.Reason.TheVariants.{Incomplete, LengthValue}
use Rattle.refusal.specs.declared.Reason.{Reason}
use Rattle.refusal.specs.declared.Refusal.{Refusal}
use Rattle.refusal.proofs.Told.{its_reason, not_zero_lem}
use Rattle.wire.specs.Parts.{pick, if_some, part_of}
use Rattle.wire.specs.Numbers.{be}
use Rattle.wire.specs.declared.view.Part.{Part}
use Rattle.wire.proofs.Parts.{found, part_in, part_out}
use Rattle.wire.proofs.Numbers.{number_got, number_no}
use Rattle.field.specs.Fields.{fixed, vector, rule_of, step}
use Rattle.field.specs.declared.RuleName.TheVariants.{Plain}
use Rattle.field.proofs.Rules.{ruled_in}
use Rattle.field.proofs.Steps.{length_part}
use Rattle.grammar.specs.Grammars.{Row}
use Rattle.grammar.specs.Hellos.{extensions, client_hello, client_to_fill}
use Rattle.grammar.specs.Reading.{if_fits, block_at, last_at}
use Rattle.grammar.specs.Strict.{if_exact, strictly}
use Rattle.read_client.specs.Client.{client, strict_client}
use Rattle.read_client.specs.declared.TlsClientHelloContents.{TlsClientHelloContents}
use Rattle.claim_readers.specs.Readers.{Check, in_order, if_accepted, client_case, strict_case}
use Rattle.claim_readers.proofs.Checks.{asked, rows_number, form_then, form_number, value_at}
use Rattle.claim_readers.proofs.Readers.{client_hello_lem}

-- a test for 0 that holds where one of two others does
either_of : (x l m n : ℕ) → (x ≡ 0 → (l ≡ m) ⊎ (l ≡ n)) → ((l ≡ m) ⊎ (l ≡ n) → x ≡ 0) → eqb x 0 ≡ (eqb l m || eqb l n)
either_of x l m n f g = go (eqb l m) refl (eqb l n) refl
  where
    neither : eqb l m ≡ false → eqb l n ≡ false → (l ≡ m) ⊎ (l ≡ n) → ⊥
    neither p q (inl e) = eqb-false l m p e
    neither p q (inr e) = eqb-false l n q e

    go : (t : Bool) → eqb l m ≡ t → (u : Bool) → eqb l n ≡ u → eqb x 0 ≡ (eqb l m || eqb l n)
    go true p u q = rw p (eq-eqb x 0 (g (inl (eqb-true l m p))))
    go false p true q = rw (p, q) (eq-eqb x 0 (g (inr (eqb-true l n q))))
    go false p false q = rw (p, q) (ne_eqb x 0 (λ e. neither p q (f e)))

-- the tail behind fields that end at a place is empty where the bytes end there, or behind
-- extensions
module _ (s : List ℕ) (at : ℕ) (h : at ≤ length s) where
  abbrev past : ℕ
  past = (last_at (some extensions) s at).next

  abbrev end : ℕ
  end = at + 2 + be 2 s at

  by_step : (a : Answer Part) → step extensions s at ≡ a → past ≡ (if_fits a at).next
  unfolding block_at
  by_step a e = ap (λ (b : Answer Part). (if_fits b at).next) e

  taken : end ≤ length s → past ≡ end
  unfolding step
  taken l = by_step (accepted (found (at + 2) (be 2 s at))) (rw (
    number_got 2 s at (part_in Incomplete s at 2 (omega arith)),
    ruled_in (rule_of Plain) s at (at + 2) (be 2 s at) refl,
    part_in Incomplete s (at + 2) (be 2 s at) l,
  ))

  cut : at + 2 ≤ length s → length s < end → past ≡ at
  unfolding step
  cut l m =
      by_step (refused (refusal Incomplete (at + 2) (be 2 s at - (length s - (at + 2))))) (rw (
        number_got 2 s at (part_in Incomplete s at 2 l),
        ruled_in (rule_of Plain) s at (at + 2) (be 2 s at) refl,
        part_out Incomplete s (at + 2) (be 2 s at) m,
      ))

  absent : length s < at + 2 → past ≡ at
  unfolding step
  absent l =
      by_step (refused (refusal Incomplete at (2 - (length s - at))))
      (rw (number_no 2 s at (part_out Incomplete s at 2 l)))

  abbrev Ends : Type 0
  Ends = eqb (length (drop past s)) 0 ≡ (eqb (length s) at || eqb (length s) end)

  -- where they are not there
  ends_at : past ≡ at → length s < end → Ends
  ends_at e l =
      either_of (length (drop past s)) (length s) at end (λ x. inl (omega (arith, rw (e, length-drop) at x))) back
    where
      back : (length s ≡ at) ⊎ (length s ≡ end) → length (drop past s) ≡ 0
      back (inl x) = rw (e, length-drop) (omega (arith, x))
      back (inr x) = absurd (omega (arith, x))

  ends_behind : past ≡ end → end ≤ length s → Ends
  ends_behind e l =
      either_of (length (drop past s)) (length s) at end (λ x. inr (omega (arith, rw (e, length-drop) at x))) back
    where
      back : (length s ≡ at) ⊎ (length s ≡ end) → length (drop past s) ≡ 0
      back (inl x) = absurd (omega (arith, x))
      back (inr x) = rw (e, length-drop) (omega (arith, x))

  ends : Ends
  ends = go (leb (at + 2) (length s)) refl (leb end (length s)) refl
    where
      go : (t : Bool) → leb (at + 2) (length s) ≡ t → (u : Bool) → leb end (length s) ≡ u → Ends
      go t p true q = let l = leb-true end (length s) q in ends_behind (taken l) l
      go true p false q =
          let l = leb-false end (length s) q in
          ends_at (cut (leb-true (at + 2) (length s) p) l) l
      go false p false q = ends_at (absent (leb-false (at + 2) (length s) p)) (leb-false end (length s) q)

-- the number of a value that is held to the condition
abbrev three_checks : Bool → Bool → Bool → ℕ
three_checks ciphers methods tail = pick ciphers 4 (pick methods 4 (pick (pick tail false true) 4 0))

exact_number : (s : List ℕ) (c : TlsClientHelloContents) (t u v : Bool) → eqb (length (part_of s c.ciphers)) 0 ≡ t
    → eqb (length (part_of s c.comp)) 0 ≡ u → eqb (length (drop c.tail s)) 0 ≡ v
    → number_in (if_exact client client_to_fill s c) ≡ three_checks t u v
exact_number s c true u v p q r = rw p (ap number_of (its_reason LengthValue _ 0))
exact_number s c false true v p q r = rw (p, q) (ap number_of (its_reason LengthValue _ 0))
exact_number s c false false true p q r = rw (p, q, r)
exact_number s c false false false p q r = rw (p, q, r) (ap number_of (its_reason LengthValue _ 0))

-- and of the value that a form makes of its rows, where they are there
inner : (s : List ℕ) → let id = be 1 s 34 in
    let cs = be 2 s (35 + id) in
    let ms = be 1 s (37 + id + cs) in
    let end = 38 + id + cs + ms in
    end ≤ length s → number_in (if_exact client client_to_fill s (value_at client s)) ≡ three_checks (eqb cs 0) (eqb ms 0)
    (eqb (length s) end || eqb (length s) (end + 2 + be 2 s end))
inner s h =
    let id = be 1 s 34 in
    let cs = be 2 s (35 + id) in
    let p : 35 + id + 2 + cs ≡ 37 + id + cs = omega arith in
    let m : be 1 s (35 + id + 2 + cs) ≡ be 1 s (37 + id + cs) = ap (λ (n : ℕ). be 1 s n) p in
    let e : 35 + id + 2 + cs + 1 + be 1 s (35 + id + 2 + cs) ≡ 38 + id + cs + be 1 s (37 + id + cs) =
    omega (arith, m) in
    exact_number s (value_at client s) _ _ _
    (ap (λ (n : ℕ). eqb n 0) (length_part s (35 + id + 2) cs (omega arith)))
    (ap (λ (n : ℕ). eqb n 0) (length_part s (35 + id + 2 + cs + 1) (be 1 s (35 + id + 2 + cs)) (omega (arith, e)) ∙ m))
    (subst (λ (n : ℕ). eqb (length (drop (value_at client s).tail s)) 0 ≡ (eqb (length s) n
    || eqb (length s) (n + 2 + be 2 s n))) e
    (ends s (35 + id + 2 + cs + 1 + be 1 s (35 + id + 2 + cs)) (omega (arith, e))))

-- what is left to say is said where no check holds
abbrev Ends_in : (ℕ → ℕ) → Type 0
Ends_in f = (x : ℕ) → f x ≡ if_accepted (f 0) x

in_pick : (t : Bool) (n : ℕ) (f : ℕ → ℕ) → (n ≡ 0 → ⊥) → Ends_in f → Ends_in (λ x. pick t n (f x))
in_pick true n f h e x = rw (ne_eqb n 0 h)
in_pick false n f h e x = e x

not_0 : (why : Reason) → number_of why ≡ 0 → ⊥
not_0 why e = not_zero_lem why (sym e)

in_asked : (why : Reason) (s : List ℕ) (n : ℕ) (rs : List Row) (f : ℕ → ℕ) → Ends_in f
    → Ends_in (λ x. asked why s n rs (f x))
in_asked why s n [] f e = in_pick (ltb (length s) n) (number_of why) f (not_0 why) e
in_asked why s n (r ∷ rs) f e = go (eqb (number_of why) 1)
  where
    go : (t : Bool) → Ends_in (λ x. pick t (f x) (pick (ltb (length s) n) (number_of why) (f x)))
    go true = e
    go false = in_pick (ltb (length s) n) (number_of why) f (not_0 why) e

in_rule : (o : Option (ℕ → ℕ → Refusal)) (at behind : ℕ) (f : ℕ → ℕ) → Ends_in f
    → Ends_in (λ x. if_some o (λ made. number_of (made at behind).reason) (f x))
in_rule none at behind f e x = e x
in_rule (some made) at behind f e x = rw (ne_eqb (number_of (made at behind).reason) 0 (not_0 (made at behind).reason))

in_rows : (rs : List Row) (s : List ℕ) (at : ℕ) → Ends_in (rows_number rs s at)
in_rows [] s at = λ x. refl
in_rows ((fixed n, m) ∷ rs) s at =
    in_asked Incomplete s (at + n) rs (rows_number rs s (at + n)) (in_rows rs s (at + n))
in_rows ((vector w r, m) ∷ rs) s at =
    let past = at + w + be w s at in
    in_pick (ltb (length s) (at + w)) 1 _ (λ e. omega (arith, e))
    (in_rule (r.broken (be w s at)) at (at + w) _
    (in_asked r.past s past rs (rows_number rs s past) (in_rows rs s past)))

-- where there is no refusal, no check held
abbrev NoneHeld : List Check → Type 0
NoneHeld [] = Unit
NoneHeld ((t, why) ∷ checks) = (t ≡ false) × NoneHeld checks

none_held : (checks : List Check) → in_order checks 0 ≡ 0 → NoneHeld checks
unfolding in_order
none_held [] e = tt
none_held ((true, why) ∷ checks) e = absurd (not_0 why e)
none_held ((false, why) ∷ checks) e = (refl, none_held checks e)

-- so a ClientHello is there
there : (s : List ℕ) → client_case s ≡ 0 → let id = be 1 s 34 in
    let cs = be 2 s (35 + id) in
    38 + id + cs + be 1 s (37 + id + cs) ≤ length s
unfolding client_case
there s e = ltb-false _ _ (none_held _ e).1.1.1.1.1.1.0

-- and what is left to say of it are the three checks
after_plain : (s : List ℕ) (t : Bool) → eqb (client_case s) 0 ≡ t
    → if_accepted (client_case s) (number_in (if_exact client client_to_fill s (value_at client s))) ≡ strict_case s
unfolding strict_case in_order
after_plain s true q = rw q (inner s (there s (eqb-true (client_case s) 0 q)))
after_plain s false q = rw q

pub strict_hello_lem : (s : List ℕ) → number_in (strict_client s) ≡ strict_case s
unfolding strictly
strict_hello_lem s =
    let plain : rows_number client_hello.rows s 0 0 ≡ client_case s = sym (form_number client s) ∙ client_hello_lem s in
    form_then client s (if_exact client client_to_fill s)
    ∙ in_rows client_hello.rows s 0 (number_in (if_exact client client_to_fill s (value_at client s)))
    ∙ rw plain (after_plain s (eqb (client_case s) 0) refl)
