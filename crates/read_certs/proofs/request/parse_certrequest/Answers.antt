-- `read_certs::request::parse_certrequest` meets its contract, field by field. Assumes nothing.
use Prim.Native.Nat.{ℕ, ◌≤◌}
use mathlib.Core.Path.{◌≡◌, refl, sym, ap, ◌∙◌}
use mathlib.Core.Bool.{Bool, true, false}
use mathlib.Core.List.{List}
use native.Mathlib.Nat.{add-zero}
use native.Mathlib.Omega.{arith}
use lib.ListN.{length}
use Rattle.std.specs.Prelude.{Result, Ok}
use Rattle.refusal.specs.Answers.{accepted, as_answer}
use Rattle.refusal.specs.declared.Refusal.{Refusal}
use Rattle.refusal.proofs.Told.{case, hands_on}
use Rattle.wire.specs.{OptView, None, Some}
use Rattle.wire.specs.Parts.{pick}
use Rattle.wire.specs.declared.view.Part.{Part}
use Rattle.field.specs.Fields.{fixed, sized, step}
use Rattle.field.proofs.Rules.{step_in, fixed_in}
use Rattle.grammar.specs.Grammars.{as_opt}
use Rattle.grammar.specs.Forms.{out}
use Rattle.grammar.proofs.Chain.{begin, and, stop, end}
use Rattle.read_certs.specs.Certs.{request}
use Rattle.read_certs.proofs.request.parse_certrequest.Goals as goal
use Rattle.read_certs.proofs.request.parse_certrequest.Goals.{then-long+in_ok-pairs, else-long}

-- the field of the pairs, what is handed out of it, and the place past it
record Pairs (long : Bool) (s : List ℕ) (at : ℕ) (q : OptView × ℕ) : Type 0 where
  pub p : Part
  pub found : step (pick long (sized 2) (fixed 0)) s at ≡ accepted p
  pub view : out (as_opt long) s p.view ≡ q.0
  pub next : p.next ≡ q.1

long_pairs : {long : Bool} {s : List ℕ} {at : ℕ} {q : OptView × ℕ} {a : Result Part Refusal} {p : Part} → long ≡ true
    → as_answer a ≡ step (sized 2) s at → a ≡ Ok p → q ≡ (Some p.view, p.next) → Pairs long s at q
long_pairs {p = p} l e g i = rw (l, i) (record { p = p; found = case as_answer e g; view = refl; next = refl })

-- the short form has a field of no bytes there, which is found at every place
short_pairs : {long : Bool} {s : List ℕ} {at : ℕ} {q : OptView × ℕ} → long ≡ false → at ≤ length s → q ≡ (None, at)
    → Pairs long s at q
short_pairs {s = s} {at} l h i =
    rw (l, i)
    (record {
      p = record { view = record { start = at; len = 0 }; next = at };
      found = fixed_in 0 s at (omega arith)
          ∙ ap (λ (k : ℕ). accepted (record { view = record { start = at; len = 0 }; next = k })) (add-zero at);
      view = refl;
      next = refl;
    })

pub returns-in_err-types : goal.returns-in_err-types
returns-in_err-types c =
    hands_on _ c.from_residual.ensures
    (sym (stop (begin (request c.args.long) _) (case as_answer c.length_data.ensures c.in_err-types.was)))

pub returns-in_err-pairs : goal.returns-in_err-pairs
returns-in_err-pairs c =
    hands_on _ c.from_residual-in_err-pairs.ensures
    (rw c.if-long.true
    (sym (stop (and (begin (request true) _) (case as_answer c.length_data.ensures c.in_ok-types.was))
    (case as_answer c.length_data-then-long.ensures c.in_err-pairs.was))))

pub returns-in_err-names : goal.returns-in_err-names
returns-in_err-names c =
    let types = case as_answer c.length_data.ensures c.in_ok-types.was in
    let q : Pairs c.args.long (c.args.i.now) c.in_ok-types.types.next c.if-long.sig_hash_algs = elim c.if-long.branch [
      | then-long+in_ok-pairs w ↦ long_pairs w.if-long.true w.length_data-then-long.ensures w.in_ok-pairs.was w.sig_hash_algs-is
      | else-long w ↦ short_pairs w.if-long.false (step_in (sized 1) _ 0 types).1 w.sig_hash_algs-is
    ] in
    hands_on _ c.from_residual-in_err-names.ensures
    (sym (stop (and (and (begin (request c.args.long) _) types) q.found)
    (rw q.next (case as_answer c.length_data-2.ensures c.in_err-names.was))))

pub returns : goal.returns
returns c =
    let types = case as_answer c.length_data.ensures c.in_ok-types.was in
    let q : Pairs c.args.long (c.args.i.now) c.in_ok-types.types.next c.if-long.sig_hash_algs = elim c.if-long.branch [
      | then-long+in_ok-pairs w ↦ long_pairs w.if-long.true w.length_data-then-long.ensures w.in_ok-pairs.was w.sig_hash_algs-is
      | else-long w ↦ short_pairs w.if-long.false (step_in (sized 1) _ 0 types).1 w.sig_hash_algs-is
    ] in
    let names : step (sized 2) (c.args.i.now) q.p.next ≡ accepted c.in_ok-names.names = rw q.next
    (case as_answer c.length_data-2.ensures c.in_ok-names.was) in
    sym (end (and (and (and (begin (request c.args.long) _) types) q.found) names) ∙ rw q.view)
