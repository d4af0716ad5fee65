-- Demand 3, its reading half, where the version announces the form, over every listing of lawful
-- forms. Assumes nothing.
use Prim.Native.Nat.{ℕ, ◌≤◌}
use mathlib.Core.Path.{◌≡◌, ◌∙◌}
use mathlib.Core.Bool.{Bool, true, false}
use mathlib.Core.List.{List, [], ◌∷◌}
use mathlib.Core.Option.{Option, none, some}
use native.Mathlib.Omega.{arith}
use native.Mathlib.Nat.{sub-zero}
use lib.ListN.{length}
use lib.Dec.{eqb}
use Rattle.refusal.specs.Answers.{refused}
use Rattle.refusal.specs.declared.Reason.TheVariants.{Incomplete}
use Rattle.refusal.specs.declared.Refusal.{Refusal}
use Rattle.wire.specs.Numbers.{be}
use Rattle.wire.proofs.Parts.{part_in, part_out}
use Rattle.wire.proofs.Numbers.{number_got, number_no}
use Rattle.field.specs.Standing.{TooFew}
use Rattle.grammar.specs.Forms.{Form, Listing, if_listed, by_version}
use Rattle.grammar.specs.Demand3.{Lawful, EveryListing}
use Rattle.wire.specs.Parts.{lookup, pick}
use Rattle.grammar.proofs.Forms.{by_split}

module _ {C : Type 0} (forms : Listing C) (s : List ℕ) where
  -- where there is a version, the listing decides
  pub decided : 2 ≤ length s → by_version forms s ≡ if_listed (lookup (be 2 s 0) forms) s
  unfolding by_version
  decided h = rw (number_got 2 s 0 (part_in Incomplete s 0 2 (omega arith)))

  pub versionless : (r : Refusal) → TooFew Incomplete 2 0 s r → by_version forms s ≡ refused r
  unfolding by_version
  versionless r (h, e) = rw (number_no 2 s 0 (part_out Incomplete s 0 2 (omega arith)), e, sub-zero)

abbrev pub AllLawful : {C : Type 0} → Listing C → Type 0
AllLawful [] = Unit
AllLawful ((n, k) ∷ forms) = Lawful k × AllLawful forms

-- a form that is found is one of those listed
pub listed_lawful : {C : Type 0} (forms : Listing C) → AllLawful forms → (v : ℕ) (k : Form C)
    → lookup v forms ≡ some k → Lawful k
listed_lawful {C = C} [] l v k e =
    let f : ◌≡◌ {A = Option (Form C)} none (some k) = e in
    absurd cc
listed_lawful ((n, j) ∷ forms) (l, ls) v k e = go (listed_lawful forms ls v k) (eqb v n) e
  where
    go : (lookup v forms ≡ some k → Lawful k) → (t : Bool) → pick t (some j) (lookup v forms) ≡ some k → Lawful k
    go ih true f =
        let g : some j ≡ some k = f in
        let d : j ≡ k = cc in
        rw (← d) l
    go ih false f = ih f

-- demand 3, its reading half
pub by_version_lem : {C : Type 0} → EveryListing C
by_version_lem forms l s b = record {
  listed = λ k (h, f). (decided forms s h ∙ rw f, by_split k (l (be 2 s 0) k f) s b);
  short = versionless forms s;
  unlisted = λ h f. decided forms s h ∙ rw f;
}
