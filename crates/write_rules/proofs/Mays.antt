-- Whether a hello may be written: what is to be asked of its parts decides. Assumes nothing.
use Prim.Native.Nat.{ℕ}
use mathlib.Core.Path.{◌≡◌, refl, ap}
use mathlib.Core.List.{List, [], ◌∷◌}
use mathlib.Core.Bool.{Bool, true, false, ◌&&◌}
use Rattle.wire.specs.Parts.{pick}
use Rattle.wire.proofs.Numbers.{length_bytes}
use Rattle.field.specs.Texts.{allowed}
use Rattle.grammar.specs.Grammars.{as_view, as_opt, as_number, Row, gather}
use Rattle.grammar.specs.Hellos.{extensions}
use Rattle.grammar.specs.Forms.{Form, Outs}
use Rattle.write_rules.specs.HelloTexts.{may_stand, may_write}

-- all of some tests, and then a last one
abbrev all : List Bool → Bool → Bool
all [] z = z
all (b ∷ bs) z = b && all bs z

-- whether each part may stand; a number as wide as its field always may, and is not asked
abbrev parts : (rs : List Row) → List ℕ → Outs rs → List Bool
parts [] s os = []
parts ((f, as_view) ∷ rs) s (o, os) = may_stand f as_view s o ∷ parts rs s os
parts ((f, as_opt empty) ∷ rs) s (o, os) = may_stand f (as_opt empty) s o ∷ parts rs s os
parts ((f, as_number w) ∷ rs) s (o, os) = pick (allowed f w) (parts rs s os) (false ∷ [])

-- one number more
number : (a b z : Bool) (bs : List Bool) → b ≡ all bs z → (a && b) ≡ all (pick a bs (false ∷ [])) z
number true b z bs e = e
number false b z bs e = refl

parts_all : (rs : List Row) (s : List ℕ) (os : Outs rs) (z : Bool)
    → gather (λ (f, m) o rest. may_stand f m s o && rest) z rs os ≡ all (parts rs s os) z
parts_all [] s os z = refl
parts_all ((f, as_view) ∷ rs) s (o, os) z = ap (◌&&◌ (may_stand f as_view s o)) (parts_all rs s os z)
parts_all ((f, as_opt empty) ∷ rs) s (o, os) z = ap (◌&&◌ (may_stand f (as_opt empty) s o)) (parts_all rs s os z)
parts_all ((f, as_number w) ∷ rs) s (o, os) z =
    rw (length_bytes w o) (number (allowed f w) _ z (parts rs s os) (parts_all rs s os z))

-- what is to be asked decides
pub asked : {C : Type 0} (k : Form C) (s : List ℕ) (c : C)
    → may_write k s c ≡ all (parts k.grammar.rows s (k.handed c)) (may_stand extensions (as_opt false) s (k.block c))
unfolding may_write
asked k s c = parts_all k.grammar.rows s (k.handed c) (may_stand extensions (as_opt false) s (k.block c))
