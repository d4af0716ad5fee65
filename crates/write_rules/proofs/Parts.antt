-- Parts that may be written: what the place of a view decides. Assumes nothing.
use Prim.Native.Nat.{ℕ, ◌+◌, ◌≤◌}
use mathlib.Core.Path.{◌≡◌, ap, ◌∙◌}
use mathlib.Core.List.{List}
use mathlib.Core.Bool.{Bool, true, false, ◌&&◌}
use native.Mathlib.Omega.{arith}
use borrow.Author.Tests.{leb-true}
use lib.ListN.{length, length-take, length-drop}
use Rattle.wire.specs.Parts.{part_of, lies_in}
use Rattle.wire.specs.declared.view.View.{View}
use Rattle.field.specs.Fields.{Field}
use Rattle.field.specs.Texts.{allowed}
use Rattle.grammar.specs.Grammars.{as_view}
use Rattle.write_rules.specs.HelloTexts.{may_stand}

part_length : (s : List ℕ) (v : View) → lies_in s v ≡ true → length (part_of s v) ≡ v.len
part_length s v e =
    let h : v.start + v.len ≤ length s = leb-true _ _ e in
    rw (e, length-take, length-drop) (omega arith)

pub may_in : (f : Field) (s : List ℕ) (v : View) → lies_in s v ≡ true → may_stand f as_view s v ≡ allowed f v.len
may_in f s v e = ap (λ (b : Bool). b && allowed f (length (part_of s v))) e ∙ ap (allowed f) (part_length s v e)

pub may_out : (f : Field) (s : List ℕ) (v : View) → lies_in s v ≡ false → may_stand f as_view s v ≡ false
may_out f s v e = ap (λ (b : Bool). b && allowed f (length (part_of s v))) e
