-- What is asked of the parts one after the other is what the definitions ask. Assumes nothing.
use Prim.Native.Nat.{ℕ}
use mathlib.Core.Path.{◌≡◌, refl}
use mathlib.Core.List.{List}
use mathlib.Core.Bool.{false, ◌&&◌}
use lib.Dec.{eqb}
use lib.ListN.{length}
use Rattle.wire.specs.Parts.{lies_in}
use Rattle.wire.proofs.Numbers.{length_bytes}
use Rattle.field.specs.Texts.{allowed}
use Rattle.grammar.specs.Grammars.{as_opt}
use Rattle.grammar.specs.Hellos.{extensions}
use Rattle.read_server.specs.Server.{draft18}
use Rattle.read_server.specs.declared.tlsv13draft18.TlsServerHelloV13Draft18Contents.{TlsServerHelloV13Draft18Contents}
use Rattle.write_rules.specs.HelloTexts.{lies}
use Rattle.write_rules.specs.JoinTexts.{may_join, all_lie}
use Rattle.write_draft18.specs.Slices.{draft18_rows, draft18_parts}

pub lies_is : (s : List ℕ) (m : TlsServerHelloV13Draft18Contents)
    → all_lie draft18 s m ≡ (lies_in s m.random && lies (as_opt false) s m.ext)
unfolding all_lie
lies_is s m = refl

pub may_is : (v : ℕ) (r : List ℕ) (c : ℕ) (e : List ℕ)
    → may_join draft18_rows (draft18_parts v r c) e ≡ (eqb (length r) 32 && allowed extensions (length e))
unfolding may_join
may_is v r c e = rw (length_bytes 2 v, length_bytes 2 c)
