-- What is asked of the parts one after the other is what the definitions ask. Assumes nothing.
use Prim.Native.Nat.{ℕ}
use mathlib.Core.Path.{◌≡◌, refl}
use mathlib.Core.List.{List}
use mathlib.Core.Bool.{true, false, ◌&&◌}
use lib.Dec.{eqb}
use lib.ListN.{length}
use Rattle.wire.specs.Parts.{lies_in}
use Rattle.wire.proofs.Numbers.{length_bytes}
use Rattle.field.specs.Texts.{allowed}
use Rattle.grammar.specs.Grammars.{as_opt}
use Rattle.grammar.specs.Hellos.{session_id_of, extensions}
use Rattle.read_server.specs.Server.{server}
use Rattle.read_server.specs.declared.tlsv12.TlsServerHelloContents.{TlsServerHelloContents}
use Rattle.write_rules.specs.HelloTexts.{lies}
use Rattle.write_rules.specs.JoinTexts.{may_join, all_lie}
use Rattle.write_server.specs.Slices.{server_rows, server_parts}

pub lies_is : (s : List ℕ) (m : TlsServerHelloContents)
    → all_lie (server true) s m ≡ (lies_in s m.random && (lies (as_opt false) s m.session_id && lies (as_opt false) s m.ext))
unfolding all_lie
lies_is s m = refl

pub may_is : (v : ℕ) (r i : List ℕ) (c k : ℕ) (e : List ℕ)
    → may_join server_rows (server_parts v r i c k) e ≡ (eqb (length r) 32 && (allowed session_id_of.0 (length i) && allowed extensions (length e)))
unfolding may_join
may_is v r i c k e = rw (length_bytes 2 v, length_bytes 2 c, length_bytes 1 k)
