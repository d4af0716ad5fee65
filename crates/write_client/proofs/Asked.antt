-- What is asked of the parts one after the other is what the definitions ask. Assumes nothing.
use Prim.Native.Nat.{ℕ}
use mathlib.Core.Path.{◌≡◌, refl}
use mathlib.Core.List.{List}
use mathlib.Core.Bool.{false, ◌&&◌}
use lib.Dec.{eqb}
use lib.ListN.{length}
use Rattle.wire.specs.Parts.{lies_in}
use Rattle.wire.proofs.Numbers.{length_bytes}
use Rattle.field.specs.Texts.{allowed}
use Rattle.grammar.specs.Grammars.{as_opt}
use Rattle.grammar.specs.Hellos.{session_id_of, ciphers, methods, extensions}
use Rattle.read_client.specs.Client.{client}
use Rattle.read_client.specs.declared.TlsClientHelloContents.{TlsClientHelloContents}
use Rattle.write_rules.specs.HelloTexts.{lies}
use Rattle.write_rules.specs.JoinTexts.{may_join, all_lie}
use Rattle.write_client.specs.Slices.{client_rows, client_parts}

pub lies_is : (s : List ℕ) (m : TlsClientHelloContents)
    → all_lie client s m ≡ (lies_in s m.random && (lies (as_opt false) s m.session_id && (lies_in s m.ciphers && (lies_in s m.comp && lies (as_opt false) s m.ext))))
unfolding all_lie
lies_is s m = refl

pub may_is : (v : ℕ) (r i c m e : List ℕ)
    → may_join client_rows (client_parts v r i c m) e ≡ (eqb (length r) 32 && (allowed session_id_of.0 (length i) && (allowed ciphers.0 (length c) && (allowed methods.0 (length m) && allowed extensions (length e)))))
unfolding may_join
may_is v r i c m e = rw (length_bytes 2 v)
