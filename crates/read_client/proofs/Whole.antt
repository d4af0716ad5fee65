-- Demand 3, its reading half, of the ClientHello, an instance of the one theorem; and equal numbers
-- and values mean equal answers. Assumes nothing.
use Prim.Native.Nat.{ℕ}
use mathlib.Core.Path.{refl}
use mathlib.Core.List.{List}
use Rattle.wire.specs.Numbers.{Bytes}
use Rattle.grammar.specs.Demand3.{Lawful, BySplit}
use Rattle.grammar.proofs.Forms.{by_split}
use Rattle.read_client.specs.Client.{client}

pub client_lawful : Lawful client
client_lawful =
    record {
      suits =
          (refl, (tt, (tt, (tt, (tt, tt)))));
      handed = λ o e t. refl;
      block = λ o e t. refl;
      tail = λ o e t. refl;
    }

pub demand3 : (body : List ℕ) → Bytes body → BySplit client body
demand3 = by_split client client_lawful
