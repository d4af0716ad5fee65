-- What demand 3 says of the hellos, of records, an instance of the one theorem. Assumes nothing.
use Prim.Native.Nat.{ℕ}
use mathlib.Core.Path.{refl}
use mathlib.Core.List.{List}
use Rattle.wire.specs.Numbers.{Bytes}
use Rattle.grammar.specs.Demand3.{Lawful, BySplit}
use Rattle.grammar.proofs.Forms.{by_split}
use Rattle.record.specs.Records.{raw}

raw_lawful : Lawful raw
raw_lawful =
    record { suits = (refl, (refl, (tt, tt))); handed = λ o e t. refl; block = λ o e t. refl; tail = λ o e t. refl }

pub all_records : (s : List ℕ) → Bytes s → BySplit raw s
all_records = by_split raw raw_lawful
