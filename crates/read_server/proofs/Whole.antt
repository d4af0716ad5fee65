-- Demand 3, its reading half, of the ServerHello and of that of draft 18, instances of the one
-- theorem. Assumes nothing.
use Prim.Native.Nat.{ℕ}
use mathlib.Core.Path.{◌≡◌, refl, sym}
use mathlib.Core.List.{List}
use mathlib.Core.Bool.{Bool, true, false}
use Rattle.refusal.specs.Answers.{Answer}
use Rattle.wire.specs.Numbers.{Bytes}
use Rattle.grammar.specs.Demand3.{Lawful, BySplit, ByVersion}
use Rattle.grammar.specs.Forms.{Form, reading}
use Rattle.grammar.proofs.Forms.{by_split}
use Rattle.grammar.proofs.Versions.{listed_lawful, by_version_lem}
use Rattle.read_server.specs.Server.{server, server_versions, draft18}

pub server_lawful : (hasExt : Bool) → Lawful (server hasExt)
server_lawful hasExt =
    record {
      suits =
          (refl, (tt, (tt, (refl, (refl, tt)))));
      handed = λ o e t. refl;
      block = λ o e t. refl;
      tail = λ o e t. refl;
    }

pub draft18_lawful : Lawful draft18
draft18_lawful =
    record { suits = (refl, (tt, (refl, tt))); handed = λ o e t. refl; block = λ o e t. refl; tail = λ o e t. refl }

-- by their grammars, whatever the version
pub demand3 : (hasExt : Bool) (body : List ℕ) → Bytes body → BySplit (server hasExt) body
demand3 hasExt = by_split (server hasExt) (server_lawful hasExt)

pub demand3_draft18 : (body : List ℕ) → Bytes body → BySplit draft18 body
demand3_draft18 = by_split draft18 draft18_lawful

-- a reader's answer, and that demand 3 holds of the bytes
pub with_split : {C : Type 0} {k : Form C} {body : List ℕ} {a : Answer C} → BySplit k body → reading k body ≡ a
    → (a ≡ reading k body) × BySplit k body
with_split d e = (sym e, d)

-- the ServerHello by its version
pub demand3_by_version : (body : List ℕ) → Bytes body → ByVersion server_versions body
demand3_by_version =
    by_version_lem server_versions
    (listed_lawful server_versions
    (server_lawful true, (server_lawful true, (server_lawful true, (server_lawful false, tt)))))
