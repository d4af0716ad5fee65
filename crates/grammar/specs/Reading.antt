-- What reading by a grammar finds: the fields in order, then the block where it fits. RULES 3.1,
-- 3.7. The first field that cannot be had refuses.
use Rattle.std.specs.Prelude.{◌∷◌}
use Rattle.refusal.specs.{ℕ, List, [], Option, none, some, Answer, accepted, refused, then, giving}
use Rattle.wire.specs.{None, Some, Part}
use Rattle.field.specs.{Field, step}
use Rattle.grammar.specs.Grammars.{Row, Grammar, Views, Handed}
use Rattle.grammar.specs.declared.OptPart.{OptPart}

-- the fields from a place on, and the place past them; the first that cannot be had refuses
unfoldable pub fields_at : (rs : List Row) → List ℕ → ℕ → Answer (Views rs × ℕ)
fields_at [] s at = accepted (tt, at)
fields_at ((f, m) ∷ rs) s at = then (step f s at) (λ p. giving (λ q. ((p.view, q.0), q.1)) (fields_at rs s p.next))

abbrev pub if_fits : Answer Part → ℕ → OptPart
if_fits (accepted p) at = record { view = Some p.view; next = p.next }
if_fits (refused r) at = record { view = None; next = at }

-- RULES 3.7: the block where it fits; else it is absent, and no byte is taken for it
unfoldable pub block_at : Field → List ℕ → ℕ → OptPart
block_at f s at = if_fits (step f s at) at

-- a grammar without a block never looks for one
abbrev pub last_at : Option Field → List ℕ → ℕ → OptPart
last_at none s at = record { view = None; next = at }
last_at (some f) s at = block_at f s at

abbrev pub with_last : (g : Grammar) → Views g.rows → OptPart → Handed g
with_last g vs e = record { views = vs; block = e.view; tail = e.next }

unfoldable pub read : (g : Grammar) → List ℕ → Answer (Handed g)
read g s = giving (λ q. with_last g q.0 (last_at g.block s q.1)) (fields_at g.rows s 0)
