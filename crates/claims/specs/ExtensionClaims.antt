-- What is claimed of extensions beyond the contracts of single functions: one field for each
-- theorem. RULES 11 cites them. `claims::extension_claims` promises them all, so that none can go
-- missing.
use Rattle.refusal.specs.{ℕ, OneResult, as_answer}
use Rattle.list.specs.Tagged.{EveryTagged}
use Rattle.list.specs.declared.tagged.Tagged.{Tagged}
use Rattle.read_ext.specs.Kinds.{EveryKind}
use Rattle.read_ext.specs.Extensions.{OneBlock}
use Rattle.read_ext.specs.Splits.{EveryBlock}
use Rattle.write_ext.specs.declared.rows.Row.{Row}
use Rattle.write_ext.specs.ListsBack.{EveryList, EveryRead, EveryRows, EveryValue, AtEdge}
use Rattle.norrabist_c.specs.Extensions.{EveryExtensionBack}
use Rattle.claim_ext.specs.ExtCases.{BlockCases, WriteCases}
use Rattle.claim_ext.specs.ExtRows.{SmallBlocks}

pub record ExtensionClaims : Type 0 where
  pub one_tagged : OneResult (as_answer {A = Tagged})
  pub one_length : OneResult (as_answer {A = ℕ})
  pub one_row : OneResult (as_answer {A = Row})
  pub one_block : OneBlock
  -- extensions: items with a tag, of every width and whatever data they may have; the law of
  -- lengths over every kind; the split of a block. Written: a list by type and content, with its
  -- orders and the way back; a block that was read; rows, whatever they hold; one as a value; the
  -- edges
  pub tagged : EveryTagged
  pub ext_kinds : EveryKind
  pub blocks : EveryBlock
  pub ext_lists : EveryList
  pub ext_read : EveryRead
  pub ext_rows : EveryRows
  pub ext_values : EveryValue
  pub ext_edges : AtEdge
  pub extensions_told : EveryExtensionBack
  -- RULES 1.2: extension blocks with their index, extensions written, and small ones of both
  pub block_cases : BlockCases
  pub write_cases : WriteCases
  pub small_blocks : SmallBlocks
