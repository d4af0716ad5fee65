-- `claims::extension_claims` meets its contract: each claim is shown in the crate that it speaks
-- of. Assumes nothing.
use Rattle.refusal.proofs.Told.{one_result}
use Rattle.list.proofs.Tags.{every_tagged}
use Rattle.read_ext.proofs.Answers.{one_block_lem}
use Rattle.read_ext.proofs.Blocks.{every_block}
use Rattle.read_ext.proofs.OfKind.{every_kind}
use Rattle.write_ext.proofs.RowLists.{every_rows, every_read}
use Rattle.write_ext.proofs.WholeLists.{every_list, every_value, at_edge}
use Rattle.norrabist_c.proofs.ExtensionParts.{every_extension_back}
use Rattle.claim_ext.proofs.Cases.{block_cases_lem, write_cases_lem}
use Rattle.claim_ext.proofs.SmallBlocks.{small_blocks_lem}
use Rattle.claims.proofs.extension_claims.Goals as goal

pub returns : goal.returns
returns c = record {
  one_tagged = one_result;
  one_length = one_result;
  one_row = one_result;
  one_block = one_block_lem;
  tagged = every_tagged;
  ext_kinds = every_kind;
  blocks = every_block;
  ext_lists = every_list;
  ext_read = every_read;
  ext_rows = every_rows;
  ext_values = every_value;
  ext_edges = at_edge;
  extensions_told = every_extension_back;
  block_cases = block_cases_lem;
  write_cases = write_cases_lem;
  small_blocks = small_blocks_lem;
}
