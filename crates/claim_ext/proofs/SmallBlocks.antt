-- The rows of `specs/ExtRows.antt`, each by running the definition. Assumes nothing.
use mathlib.Core.Path.{refl}
use lib.ListN.{drop}
use Rattle.refusal.specs.Refusals.{refusal, unplaced}
use Rattle.wire.specs.Parts.{part_at}
use Rattle.wire.specs.Numbers.{be, bytes_of, number_at}
use Rattle.field.specs.Fields.{ruled, step}
use Rattle.field.specs.Closing.{close_at}
use Rattle.list.specs.Items.{items_from}
use Rattle.list.specs.Stopping.{end_of}
use Rattle.list.specs.Tagged.{tagged_at, fit_at}
use Rattle.read_ext.specs.Kinds.{is_of}
use Rattle.read_ext.specs.Extensions.{if_sound, extensions}
use Rattle.write_ext.specs.ExtTexts.{may_stand, ext_text, join_texts, capped, list_text}
use Rattle.claim_ext.specs.ExtRows.{block_rows, list_rows, AllBlocks, AllLists, OneOfEach, SmallBlocks}

-- the last eleven blocks
b11 : AllBlocks (drop 11 block_rows)
unfolding block_rows extensions if_sound is_of fit_at tagged_at items_from end_of close_at step ruled number_at be bytes_of part_at refusal
b11 = (refl, (refl, (refl, (refl, (refl, (refl, (refl, (refl, (refl, (refl, (refl, tt)))))))))))

-- all of them
all_blocks : AllBlocks block_rows
unfolding block_rows extensions if_sound is_of fit_at tagged_at items_from end_of close_at step ruled number_at be bytes_of part_at refusal
all_blocks = (refl, (refl, (refl, (refl, (refl, (refl, (refl, (refl, (refl, (refl, (refl, b11)))))))))))

-- the lists
all_lists : AllLists list_rows
unfolding list_rows list_text capped join_texts ext_text may_stand fit_at tagged_at items_from end_of step ruled number_at be bytes_of part_at unplaced
all_lists = (refl, (refl, (refl, (refl, (refl, (refl, (refl, tt)))))))

-- the contents of a block of all four kinds
one_of_each : OneOfEach
unfolding is_of fit_at tagged_at items_from end_of close_at step ruled number_at be bytes_of part_at refusal
one_of_each = refl

-- the small blocks and lists
pub small_blocks_lem : SmallBlocks
small_blocks_lem = record { blocks = all_blocks; lists = all_lists; each = one_of_each }
