-- The graph of both files, and then its table; no loop.
-- The ANDs are few enough for the rows to have room in the table.
use Rattle.load_pair.proofs.PairLoading.{count-within, table_is, table-room, tally-is}
use mathlib.Core.Path.{◌∙◌, refl}
use native.Mathlib.Omega.{arith}
use Rattle.load_pair.proofs.load_pair.Goals as goal

pub write_table-requires : goal.write_table-requires
write_table-requires c =
    table-room c.requires.files c.build_pair-counts.ensures.result c.requires.table (omega (arith, c.build_pair-counts.ensures.same.long_pairs, c.requires.room.for_pairs))
    (omega (arith, c.build_pair-counts.ensures.same.long_outputs, c.requires.room.for_outputs))

pub overflow_sub-result : goal.overflow_sub-result
overflow_sub-result c = count-within c.requires.files c.build_pair-counts.ensures.result

pub returns-clause-result : goal.returns-clause-result
returns-clause-result c = tally-is c.requires.files c.build_pair-counts.ensures.result

pub returns-clause-table : goal.returns-clause-table
returns-clause-table c =
    c.write_table.ensures
    ∙ table_is c.requires.files c.build_pair-counts.ensures.result c.args.table.now c.build_pair-counts.new.working.pairs.now refl c.build_pair-counts.ensures.outputs
    (omega (arith, c.build_pair-counts.ensures.same.long_pairs, c.requires.room.for_pairs))
