-- The rows are tested, then the output references, then the constraint's.
use Rattle.std.proofs.Common.{rules, tests}
use Rattle.table.specs.Table.{out_of_order?, output_words}
use Rattle.table_refusal.proofs.is_out_of_order.Goals as goal

pub returns-then-not-is_downward : goal.returns-then-not-is_downward
unfolding out_of_order?
returns-then-not-is_downward c = search (rules, tests)

pub returns-then-not-all_below : goal.returns-then-not-all_below
unfolding out_of_order? output_words
returns-then-not-all_below c = search (rules, tests)

pub returns : goal.returns
unfolding out_of_order? output_words
returns c = search (rules, tests)
