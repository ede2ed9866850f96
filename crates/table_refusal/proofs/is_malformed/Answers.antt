use Rattle.std.proofs.Common.{rules, tests}
use Rattle.table.specs.Table.{malformed?}
use Rattle.table_refusal.proofs.is_malformed.Goals as goal

pub returns-then-words-lt-HEADER : goal.returns-then-words-lt-HEADER
unfolding malformed?
returns-then-words-lt-HEADER c = search (rules, tests)

pub returns-then-beyond_limits : goal.returns-then-beyond_limits
unfolding malformed?
returns-then-beyond_limits c = search (rules, tests)

pub returns : goal.returns
unfolding malformed?
returns c = search (rules, tests)
