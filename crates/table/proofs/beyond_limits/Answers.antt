use Rattle.std.proofs.Common.{rules}
use Rattle.table.specs.Table.{beyond_limits?}
use Rattle.table.proofs.beyond_limits.Goals as goal

pub returns-then-outputs-eq0 : goal.returns-then-outputs-eq0
unfolding beyond_limits?
returns-then-outputs-eq0 c = search rules

pub returns-else-outputs-eq0 : goal.returns-else-outputs-eq0
unfolding beyond_limits?
returns-else-outputs-eq0 c = search rules
