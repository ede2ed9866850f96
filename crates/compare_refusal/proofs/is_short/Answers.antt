use Rattle.std.proofs.Common.{rules}
use Rattle.compare_model.specs.Compare.{short_slice?}
use Rattle.compare_refusal.proofs.is_short.Goals as goal

pub returns-then-lengths-rows : goal.returns-then-lengths-rows
unfolding short_slice?
returns-then-lengths-rows c = search rules

pub returns-else-lengths-rows : goal.returns-else-lengths-rows
unfolding short_slice?
returns-else-lengths-rows c = search rules
