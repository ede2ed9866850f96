use Rattle.std.proofs.Common.{rules}
use Rattle.compare_model.specs.Compare.{beyond?}
use Rattle.compare_refusal.proofs.is_beyond.Goals as goal

pub returns-then-is_outside-2 : goal.returns-then-is_outside-2
unfolding beyond?
returns-then-is_outside-2 c = search rules

pub returns-else-is_outside-2 : goal.returns-else-is_outside-2
unfolding beyond?
returns-else-is_outside-2 c = search rules
