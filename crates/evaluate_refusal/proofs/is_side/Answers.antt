use Rattle.std.proofs.Common.{rules, tests}
use Rattle.evaluate_model.specs.Evaluate.{side?}
use Rattle.evaluate_refusal.proofs.is_side.Goals as goal

pub returns-then-side-eq1 : goal.returns-then-side-eq1
unfolding side?
returns-then-side-eq1 c = search (rules, tests)

pub returns-else-side-eq1 : goal.returns-else-side-eq1
unfolding side?
returns-else-side-eq1 c = search (rules, tests)
