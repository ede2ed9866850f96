use Rattle.std.proofs.Common.{rules, tests}
use Rattle.evaluate_model.specs.Evaluate.{unknown?}
use Rattle.evaluate_refusal.proofs.is_unknown.Goals as goal

pub returns-then-not-is_side : goal.returns-then-not-is_side
unfolding unknown?
returns-then-not-is_side c = search (rules, tests)

pub returns-else-not-is_side : goal.returns-else-not-is_side
unfolding unknown?
returns-else-not-is_side c = search (rules, tests)
