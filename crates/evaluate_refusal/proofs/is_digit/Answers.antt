use Rattle.std.proofs.Common.{rules, tests}
use Rattle.evaluate_model.specs.Evaluate.{digit?}
use Rattle.evaluate_refusal.proofs.is_digit.Goals as goal

pub returns-then-byte-eq-DIGIT_ZERO : goal.returns-then-byte-eq-DIGIT_ZERO
unfolding digit?
returns-then-byte-eq-DIGIT_ZERO c = search (rules, tests)

pub returns-else-byte-eq-DIGIT_ZERO : goal.returns-else-byte-eq-DIGIT_ZERO
unfolding digit?
returns-else-byte-eq-DIGIT_ZERO c = search (rules, tests)
