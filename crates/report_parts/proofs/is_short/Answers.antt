use Rattle.report_model.specs.Report.{short_room?}
use Rattle.std.proofs.Common.{arith}
use Rattle.std.proofs.lemmas.Bool.Decides.{nat_tests}
use Rattle.report_parts.proofs.is_short.Goals as goal

pub returns-then-is_short : goal.returns-then-is_short
unfolding short_room?
returns-then-is_short c = grind (arith, nat_tests)

pub returns-else-is_short : goal.returns-else-is_short
unfolding short_room?
returns-else-is_short c = grind (arith, nat_tests)
