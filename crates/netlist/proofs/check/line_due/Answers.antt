-- The number of a line that is due is small.
use Rattle.netlist_model.proofs.PassingLaws.{line_few}
use Rattle.netlist_model.specs.code.Passing.{line_due}
use Rattle.std.proofs.Common.{arith}
use Rattle.netlist.proofs.check.line_due.Goals as goal

pub overflow_add-result-in-Later-2 : goal.overflow_add-result-in-Later-2
unfolding line_due
overflow_add-result-in-Later-2 c = omega (arith, rw c.in-Later.is at (line_few c.requires))

pub overflow_add-result-in-Later-3 : goal.overflow_add-result-in-Later-3
unfolding line_due
overflow_add-result-in-Later-3 c = omega (arith, rw c.in-Later.is at (line_few c.requires))
