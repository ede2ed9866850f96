-- The invariant: the check of the lines ahead, by what is due and its number, gives the answer for the file.
use Rattle.netlist_model.proofs.PassingLaws.{Ahead}
use Rattle.netlist_model.specs.code.Passing.{line_due}
use mathlib.Core.Path.{◌≡◌}
use Rattle.netlist.proofs.check.check_file.Given as goal

abbrev pub invariant-loop-at : goal.invariant-loop-at
invariant-loop-at l = Ahead l.fn.role l.file l.at-iterator.at (line_due l.due) l.due × (l.at-iterator.file.now ≡ l.file)
