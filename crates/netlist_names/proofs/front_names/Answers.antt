-- Line 1 is passed.
use Rattle.netlist_names.proofs.Finding.{names_first, names_there}
use Rattle.netlist_names.proofs.front_names.Goals as goal

pub invariant_of-result : goal.invariant_of-result
invariant_of-result c = record { there = rw c.line_end.ensures (names_there c.requires) }

pub returns-clause-names : goal.returns-clause-names
returns-clause-names c = rw c.line_end.ensures (names_first c.requires)
