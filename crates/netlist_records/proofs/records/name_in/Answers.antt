-- The name is the second field; no loop.
use Rattle.netlist_model.specs.Records.{line_of, name_line}
use mathlib.Core.Path.{ap}
use Rattle.netlist_records.proofs.records.name_in.Goals as goal

pub returns : goal.returns
unfolding line_of
returns c = rw c.requires (ap name_line c.part.ensures)
