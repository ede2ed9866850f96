-- The line is passed by one call; no loop.
use mathlib.Core.Path.{refl}
use Rattle.netlist_records.proofs.lines.line_end.Goals as goal

pub returns : goal.returns
returns c = rw c.until.ensures refl
