-- The line is found and then read; no loop.
-- The line is a part of the file.
use mathlib.Core.Path.{◌∙◌, refl}
use Rattle.netlist_records.proofs.lines.read_line.Goals as goal

pub returns : goal.returns
returns c = c.read_record.ensures ∙ rw c.until.ensures refl
