-- The two halves are the constants; no loop.
use Rattle.sweep_start.proofs.InputLaws.{row-asked}
use Rattle.sweep_start.proofs.inputs.make_row.Goals as goal

pub make-made-requires-clause-low : goal.make-made-requires-clause-low
make-made-requires-clause-low c = (row-asked c.requires).low

pub make-made-requires-clause-high : goal.make-made-requires-clause-high
make-made-requires-clause-high c = (row-asked c.requires).high
