-- The row that was made keeps the length of the rows, and drawing or marking those of the other slices; no loop.
use Rattle.sweep_state.proofs.LongLaws.{drawn-long, lengths-then}
use Rattle.sweep_state.specs.code.Arrays.{on_rows}
use Rattle.sweep_state.specs.code.Meet.{workspace}
use Rattle.sweep_state.specs.code.Sweep.{lent}
use mathlib.Core.Path.{refl}
use Rattle.sweep_start.proofs.inputs.give_row.Goals as goal

pub returns-in-Some-clause-long : goal.returns-in-Some-clause-long
returns-in-Some-clause-long c =
    let s = c.args.s.now in
    let row = c.in-Some.ensures in
    rw (c.draw.ensures, row.left)
    (lengths-then {b = workspace s.pairs.now (on_rows c.make_row.new.s.rows.now (lent s).arrays)}
    (record { pairs = refl; diagrams = refl; stages = refl; rows = row.long; marks = refl })
    (drawn-long c.args.v c.in-Some.reference 1 (workspace s.pairs.now (on_rows c.make_row.new.s.rows.now (lent s).arrays))))
