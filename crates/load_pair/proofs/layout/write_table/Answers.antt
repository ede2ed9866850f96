-- Header, rows, the outputs of both files and the constraint, each after the other; no loop.
-- The table has room for all of them.
use Rattle.load_pair.proofs.Copying.{table-written}
use Rattle.load_pair.proofs.TableWords.{left_length, right_length, right_part, rows_length}
use native.Mathlib.Omega.{arith}
use Rattle.load_pair.proofs.layout.write_table.Goals as goal

pub returns : goal.returns
returns c =
    let p = c.args.working.now.pairs.now in
    let o = c.args.working.now.outputs.now in
    table-written c.args.table.now _ _ _ _
    (omega (arith, c.requires.room, rows_length p o c.requires, left_length p o c.requires, right_length p o c.requires))
    c.write_header.ensures c.copy-at.ensures c.copy-at-2.ensures (rw (right_part p o c.requires) at c.copy-at-3.ensures)
