-- One word for each side.
use Rattle.aig.specs.Literal.{lit}
use Rattle.table.proofs.LayoutLaws.{first-side-at, second-side-at}
use mathlib.Core.Path.{ap, sym}
use Rattle.table.proofs.Table.output_literal.Goals as goal

pub returns-then-side-eq1 : goal.returns-then-side-eq1
returns-then-side-eq1 c =
    rw c.rows_end.ensures (ap lit (sym (first-side-at _ _ _ c.if-side-eq1.true c.requires)))

pub returns-else-side-eq1 : goal.returns-else-side-eq1
returns-else-side-eq1 c =
    rw (c.rows_end.ensures, c.outputs.ensures) (ap lit (sym (second-side-at _ _ _ c.if-side-eq1.false c.requires)))
