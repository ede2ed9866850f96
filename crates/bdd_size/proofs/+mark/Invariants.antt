-- Post-order: the children are marked before the row, so that marked rows lead to marked rows.
-- The measure is the row: its children are earlier rows.
use Rattle.bdd_size.proofs.+mark.Given as goal

abbrev pub decreases-mark : goal.decreases-mark
decreases-mark l = l.i
