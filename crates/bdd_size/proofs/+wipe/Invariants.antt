-- Post-order: the children are wiped before the row, so that rows without a mark lead to rows without one.
-- The measure is the row: its children are earlier rows.
use Rattle.bdd_size.proofs.+wipe.Given as goal

abbrev pub decreases-wipe : goal.decreases-wipe
decreases-wipe l = l.i
