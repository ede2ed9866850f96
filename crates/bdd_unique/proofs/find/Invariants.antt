-- The invariant: no row above i holds the level and the edges, and row i is of their bucket.
-- The measure: i, since a chain goes to lower rows.
use Rattle.bdd_unique.proofs.ChainLaws.{Walk}
use Rattle.bdd_unique.proofs.find.Given as goal

abbrev pub invariant-loop-i : goal.invariant-loop-i
invariant-loop-i l = Walk l.store.rows.now l.store.limit l.store.used l.node.level l.node.low l.node.high l.i

abbrev pub decreases-loop-i : goal.decreases-loop-i
decreases-loop-i l = l.i
