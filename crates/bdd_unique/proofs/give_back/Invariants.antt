-- The invariant: the rows above those in use are given back, the newest first.
-- The measure: the rows in use.
use Rattle.bdd.specs.code.Slice.{SameSlice}
use Rattle.bdd_unique.proofs.ChainLaws.{Returning}
use Rattle.bdd_unique.proofs.give_back.Given as goal

abbrev pub invariant-loop-store : goal.invariant-loop-store
invariant-loop-store l =
    SameSlice l.initial.store l.store
    × Returning l.initial.store.rows.now l.store.rows.now l.initial.store.limit l.initial.store.used l.kept l.store.used

abbrev pub decreases-loop-store : goal.decreases-loop-store
decreases-loop-store l = l.store.used
