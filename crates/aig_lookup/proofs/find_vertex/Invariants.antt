-- Invariant: no vertex above the current one has the pair, and the current one is of the pair's chain.
-- The measure is the current vertex: the next one of a chain is lower.
use Rattle.aig_lookup.proofs.WalkLaws.{Walk}
use Rattle.aig_lookup.proofs.find_vertex.Given as goal

abbrev pub invariant-loop-v : goal.invariant-loop-v
invariant-loop-v l = Walk l.pairs l.count l.places l.p l.q l.v

abbrev pub decreases-loop-v : goal.decreases-loop-v
decreases-loop-v l = l.v
