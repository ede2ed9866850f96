-- The row is written, then one pass normalises and one hands over.
-- Each keeps the working graph.
use Rattle.std.proofs.Common.{refl}
use Rattle.sweep_merge.proofs.MeetLaws.{merge-graph, merge-kept}
use Rattle.sweep_merge.proofs.merge.merge.Goals as goal

pub normalise-requires-clause-graph : goal.normalise-requires-clause-graph
normalise-requires-clause-graph c = rw c.join.ensures (merge-graph c.requires c.are_inverse-inverted.result refl)

pub takes-requires-clause-graph : goal.takes-requires-clause-graph
takes-requires-clause-graph c =
    rw (c.normalise.ensures.left, c.join.ensures) (merge-kept c.requires c.are_inverse-inverted.ensures refl refl)
