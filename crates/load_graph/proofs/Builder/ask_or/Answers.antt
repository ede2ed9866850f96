-- One AND of the inversions, and its inversion, as the definition says; no loop.
use Rattle.load_graph.proofs.Asking.{or-built}
use Rattle.load_graph.proofs.Builder.ask_or.Goals as goal

pub returns-clause-result : goal.returns-clause-result
returns-clause-result c = rw c.negated.ensures (or-built _ _ _ c.negated-not_p.ensures c.negated-not_q.ensures c.ask_and.ensures.result)
