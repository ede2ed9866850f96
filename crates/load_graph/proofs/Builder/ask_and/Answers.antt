-- The AND folds, or its pair is found or made; no loop.
use Rattle.aig.proofs.FoldLaws.{pair-unfolded}
use Rattle.load_graph.proofs.Asking.{and_folded, and-pair}
use mathlib.Core.Path.{◌∙◌, sym}
use Rattle.load_graph.proofs.Builder.ask_and.Goals as goal

pub find_or_make-requires-clause-pair : goal.find_or_make-requires-clause-pair
find_or_make-requires-clause-pair c = pair-unfolded _ _ (sym c.fold_pair.ensures ∙ c.in-Pair.is)

pub returns-in-To-clause-result : goal.returns-in-To-clause-result
returns-in-To-clause-result c = rw c.after-self.ensures (and_folded c.args.self.now.graph c.requires _ _ (sym c.fold_pair.ensures ∙ c.in-To.is))

pub returns-in-Pair-clause-result : goal.returns-in-Pair-clause-result
returns-in-Pair-clause-result c = and-pair _ _ _ (sym c.fold_pair.ensures ∙ c.in-Pair.is) c.find_or_make.ensures.result
