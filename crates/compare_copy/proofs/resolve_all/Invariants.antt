-- Invariant: the words before this turn's are resolved, and nothing else is changed.
use Rattle.std.proofs.Common.{◌≡◌, drop, ◌++◌, map, take}
use Rattle.sweep_model.specs.Normalise.{resolve}
use Rattle.compare_copy.proofs.resolve_all.Given as goal

abbrev pub invariant-loop-word : goal.invariant-loop-word
invariant-loop-word l = l.words ≡ map (resolve l.pairs) (take l.word-index l.initial.words) ++ drop l.word-index l.initial.words
