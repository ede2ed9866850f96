-- The invariant: the buckets passed are empty and nothing else is changed.
use Rattle.bdd_unique.specs.code.Unique.{emptied}
use mathlib.Core.Path.{◌≡◌}
use Rattle.bdd_unique.proofs.clear.Given as goal

abbrev pub invariant-loop-b : goal.invariant-loop-b
invariant-loop-b l = l.rows ≡ emptied l.initial.rows l.b
