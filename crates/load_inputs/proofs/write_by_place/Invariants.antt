-- Invariant: the literals of the vertices below v are written, and the others are ahead.
use Prim.Native.Nat.{◌-◌}
use Rattle.load_model.specs.Build.{literals_from}
use Rattle.words.proofs.Writing.{Writing}
use Rattle.load_inputs.proofs.write_by_place.Given as goal

abbrev pub invariant-loop-v : goal.invariant-loop-v
invariant-loop-v l = Writing l.initial.literals 0 (literals_from 0 l.count) l.literals l.v (literals_from l.v (l.count - l.v))
