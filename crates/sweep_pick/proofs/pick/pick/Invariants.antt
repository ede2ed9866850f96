-- What is picked is the definition from vertex v on.
use Prim.Native.Nat.{◌-◌}
use Rattle.sweep_pick.specs.code.Pick.{least_from}
use mathlib.Core.Path.{◌≡◌}
use Rattle.sweep_pick.proofs.pick.pick.Given as goal

abbrev pub invariant-loop-v : goal.invariant-loop-v
invariant-loop-v l = l.picked ≡ least_from l.s.stages.now l.s.diagrams.now l.v (l.s.task.count - l.v)
