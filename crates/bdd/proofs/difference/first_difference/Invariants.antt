-- The invariant: the digits of the inputs passed are written, and they with the first difference of a and b are that of f and g.
use Prim.Native.Nat.{◌-◌}
use Rattle.bdd.proofs.DifferenceLaws.{Writing}
use Rattle.bdd.proofs.difference.first_difference.Given as goal

abbrev pub invariant-loop-i : goal.invariant-loop-i
invariant-loop-i l = Writing l.rows l.inputs l.f l.g l.initial.setting l.setting l.i (l.inputs - l.i) l.a l.b
