-- The invariant: what is left of the reference can be followed down.
use Prim.Native.Nat.{◌-◌}
use Rattle.bdd.specs.code.Walks.{Walks}
use Rattle.run_product.proofs.values.value.Given as goal

abbrev pub invariant-loop-i : goal.invariant-loop-i
invariant-loop-i l = Walks l.rows (l.inputs - l.i) l.e
