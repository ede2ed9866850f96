-- The invariant: the rows in use hold every reference.
use Rattle.bdd.specs.code.Slice.{SameSlice}
use Rattle.run_product.specs.code.Held.{Held}
use Rattle.run_product.proofs.diagram.ands.Given as goal

abbrev pub invariant-loop-v : goal.invariant-loop-v
invariant-loop-v l = SameSlice l.initial.store l.store × Held l.store.rows.now l.references l.store.used l.circuit.inputs
