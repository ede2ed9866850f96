-- The invariant: the rows in use hold every reference.
use Rattle.bdd.specs.code.Slice.{SameSlice}
use Rattle.run_product.specs.code.Held.{Held}
use Rattle.run_product.proofs.diagram.input_rows.Given as goal

abbrev pub invariant-loop-i : goal.invariant-loop-i
invariant-loop-i l = SameSlice l.initial.store l.store × Held l.store.rows.now l.references l.store.used l.inputs
