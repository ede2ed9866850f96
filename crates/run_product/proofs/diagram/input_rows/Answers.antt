-- The row of one input is a row of two constants.
use Rattle.std.proofs.Common.{refl}
use Rattle.bdd.proofs.DiagramLaws.{constant-reference}
use Rattle.run_product.proofs.diagram.input_rows.Goals as goal

pub make-requires-clause-low : goal.make-requires-clause-low
make-requires-clause-low c = constant-reference _ _ _ 0 refl

pub make-requires-clause-high : goal.make-requires-clause-high
make-requires-clause-high c = constant-reference _ _ _ 1 refl
