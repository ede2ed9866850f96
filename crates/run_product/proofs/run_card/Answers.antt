-- At first no reference is held.
use Rattle.run_product.proofs.HeldLaws.{held_none}
use Rattle.run_product.proofs.run_card.Goals as goal

pub input_rows-requires-clause-held : goal.input_rows-requires-clause-held
input_rows-requires-clause-held g c = held_none _ 128 _ _
