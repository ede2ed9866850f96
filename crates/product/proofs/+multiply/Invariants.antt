-- The measure is the number of inputs not yet passed: the halves have fewer.
use Rattle.product.proofs.+multiply.Given as goal

abbrev pub decreases-multiply : goal.decreases-multiply
decreases-multiply l = l.left
