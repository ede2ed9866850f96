-- The product can be asked: the rows hold both references.
use Rattle.std.proofs.Common.{arith}
use Rattle.run_product.proofs.HeldLaws.{edge-held}
use Rattle.run_product.proofs.diagram.and.Goals as goal

pub multiply-requires : goal.multiply-requires
multiply-requires c =
    record {
      first = edge-held c.requires.held _ c.reference_of-f.ensures;
      second = edge-held c.requires.held _ c.reference_of-g.ensures;
      few = omega arith;
    }
