use Rattle.std.proofs.Common.{rules}
use Rattle.compare_model.specs.Compare.{outside?}
use Rattle.compare_refusal.proofs.is_outside.Goals as goal

pub returns : goal.returns
unfolding outside?
returns c = search rules
