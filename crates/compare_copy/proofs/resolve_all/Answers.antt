-- One more word is resolved.
use Rattle.std.proofs.Common.{arith}
use Rattle.std.proofs.lemmas.Grind.{common_steps}
use Rattle.std.proofs.lemmas.List.Edits.{map_over_more}
use Rattle.sweep_model.specs.Normalise.{resolve}
use Rattle.compare_copy.proofs.resolve_all.Goals as goal

pub loop-word-preserved : goal.loop-word-preserved
loop-word-preserved c = grind (arith, common_steps, map_over_more (resolve c.args.pairs.now))
