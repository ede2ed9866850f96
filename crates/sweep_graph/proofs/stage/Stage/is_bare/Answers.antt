use Rattle.sweep_graph.proofs.StageLaws.{is_bare}
use Rattle.sweep_graph.proofs.stage.Stage.is_bare.Goals as goal
use mathlib.Core.Path.{◌∙◌}

pub returns : goal.returns
returns c = c.eq.ensures ∙ is_bare c.args.self
