use Rattle.sweep_graph.proofs.StageLaws.{is_gone}
use Rattle.sweep_graph.proofs.stage.Stage.is_gone.Goals as goal
use mathlib.Core.Path.{◌∙◌}

pub returns : goal.returns
returns c = c.eq.ensures ∙ is_gone c.args.self
