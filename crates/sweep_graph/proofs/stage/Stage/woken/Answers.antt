use Rattle.sweep_graph.proofs.StageLaws.{wake-open, wake_shut}
use Rattle.sweep_graph.specs.code.Stages.{staged}
use mathlib.Core.Path.{◌∙◌, sym}
use Rattle.sweep_graph.proofs.stage.Stage.woken.Goals as goal

pub returns-then-is_open : goal.returns-then-is_open
returns-then-is_open c = wake-open (staged c.args.self) (sym c.is_open.ensures ∙ c.if-is_open.true)

pub returns : goal.returns
returns c = wake_shut (staged c.args.self) (sym c.is_open.ensures ∙ c.if-is_open.false)
