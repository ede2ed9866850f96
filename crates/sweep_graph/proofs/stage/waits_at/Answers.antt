use Rattle.sweep_graph.proofs.StageLaws.{waits-word}
use Rattle.sweep_graph.specs.code.Stages.{word_stage}
use Rattle.sweep_model.specs.State.{waits?}
use mathlib.Core.Path.{◌∙◌, refl, sym}
use Rattle.sweep_graph.proofs.stage.waits_at.Goals as goal

pub returns-then-word-from : goal.returns-then-word-from
unfolding word_stage waits?
returns-then-word-from c = rw (c.if-word-from.true, c.from.ensures) refl

pub returns-else-word-from : goal.returns-else-word-from
returns-else-word-from c = rw c.from-else-word-from.ensures (waits-word _ (λ e. c.if-word-from.false (e ∙ sym c.from.ensures)))
