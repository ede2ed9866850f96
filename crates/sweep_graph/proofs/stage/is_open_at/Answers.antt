use Rattle.sweep_graph.proofs.StageLaws.{open_word_lem}
use Rattle.sweep_graph.specs.code.Stages.{word_stage}
use Rattle.sweep_model.specs.State.{open?}
use mathlib.Core.Path.{◌∙◌, refl, sym}
use Rattle.sweep_graph.proofs.stage.is_open_at.Goals as goal

pub returns-then-word-from : goal.returns-then-word-from
unfolding word_stage open?
returns-then-word-from c = rw (c.if-word-from.true, c.from.ensures) refl

pub returns-else-word-from : goal.returns-else-word-from
returns-else-word-from c = rw c.from-else-word-from.ensures (open_word_lem _ (λ e. c.if-word-from.false (e ∙ sym c.from.ensures)))
