-- Invariant: the last scan has come to its end, and the model goes on from there as it went from the first turn.
-- The measure is the turns left.
use Rattle.sweep_graph.specs.code.Stages.{stages_of}
use Rattle.sweep_model.specs.Sweep.{turns_left}
use Rattle.sweep_turn.proofs.GoModel.{Turning}
use Rattle.sweep_turn.proofs.turn.go.Given as goal

abbrev pub invariant-loop-v : goal.invariant-loop-v
invariant-loop-v l = Turning l.initial.s l.s

abbrev pub decreases-loop-v : goal.decreases-loop-v
decreases-loop-v l = turns_left (stages_of l.s.stages.now l.initial.s.task.count)
