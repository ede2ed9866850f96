-- Invariant: handing over from vertex v on leaves what the whole pass leaves, and nothing else changes.
use Rattle.std.proofs.Common.{◌≡◌}
use Rattle.sweep_graph.proofs.TakeLaws.{Taking}
use Rattle.sweep_state.specs.code.Sweep.{handed, put_held}
use Rattle.sweep_take.proofs.take.takes.Given as goal

abbrev pub invariant-loop-v : goal.invariant-loop-v
invariant-loop-v l = record {
  taking : Taking l.initial.s.pairs.now l.initial.s.task.first l.initial.s.task.count (handed l.initial.s) (handed l.s) l.v;
  rest : l.s ≡ put_held (handed l.s) l.initial.s;
}
