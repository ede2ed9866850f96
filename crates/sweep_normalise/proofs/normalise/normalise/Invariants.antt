-- Invariant: the rows below v are normalised, as many as there were turns, and the look-up holds them; nothing else changes.
use Rattle.std.proofs.Common.{◌≡◌, length}
use Rattle.sweep_normalise.proofs.NormaliseLaws.{Pass}
use Rattle.sweep_normalise.proofs.normalise.normalise.Given as goal
use Rattle.sweep_state.specs.code.Sweep.{put_look, put_pairs}

abbrev pub invariant-loop-v : goal.invariant-loop-v
invariant-loop-v l = record {
  pass : Pass l.initial.s.task.first l.initial.s.task.count l.initial.s.pairs.now l.s.pairs.now l.s.look.now l.v;
  rest : l.s ≡ put_look l.s.look.now (put_pairs l.s.pairs.now l.initial.s);
  long : length l.s.look.now ≡ length l.initial.s.look.now;
}
