-- Invariant: the inputs below v have their rows, and the model goes on from there as it went from the first.
use Rattle.std.proofs.Common.{◌≡◌}
use Rattle.sweep_start.proofs.InputModel.{Along}
use Rattle.sweep_state.specs.code.Sweep.{SameLengths, lent, put_arrays, put_counts}
use Rattle.sweep_start.proofs.inputs.give_rows.Given as goal

abbrev pub invariant-loop-v : goal.invariant-loop-v
invariant-loop-v l = record {
  along : Along l.initial.s.task (lent l.initial.s).arrays l.initial.s.used (lent l.s).arrays l.s.used l.v;
  rest : l.s ≡ put_arrays (lent l.s).arrays (put_counts l.s.used l.initial.s.steps l.initial.s);
  long : SameLengths (lent l.initial.s) (lent l.s);
}
