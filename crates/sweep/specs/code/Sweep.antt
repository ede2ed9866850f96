-- The whole sweep, as in the model.
use Rattle.std.specs.Prelude.{List, ◌≡◌}
use Rattle.sweep_model.specs.Sweep.{Result, result_of, sweep}
use Rattle.sweep_state.specs.code.Ending.{Closed, verdict_of}
use Rattle.sweep_state.specs.code.Meet.{Workspace}
use Rattle.sweep_state.specs.code.Settle.{state_on}
use Rattle.sweep_state.specs.code.Sweep.{lent}
use Rattle.sweep_state.specs.code.Words.{posed}
use Rattle.sweep_state.specs.declared.end.Ended.{Ended}
use Rattle.sweep_state.specs.declared.sweep.Sweep.{Sweep}
use Rattle.sweep_state.specs.declared.task.Task.{Task}
use Rattle.sweep_start.specs.code.Start.{HasFunctions}
use Rattle.sweep_step.specs.code.Multiply.{Context}
use Rattle.sweep_turn.specs.code.Turn.{RestOn, gone}
use Rattle.truth.specs.Truth.{Truth}

-- The answer that an end and the words stand for.
abbrev pub answer_by : Task → Workspace → Ended → Result
answer_by t b r = record { verdict = verdict_of b.arrays.rows t.inputs r.end; added = r.added; left = state_on t b r.used r.steps }

-- The model's answer is that of the end and the words.
pub record SweepAnswers (t : Task) (functions : List Truth) (a : Result) (b : Workspace) (r : Ended) : Type 0 where
  pub answer : a ≡ answer_by t b r
  pub closed : Closed t functions b r

-- From the first turn on.
abbrev pub Rests : Sweep → Sweep → Ended → Type 0
Rests s after r =
    (x : Context) → RestOn s.task x s.used s.steps (lent s) → SweepAnswers s.task x.functions (result_of (gone s.task x s.used s.steps (lent s))) (lent after) r

-- The whole.
abbrev pub Sweeps : Task → Workspace → Workspace → Ended → Type 0
Sweeps t b after r =
    (functions : List Truth) → HasFunctions t functions b.pairs → SweepAnswers t functions (sweep (posed t functions) b.pairs) after r
