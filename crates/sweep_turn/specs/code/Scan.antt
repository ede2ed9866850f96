-- A scan, as in the model.
use Rattle.std.specs.Prelude.{◌-◌, ℕ, Err, Ok, Result, ◌≡◌}
use Rattle.sweep_model.specs.Sweep.{Progress, on, scan_from}
use Rattle.sweep_state.specs.code.Ending.{Ends}
use Rattle.sweep_state.specs.code.Meet.{Workspace}
use Rattle.sweep_state.specs.code.Settle.{state_on}
use Rattle.sweep_state.specs.code.Words.{posed}
use Rattle.sweep_state.specs.code.Sweep.{lent}
use Rattle.sweep_state.specs.declared.end.Ended.{Ended}
use Rattle.sweep_state.specs.declared.sweep.Sweep.{Sweep}
use Rattle.sweep_state.specs.declared.task.Task.{Task}
use Rattle.sweep_step.specs.code.Multiply.{Context}
use Rattle.sweep_turn.specs.code.Visit.{ScanOn}

-- The model's progress from vertex v on.
abbrev pub scanned_from : Task → Context → ℕ → ℕ → ℕ → Workspace → Progress
scanned_from t x v used steps b = scan_from (posed t x.functions) v (t.count - v) (state_on t b used steps)

-- The scan has come to its end.
pub record ScannedAll (t : Task) (x : Context) (from used steps : ℕ) (b after : Workspace) (more taken : ℕ) : Type 0 where
  pub reached : scanned_from t x from used steps b ≡ on (state_on t after more taken)
  pub here : ScanOn t x t.count more taken after

abbrev pub Scans : ℕ → Sweep → Sweep → Result (Unit {0}) Ended → Type 0
Scans from s after (Ok _) =
    (x : Context) → ScanOn s.task x from s.used s.steps (lent s) → ScannedAll s.task x from s.used s.steps (lent s) (lent after) after.used after.steps
Scans from s after (Err r) =
    (x : Context) → ScanOn s.task x from s.used s.steps (lent s) → Ends s.task x.functions (scanned_from s.task x from s.used s.steps (lent s)) (lent after) r
