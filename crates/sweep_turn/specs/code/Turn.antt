-- Turns, as in the model.
use Rattle.std.specs.Prelude.{◌<◌, suc, ℕ, true, Err, List, Ok, Result, ◌≡◌}
use Rattle.sweep_model.specs.State.{stage_of, waits?}
use Rattle.sweep_model.specs.Sweep.{Progress, go_for, on, open_at, turns_left}
use Rattle.sweep_state.specs.code.Ending.{Ends}
use Rattle.sweep_state.specs.code.Meet.{Workspace}
use Rattle.sweep_state.specs.code.Represents.{Represents}
use Rattle.sweep_state.specs.code.Settle.{on_workspace, state_on}
use Rattle.sweep_state.specs.code.Words.{posed}
use Rattle.sweep_state.specs.code.Sweep.{lent}
use Rattle.sweep_state.specs.declared.end.Ended.{Ended}
use Rattle.sweep_state.specs.declared.sweep.Sweep.{Sweep}
use Rattle.sweep_state.specs.declared.task.Task.{Task}
use Rattle.sweep_step.specs.code.Multiply.{Context}
use Rattle.sweep_turn.specs.code.Visit.{ScanOn}
use Rattle.truth.specs.Truth.{Truth}

-- Between two turns: the last scan has come to its end.
abbrev pub RestOn : Task → Context → ℕ → ℕ → Workspace → Type 0
RestOn t x used steps b = ScanOn t x t.count used steps b

pub record RestIn (s : Sweep) : Type 0 where
  pub context : Context
  pub on : RestOn s.task context s.used s.steps (lent s)

-- The context of the first turn.
abbrev pub first_context : Task → List Truth → List ℕ → Workspace → ℕ → ℕ → Context
first_context t functions entry b used steps = record { functions = functions; entry = entry; turns = turns_left (state_on t b used steps).stages }

-- The context with one turn more.
abbrev pub one_more : Context → Context
one_more x = record { functions = x.functions; entry = x.entry; turns = suc x.turns }

-- Vertex v waits and opens now; the context has the turns that are left after this one.
pub record OpenOn (t : Task) (x : Context) (v used steps : ℕ) (b : Workspace) : Type 0 where
  pub rests : RestOn t (one_more x) used steps b
  pub inside : v < t.count
  pub waits : waits? (stage_of (state_on t b used steps).stages v) ≡ true

pub record OpenIn (v : ℕ) (s : Sweep) : Type 0 where
  pub context : Context
  pub on : OpenOn s.task context v s.used s.steps (lent s)

abbrev pub opened_by : Task → Context → ℕ → ℕ → ℕ → Workspace → Progress
opened_by t x v used steps b = open_at (posed t x.functions) v (state_on t b used steps)

-- The turn has come to its end.
pub record TurnTaken (t : Task) (x : Context) (v used steps : ℕ) (b after : Workspace) (more taken : ℕ) : Type 0 where
  pub reached : opened_by t x v used steps b ≡ on (state_on t after more taken)
  pub rests : RestOn t x more taken after

abbrev pub Opens : ℕ → Sweep → Sweep → Result (Unit {0}) Ended → Type 0
Opens v s after (Ok _) =
    (x : Context) → OpenOn s.task x v s.used s.steps (lent s) → TurnTaken s.task x v s.used s.steps (lent s) (lent after) after.used after.steps
Opens v s after (Err r) =
    (x : Context) → OpenOn s.task x v s.used s.steps (lent s) → Ends s.task x.functions (opened_by s.task x v s.used s.steps (lent s)) (lent after) r

abbrev pub gone : Task → Context → ℕ → ℕ → Workspace → Progress
gone t x used steps b = go_for (posed t x.functions) x.turns (state_on t b used steps)

-- None waits.
pub record Rested (t : Task) (x : Context) (used steps : ℕ) (b after : Workspace) (more taken : ℕ) : Type 0 where
  pub reached : gone t x used steps b ≡ on (state_on t after more taken)
  pub represents : Represents t x.functions x.entry (on_workspace after more taken)

abbrev pub Goes : Sweep → Sweep → Result (Unit {0}) Ended → Type 0
Goes s after (Ok _) = (x : Context) → RestOn s.task x s.used s.steps (lent s) → Rested s.task x s.used s.steps (lent s) (lent after) after.used after.steps
Goes s after (Err r) = (x : Context) → RestOn s.task x s.used s.steps (lent s) → Ends s.task x.functions (gone s.task x s.used s.steps (lent s)) (lent after) r
