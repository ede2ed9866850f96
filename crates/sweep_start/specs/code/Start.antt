-- The start of a sweep, as in the model.
use Rattle.std.specs.Prelude.{◌*◌, ◌-◌, ◌<◌, ◌^◌, ◌≤◌, ℕ, Err, length, List, Ok, Result, ◌≡◌}
use Rattle.bdd.specs.code.Rows.{LIMIT, MARK, RADIX}
use Rattle.sweep_model.specs.Fit.{Fit}
use Rattle.sweep_model.specs.Normalise.{normalise}
use Rattle.sweep_model.specs.code.Steady.{Giving}
use Rattle.sweep_model.specs.Sweep.{Progress, and_then, begin, give_inputs, look, on, start}
use Rattle.sweep_state.specs.code.Ending.{Ends}
use Rattle.sweep_state.specs.code.Meet.{Workspace}
use Rattle.sweep_state.specs.code.Represents.{Represents}
use Rattle.sweep_state.specs.code.Settle.{on_workspace, state_on}
use Rattle.sweep_state.specs.code.Words.{posed}
use Rattle.sweep_state.specs.declared.end.Ended.{Ended}
use Rattle.sweep_state.specs.declared.task.Task.{Task}
use Rattle.sweep_turn.specs.code.Turn.{RestOn, first_context}
use Rattle.truth.specs.Truth.{Truth}

-- The vertices have these functions, and the pairs are the rows of a graph with them.
pub record HasFunctions (t : Task) (functions : List Truth) (pairs : List ℕ) : Type 0 where
  pub fit : Fit (posed t functions) pairs
  pub count : length functions ≡ t.count

-- What a sweep is asked: such functions are there, the limits are within theirs, and the slices are long enough.
pub record SweepAsked (t : Task) (look : List ℕ) (b : Workspace) : Type 0 where
  pub functions : List Truth
  pub has-functions : HasFunctions t functions b.pairs
  pub few : t.count ≤ RADIX
  pub narrow : t.inputs < MARK
  pub modest : t.size < 2 ^ 32
  pub most : t.rows ≤ LIMIT
  pub short : t.steps < 2 ^ 32
  pub look-long : 2 * t.count ≤ length look
  pub diagrams-long : 2 * t.count ≤ length b.arrays.diagrams
  pub stages-long : 2 * t.count ≤ length b.arrays.stages
  pub rows_long : t.rows * 4 ≤ length b.arrays.rows
  pub marks-long : t.count ≤ length b.arrays.marks

-- After the first normalising: no input has its row.
pub record Prepared (t : Task) (functions : List Truth) (entry : List ℕ) (b : Workspace) : Type 0 where
  pub represents : Represents t functions entry (on_workspace b 0 0)
  pub giving : Giving (posed t functions) 1 (state_on t b 0 0)

pub record PreparedFrom (t : Task) (functions : List Truth) (b after : Workspace) : Type 0 where
  pub reached : state_on t after 0 0 ≡ normalise t.first (begin (posed t functions) b.pairs)
  pub prepared : Prepared t functions b.pairs after

abbrev pub Prepares : Task → Workspace → Workspace → Type 0
Prepares t b after = (functions : List Truth) → HasFunctions t functions b.pairs → PreparedFrom t functions b after

-- Such functions and entry rows are there.
pub record GivingIn (t : Task) (b : Workspace) : Type 0 where
  pub functions : List Truth
  pub entry : List ℕ
  pub prepared : Prepared t functions entry b

-- "3. .. Each input gets its row, upwards, and waits." and the look that follows. (RULES 6.3, 6.5)
abbrev pub inputs_given : Task → List Truth → Workspace → Progress
inputs_given t functions b =
    let p = posed t functions in
    and_then (give_inputs p 1 (t.first - 1) (state_on t b 0 0)) (look p)

-- The model has gone on to these words, and the first turn can begin.
pub record GoneOn (t : Task) (functions : List Truth) (entry : List ℕ) (o : Progress) (after : Workspace) (used steps : ℕ) : Type 0 where
  pub reached : o ≡ on (state_on t after used steps)
  pub rests : RestOn t (first_context t functions entry after used steps) used steps after

abbrev pub GivesInputs : Task → Workspace → Workspace → ℕ → ℕ → Result (Unit {0}) Ended → Type 0
GivesInputs t b after used steps (Ok _) =
    (functions : List Truth) (entry : List ℕ) → Prepared t functions entry b → GoneOn t functions entry (inputs_given t functions b) after used steps
GivesInputs t b after used steps (Err r) =
    (functions : List Truth) (entry : List ℕ) → Prepared t functions entry b → Ends t functions (inputs_given t functions b) after r

-- Steps 1, 2, 3 and 5. (RULES 6.1, 6.2, 6.3, 6.5)
abbrev pub Starts : Task → Workspace → Workspace → ℕ → ℕ → Result (Unit {0}) Ended → Type 0
Starts t b after used steps (Ok _) =
    (functions : List Truth) → HasFunctions t functions b.pairs
    → GoneOn t functions b.pairs (start (posed t functions) b.pairs) after used steps
Starts t b after used steps (Err r) =
    (functions : List Truth) → HasFunctions t functions b.pairs → Ends t functions (start (posed t functions) b.pairs) after r
