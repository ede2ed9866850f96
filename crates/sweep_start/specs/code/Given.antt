-- All inputs given their rows, as the model gives them.
use Rattle.std.specs.Prelude.{◌-◌, ℕ, Err, List, Ok, Result, ◌≡◌}
use Rattle.sweep_model.specs.State.{State}
use Rattle.sweep_model.specs.code.Steady.{Giving}
use Rattle.sweep_model.specs.Sweep.{Progress, give_inputs, on}
use Rattle.sweep_model.specs.declared.Cause.TheVariants.{Rows}
use Rattle.sweep_state.specs.code.Ending.{Ends, ended_with}
use Rattle.sweep_state.specs.code.Meet.{workspace}
use Rattle.sweep_state.specs.code.Represents.{Represents}
use Rattle.sweep_state.specs.code.Arrays.{Arrays}
use Rattle.sweep_state.specs.code.Words.{Words, posed, state_of, words}
use Rattle.sweep_state.specs.declared.end.End.TheVariants.{Undecided}
use Rattle.sweep_state.specs.declared.task.Task.{Task}
use Rattle.truth.specs.Truth.{Truth}

-- What stays while the inputs are given their rows: the vertices' functions, the entry rows, the pairs and the steps.
pub record InputContext : Type 0 where
  pub functions : List Truth
  pub entry : List ℕ
  pub pairs : List ℕ
  pub steps : ℕ

abbrev pub words_in : InputContext → Arrays → ℕ → Words
words_in x a used = words x.pairs a.diagrams a.stages a.rows a.marks used x.steps

abbrev pub state_in : Task → InputContext → Arrays → ℕ → State
state_in t x a used = state_of t.count (words_in x a used)

-- The inputs below v have their rows.
pub record GivenTo (t : Task) (x : InputContext) (a : Arrays) (used v : ℕ) : Type 0 where
  pub represents : Represents t x.functions x.entry (words_in x a used)
  pub giving : Giving (posed t x.functions) v (state_in t x a used)

-- Such a context is there.
pub record HasInputContext (t : Task) (a : Arrays) (used : ℕ) : Type 0 where
  pub context : InputContext
  pub given : GivenTo t context a used 1

-- The model's progress from vertex v on.
abbrev pub giving_from : Task → InputContext → Arrays → ℕ → ℕ → Progress
giving_from t x a used v = give_inputs (posed t x.functions) v (t.first - v) (state_in t x a used)

-- All inputs have their rows.
pub record AllGiven (t : Task) (x : InputContext) (a : Arrays) (used : ℕ) (b : Arrays) (more : ℕ) : Type 0 where
  pub reached : giving_from t x a used 1 ≡ on (state_in t x b more)
  pub given : GivenTo t x b more t.first

-- "Rows with the vertex at which the row limit was passed". (RULES 7.3)
abbrev pub ShortAt : Task → InputContext → Arrays → ℕ → Arrays → ℕ → ℕ → Type 0
ShortAt t x a used b v more = Ends t x.functions (giving_from t x a used 1) (workspace x.pairs b) (ended_with (Undecided (Rows v)) more x.steps 0)

abbrev pub GivesRows : Task → Arrays → ℕ → Arrays → ℕ → Result (Unit {0}) ℕ → Type 0
GivesRows t a used b more (Ok _) = (x : InputContext) → GivenTo t x a used 1 → AllGiven t x a used b more
GivesRows t a used b more (Err v) = (x : InputContext) → GivenTo t x a used 1 → ShortAt t x a used b v more
