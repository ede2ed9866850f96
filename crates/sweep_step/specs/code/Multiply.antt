-- A vertex has its product taken, as in the model.
use Rattle.std.specs.Prelude.{ℕ, Err, List, Ok, Option, Result, ◌≡◌}
use Rattle.product.specs.declared.steps.Short.TheVariants as short
use Rattle.product.specs.declared.steps.Short.{Short}
use Rattle.sweep_model.specs.code.Steady.{Due}
use Rattle.sweep_model.specs.Sweep.{Progress, multiply}
use Rattle.sweep_model.specs.declared.Cause.TheVariants.{Rows, Steps}
use Rattle.sweep_state.specs.code.Ending.{Ends}
use Rattle.sweep_state.specs.code.Look.{SeenRefers, progress_of}
use Rattle.sweep_state.specs.code.Meet.{Workspace}
use Rattle.sweep_state.specs.code.Represents.{Represents}
use Rattle.sweep_state.specs.code.Settle.{BeforeProduct, Ended, on_workspace, state_on, workspace_before}
use Rattle.sweep_state.specs.code.Sweep.{lent}
use Rattle.sweep_state.specs.code.Words.{posed}
use Rattle.sweep_state.specs.declared.end.End.TheVariants.{Undecided}
use Rattle.sweep_state.specs.declared.end.End.{End}
use Rattle.sweep_state.specs.declared.end.Ended as result
use Rattle.sweep_state.specs.declared.sweep.Sweep.{Sweep}
use Rattle.sweep_state.specs.declared.task.Task.{Task}
use Rattle.truth.specs.Truth.{Truth}

-- What stays while a scan goes on: the vertices' functions, the entry rows, the turns left.
pub record Context : Type 0 where
  pub functions : List Truth
  pub entry : List ℕ
  pub turns : ℕ

-- Vertex v is to have its product taken.
pub record DueOn (t : Task) (x : Context) (v used steps : ℕ) (b : Workspace) : Type 0 where
  pub represents : Represents t x.functions x.entry (on_workspace b used steps)
  pub due : Due (posed t x.functions) x.entry x.turns v (state_on t b used steps)

-- Such a context is there.
pub record DueIn (v : ℕ) (s : Sweep) : Type 0 where
  pub context : Context
  pub on : DueOn s.task context v s.used s.steps (lent s)

abbrev pub multiplied : Task → Context → ℕ → ℕ → ℕ → Workspace → Progress
multiplied t x v used steps b = multiply (posed t x.functions) v (state_on t b used steps)

-- The product is done, and the two literals are looked at.
pub record Looked (t : Task) (x : Context) (v used steps : ℕ) (b after : Workspace) (seen : Option End) (more taken : ℕ) : Type 0 where
  pub reached : multiplied t x v used steps b ≡ progress_of after.arrays.rows t.inputs (state_on t after more taken) seen
  pub represents : Represents t x.functions x.entry (on_workspace after more taken)
  pub refers : SeenRefers after.arrays.rows more t.inputs seen

-- The context that a product was taken in.
abbrev pub scene_of : BeforeProduct → Context
scene_of x = record { functions = x.functions; entry = x.entry; turns = x.turns }

-- A product that is done: the two literals are looked at, in each setting in which it ended so.
abbrev pub Concludes : ℕ → ℕ → ℕ → Sweep → Sweep → Option End → Type 0
Concludes v reference kept s after seen =
    (x : BeforeProduct) → Ended s.task x v reference s.used kept (lent s) → x.taken ≡ s.steps
    → Looked s.task (scene_of x) v kept x.steps (workspace_before x (lent s)) (lent after) seen after.used after.steps

-- "Rows or Steps with the vertex at which the limit was passed" (RULES 7.3)
abbrev pub end_by : ℕ → Short → End
end_by v short.Rows = Undecided (Rows v)
end_by v short.Steps = Undecided (Steps v)

-- The end names the vertex at which a limit was passed. (RULES 7.3)
pub record PassedAt (v : ℕ) (e : End) : Type 0 where
  pub short : Short
  pub ends : e ≡ end_by v short

-- It is done and looked at, or a limit was passed.
abbrev pub Takes : ℕ → Sweep → Sweep → Result (Option End) result.Ended → Type 0
Takes v s after (Ok seen) = (x : Context) → DueOn s.task x v s.used s.steps (lent s) → Looked s.task x v s.used s.steps (lent s) (lent after) seen after.used after.steps
Takes v s after (Err r) = (x : Context) → DueOn s.task x v s.used s.steps (lent s) → Ends s.task x.functions (multiplied s.task x v s.used s.steps (lent s)) (lent after) r
