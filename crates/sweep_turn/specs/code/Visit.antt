-- The scan's visit of a vertex, as in the model.
use Rattle.std.specs.Prelude.{◌*◌, ◌+◌, ◌<◌, suc, ℕ, leb, length, Bool, ◌&&◌, Err, List, None, Ok, Option, Result, Some, ◌≡◌}
use Rattle.aig.specs.Literal.{vertex_of}
use Rattle.aig.specs.Lookup.{first_word, second_word}
use Rattle.sweep_graph.specs.code.Stages.{word_stage}
use Rattle.sweep_model.specs.State.{bare?, open?}
use Rattle.sweep_model.specs.code.Steady.{Scanning}
use Rattle.sweep_model.specs.Sweep.{Progress, on, visit}
use Rattle.sweep_state.specs.code.Ending.{Ends, ended_with}
use Rattle.sweep_state.specs.code.Meet.{Workspace}
use Rattle.sweep_state.specs.code.Represents.{Represents}
use Rattle.sweep_state.specs.code.Settle.{on_workspace, state_on}
use Rattle.sweep_state.specs.code.Words.{posed}
use Rattle.sweep_state.specs.code.Sweep.{lent}
use Rattle.sweep_state.specs.declared.end.End.{End}
use Rattle.sweep_state.specs.declared.end.Ended.{Ended}
use Rattle.sweep_state.specs.declared.sweep.Sweep.{Sweep}
use Rattle.sweep_state.specs.declared.task.Task.{Task}
use Rattle.sweep_step.specs.code.Multiply.{Context}

abbrev pub open_word : List ℕ → ℕ → Bool
open_word stages v = open? (word_stage (first_word stages v))

-- "each higher vertex with both operands open, without a diagram, not merged and not dropped" (RULES 6.4)
unfoldable pub ready_at : Task → ℕ → List ℕ → List ℕ → Bool
ready_at t v pairs stages =
    leb t.first v && bare? (word_stage (first_word stages v)) && open_word stages (vertex_of (first_word pairs v)) && open_word stages (vertex_of (second_word pairs v))

-- Vertex v and its operands have their words.
pub record ReadyAsked (v : ℕ) (pairs stages : List ℕ) : Type 0 where
  pub stage : 2 * v < length stages
  pub pair : 2 * v + 1 < length pairs
  pub first-stage : 2 * vertex_of (first_word pairs v) < length stages
  pub second-stage : 2 * vertex_of (second_word pairs v) < length stages

-- How the sweep goes on after what was seen.
abbrev pub going_by : Option End → ℕ → ℕ → Result (Unit {0}) Ended
going_by (Some e) u k = Err (ended_with e u k 0)
going_by None u k = Ok tt

-- The scan has come to vertex v.
pub record ScanOn (t : Task) (x : Context) (v used steps : ℕ) (b : Workspace) : Type 0 where
  pub represents : Represents t x.functions x.entry (on_workspace b used steps)
  pub scanning : Scanning (posed t x.functions) x.turns v (state_on t b used steps)

-- Such a context is there.
pub record ScanIn (v : ℕ) (s : Sweep) : Type 0 where
  pub context : Context
  pub here : ScanOn s.task context v s.used s.steps (lent s)

abbrev pub visited : Task → Context → ℕ → ℕ → ℕ → Workspace → Progress
visited t x v used steps b = visit (posed t x.functions) v (state_on t b used steps)

-- The scan goes on at the next vertex.
pub record WentOn (t : Task) (x : Context) (v used steps : ℕ) (b after : Workspace) (more taken : ℕ) : Type 0 where
  pub reached : visited t x v used steps b ≡ on (state_on t after more taken)
  pub here : ScanOn t x (suc v) more taken after

abbrev pub Visits : ℕ → Sweep → Sweep → Result (Unit {0}) Ended → Type 0
Visits v s after (Ok _) = (x : Context) → ScanOn s.task x v s.used s.steps (lent s) → WentOn s.task x v s.used s.steps (lent s) (lent after) after.used after.steps
Visits v s after (Err r) = (x : Context) → ScanOn s.task x v s.used s.steps (lent s) → Ends s.task x.functions (visited s.task x v s.used s.steps (lent s)) (lent after) r
