-- What the words of a sweep stand for.
use Rattle.std.specs.Prelude.{◌*◌, ◌/◌, ◌<◌, ◌^◌, ◌≤◌, ℕ, length, true, List, ◌≡◌}
use Rattle.aig.specs.Lookup.{first_word, second_word}
use Rattle.bdd.specs.Diagram.{Reference, denote}
use Rattle.bdd.specs.code.Rows.{MARK, RADIX, owner_at}
use Rattle.bdd.specs.code.Store.{Store}
use Rattle.sweep_graph.specs.code.Takes.{Held, has_word, held}
use Rattle.sweep_model.specs.Fit.{Fit}
use Rattle.sweep_model.specs.code.Reachable.{Reachable}
use Rattle.sweep_model.specs.State.{function_of}
use Rattle.sweep_state.specs.code.Words.{Words, posed, state_of}
use Rattle.sweep_state.specs.declared.task.Task.{Task}
use Rattle.truth.specs.Parts.{size}
use Rattle.truth.specs.Truth.{Truth}

-- Vertex v has a diagram: a reference that denotes its function, and the function's size.
pub record Drawing (t : Task) (functions : List Truth) (rows : List ℕ) (used v reference count : ℕ) : Type 0 where
  pub within : Reference rows used t.inputs reference
  pub means : denote rows t.inputs reference ≡ function_of (posed t functions) v
  pub sized : count ≡ size (function_of (posed t functions) v)

-- A row's owner has its diagram there.
pub record Owns (count i : ℕ) (h : Held) (v : ℕ) : Type 0 where
  pub within : v < count
  pub has_one : has_word h.stages v ≡ true
  pub there : first_word h.diagrams v / 2 ≡ i

-- Owners have diagrams on their rows, and the row of every diagram has an owner.
pub record Owners (count used : ℕ) (h : Held) : Type 0 where
  pub rightly : (i : ℕ) → 1 ≤ i → i ≤ used → 1 ≤ owner_at h.rows i → Owns count i h (owner_at h.rows i)
  pub named : (v : ℕ) → v < count → has_word h.stages v ≡ true → 1 ≤ first_word h.diagrams v / 2
      → 1 ≤ owner_at h.rows (first_word h.diagrams v / 2)

-- The words stand for a state that the sweep reaches from the entry rows, where the vertices have these functions: the store holds its rows, and
-- every vertex with a diagram has its reference and its size.
pub record Represents (t : Task) (functions : List Truth) (entry : List ℕ) (w : Words) : Type 0 where
  pub fit : Fit (posed t functions) entry
  pub reachable : Reachable (posed t functions) entry (state_of t.count w)
  pub count : length functions ≡ t.count
  pub few : t.count ≤ RADIX
  pub narrow : t.inputs < MARK
  pub short : t.steps < 2 ^ 32
  pub modest : t.size < 2 ^ 32
  pub store : Store w.rows t.rows w.used
  pub stages-long : 2 * t.count ≤ length w.stages
  pub diagrams-long : 2 * t.count ≤ length w.diagrams
  pub marks-long : t.count ≤ length w.marks
  pub rows-within : (v : ℕ) → v < t.count → first_word w.diagrams v / 2 * 4 ≤ length w.rows
  pub drawn : (v : ℕ) → v < t.count → has_word w.stages v ≡ true
      → Drawing t functions w.rows w.used v (first_word w.diagrams v) (second_word w.diagrams v)
  pub owners : Owners t.count w.used (held w.stages w.diagrams w.rows)
