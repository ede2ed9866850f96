-- The two literals looked at, by words.
use Rattle.sweep_state.specs.declared.end.End.{End}
use Rattle.std.specs.Prelude.{None, Option, Some}
use Rattle.std.specs.Prelude.{◌*◌, ◌+◌, ◌<◌, ℕ, eqb, length, ◌&&◌, cond, List}
use Rattle.aig.specs.Literal.{negate, vertex_of}
use Rattle.aig.specs.Lookup.{first_word}
use Rattle.bdd.specs.Diagram.{edge}
use Rattle.sweep_graph.specs.code.Takes.{has_word}
use Rattle.sweep_model.specs.Normalise.{resolve}
use Rattle.sweep_model.specs.State.{State}
use Rattle.sweep_model.specs.Sweep.{Progress, ends, on}
use Rattle.sweep_state.specs.code.Ending.{Refers, verdict_of}
use Rattle.sweep_state.specs.declared.end.End.TheVariants.{Differ, Equal, Inverse}
use Rattle.sweep_state.specs.declared.task.Task.{Task}

-- The reference of a literal's function.
abbrev pub reference_of : List ℕ → ℕ → ℕ
reference_of diagrams r = edge (first_word diagrams (vertex_of r)) r

unfoldable pub compared_as : List ℕ → ℕ → ℕ → End
compared_as diagrams l r = cond (eqb (reference_of diagrams l) (reference_of diagrams r)) Equal (Differ (reference_of diagrams l) (reference_of diagrams r))

unfoldable pub seen_at : List ℕ → List ℕ → ℕ → ℕ → Option End
seen_at diagrams stages l r =
    cond (eqb l r) (Some Equal)
    (cond (eqb l (negate r)) (Some Inverse)
    (cond (has_word stages (vertex_of l) && has_word stages (vertex_of r)) (Some (compared_as diagrams l r)) None))

abbrev pub seen_by : Task → List ℕ → List ℕ → List ℕ → Option End
seen_by t pairs diagrams stages = seen_at diagrams stages (resolve pairs t.left) (resolve pairs t.right)

-- What looking needs: the literals, and what they became, have their words.
pub record Looks (t : Task) (pairs diagrams stages : List ℕ) : Type 0 where
  pub left-pair : 2 * vertex_of t.left + 1 < length pairs
  pub right-pair : 2 * vertex_of t.right + 1 < length pairs
  pub left_diagram : 2 * vertex_of (resolve pairs t.left) < length diagrams
  pub right_diagram : 2 * vertex_of (resolve pairs t.right) < length diagrams
  pub left-stage : 2 * vertex_of (resolve pairs t.left) < length stages
  pub right-stage : 2 * vertex_of (resolve pairs t.right) < length stages

-- How the sweep goes on or ends, by what was seen in a state with these rows, of some inputs.
unfoldable pub progress_of : List ℕ → ℕ → State → Option End → Progress
progress_of rows inputs s (Some e) = ends (verdict_of rows inputs e) 0 s
progress_of rows inputs s None = on s

-- The references seen are those of rows in use.
abbrev pub SeenRefers : List ℕ → ℕ → ℕ → Option End → Type 0
SeenRefers rows used inputs (Some e) = Refers rows used inputs e
SeenRefers rows used inputs None = Unit {0}
