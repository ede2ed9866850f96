-- What the sweep's slices hold, and the model's problem and state that it stands for.
use Rattle.std.specs.Prelude.{ℕ, take, List}
use Rattle.product.specs.Product.{book_of}
use Rattle.sweep_graph.specs.code.Stages.{stages_of}
use Rattle.sweep_model.specs.State.{Problem, State}
use Rattle.sweep_state.specs.declared.task.Task.{Task}
use Rattle.truth.specs.Truth.{Truth}

-- The words of pairs, diagrams (reference and size), stages and rows, the bytes of marks; the rows used and the steps taken.
pub record Words : Type 0 where
  pub pairs : List ℕ
  pub diagrams : List ℕ
  pub stages : List ℕ
  pub rows : List ℕ
  pub marks : List ℕ
  pub used : ℕ
  pub steps : ℕ

abbrev pub words : List ℕ → List ℕ → List ℕ → List ℕ → List ℕ → ℕ → ℕ → Words
words pairs diagrams stages rows marks used steps =
    record { pairs = pairs; diagrams = diagrams; stages = stages; rows = rows; marks = marks; used = used; steps = steps }

-- The problem of a task, where the vertices have these functions.
abbrev pub posed : Task → List Truth → Problem
posed t functions =
    record {
      inputs = t.inputs;
      functions = functions;
      first = t.first;
      left = t.left;
      right = t.right;
      limits = record { size = t.size; rows = t.rows; steps = t.steps };
    }

-- The state that the words of count vertices stand for.
abbrev pub state_of : ℕ → Words → State
state_of count w =
    record {
      rows = w.pairs;
      stages = stages_of w.stages count;
      marks = take count w.marks;
      book = book_of w.rows w.used w.steps;
    }
