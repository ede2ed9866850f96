-- What is tested of a card before its graph is swept.
use Rattle.std.specs.Prelude.{◌*◌, ◌+◌, ◌<◌, ◌≤◌, ℕ, List, ◌≡◌}
use Rattle.aig.specs.Lookup.{HoldsRow, first_word, second_word}
use Rattle.bdd.specs.code.Rows.{LIMIT}
use Rattle.run_card_file.specs.CardFile.{part_of, value_of}
use Rattle.sweep_model.specs.Fit.{Downward}
use Rattle.sweep_state.specs.declared.task.Task.{Task}

-- The number in field k of a card.
abbrev pub number_in : List ℕ → ℕ → ℕ
number_in card k = value_of (part_of 124 card k)

-- What a card asks: its fields 1 to 8.
abbrev pub task_in : List ℕ → Task
task_in card =
    record {
      first = number_in card 1;
      count = number_in card 2;
      inputs = number_in card 3;
      left = number_in card 4;
      right = number_in card 5;
      size = number_in card 6;
      rows = number_in card 7;
      steps = number_in card 8;
    }

-- The most vertices and inputs of a card's graph.
abbrev pub VERTICES : ℕ
VERTICES = 64

abbrev pub INPUTS : ℕ
INPUTS = 64

-- A first vertex holds its own literal twice, another refers below itself.
pub record InPlace (first v : ℕ) (pairs : List ℕ) : Type 0 where
  pub own : v < first → HoldsRow pairs v (2 * v) (2 * v)
  pub first_below : first ≤ v → first_word pairs v < 2 * v
  pub second_below : first ≤ v → second_word pairs v < 2 * v

-- The constant and the inputs are the first vertices, and the literals looked at name vertices.
pub record Named (t : Task) : Type 0 where
  pub count : t.count ≤ VERTICES
  pub inputs : t.inputs ≤ INPUTS
  pub first : t.first ≡ 1 + t.inputs
  pub first-within : t.first ≤ t.count
  pub left : t.left < 2 * t.count
  pub right : t.right < 2 * t.count

-- From 1 to the most.
abbrev pub Between : ℕ → ℕ → Type 0
Between n most = (1 ≤ n) × (n ≤ most)

-- "The size or row limit is outside 1 to 32,768, or the step limit outside 1 to 4,294,967,295.": they are not. (RULES 2.4, 8.1)
pub record Limited (t : Task) : Type 0 where
  pub size : Between t.size LIMIT
  pub rows : Between t.rows LIMIT
  pub steps : Between t.steps 4294967295

-- A task on the words of a graph.
pub record Asked (t : Task) (pairs : List ℕ) : Type 0 where
  pub limited : Limited t
  pub named : Named t
  pub downward : Downward t.first t.count pairs
