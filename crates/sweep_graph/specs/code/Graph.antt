-- What the code asks of the rows of the working graph.
use Rattle.std.specs.Prelude.{◌*◌, ◌+◌, ◌<◌, ◌^◌, ◌≤◌, ℕ, length, List}
use Rattle.aig.specs.Lookup.{Indexed, first_word, second_word}
use Rattle.sweep_model.specs.Fit.{Downward}

-- The rows refer downwards, the first vertices stand for themselves, the constant is one of them, and every literal fits a word.
pub record Graph (first count : ℕ) (pairs : List ℕ) : Type 0 where
  pub downward : Downward first count pairs
  pub some_first : 1 ≤ first
  pub first-within : first ≤ count
  pub few : count ≤ 2 ^ 31

-- Vertex v is next: the look-up holds the lower vertices and has room, and the row of v refers to them.
pub record Turn (pairs : List ℕ) (v : ℕ) (look : List ℕ) (places : ℕ) : Type 0 where
  pub indexed : Indexed pairs v look places
  pub made : 1 ≤ v
  pub below : v < places
  pub few : v ≤ 2 ^ 31
  pub room : 2 * v + 1 < length pairs
  pub first_below : first_word pairs v < 2 * v
  pub second_below : second_word pairs v < 2 * v
