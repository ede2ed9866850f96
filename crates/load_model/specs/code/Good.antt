-- What holds of the graph while files of n inputs are loaded.
use Rattle.std.specs.Prelude.{◌*◌, ◌+◌, ◌<◌, ◌≤◌, ℕ, length, List, ◌≡◌}
use Rattle.aig.specs.Fold.{Unfolded}
use Rattle.aig.specs.Lookup.{HoldsRow, Unused, first_word, second_word}
use Rattle.load_model.specs.Build.{Build}

-- The row of a made vertex: it does not fold, refers downwards (its second literal is the higher one), and no lower vertex has
-- its pair. (RULES 3.8, 4.3)
pub record Row (words : List ℕ) (v : ℕ) : Type 0 where
  pub unfolded : Unfolded (first_word words v) (second_word words v)
  pub downward : second_word words v < 2 * v
  pub new : Unused words (first_word words v) (second_word words v) v

-- Two words a vertex, "asked = folded + found + made", the first vertices with their own literals, and the rows of the others. (RULES 3.8)
pub record Good (n : ℕ) (b : Build) : Type 0 where
  pub sized : length b.words ≡ 2 * b.count
  pub tally : b.asked + (1 + n) ≡ b.folded + b.found + b.count
  pub first : 1 + n ≤ b.count
  pub own : (v : ℕ) → v < 1 + n → HoldsRow b.words v (2 * v) (2 * v)
  pub rows : (v : ℕ) → n < v → v < b.count → Row b.words v
