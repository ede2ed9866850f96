-- A graph with more rows.
use Rattle.std.specs.Prelude.{◌*◌, ◌+◌, ◌-◌, ◌<◌, ℕ, drop, get_or, length, List, [], ◌++◌, ◌∷◌, ◌≡◌}
use Rattle.load_model.specs.Build.{Build, Traced}
use Rattle.load_model.specs.code.Good.{Good}
use Rattle.table.specs.Table.{pairs}
use Rattle.table.specs.Values.{Pair}

-- "two words a made vertex" (RULES 4.1)
unfoldable pub row_words : List Pair → List ℕ
row_words [] = []
row_words (r ∷ rs) = r.0 ∷ r.1 ∷ row_words rs

-- The rows of the made vertices of a graph of n inputs.
unfoldable pub rows_after : ℕ → Build → List Pair
rows_after n b = pairs (b.count - (1 + n)) (drop (2 * (1 + n)) b.words)

-- Graph c has the vertices of graph b, and then those of some rows.
pub record Grown (b : Build) (rows : List Pair) (c : Build) : Type 0 where
  pub words : c.words ≡ b.words ++ row_words rows
  pub count : c.count ≡ b.count + length rows

-- Graph c is good and has grown from graph b by some ANDs that were asked for.
pub record Step (n : ℕ) (b : Build) (ands : ℕ) (c : Build) : Type 0 where
  pub good : Good n c
  pub asked : c.asked ≡ b.asked + ands
  pub rows : List Pair
  pub grown : Grown b rows c

-- The graph is good, and the literals of a file's vertices are those of vertices of the graph.
pub record Ready (n : ℕ) (t : Traced) : Type 0 where
  pub good : Good n t.build
  pub below : (i : ℕ) → get_or t.literals i 0 < 2 * t.build.count
