-- What a problem and the rows of its vertices must satisfy.
use Rattle.std.specs.Prelude.{◌*◌, ◌<◌, ◌≤◌, suc, ℕ, length, false, List, ◌≡◌}
use Rattle.aig.specs.Lookup.{HoldsRow, first_word, second_word}
use Rattle.sweep_model.specs.State.{Problem, function_of, literal_function}
use Rattle.truth.specs.Truth.{Perfect, conj, constantly, input}

-- How many vertices there are.
abbrev pub vertex_count : Problem → ℕ
vertex_count p = length p.functions

-- "Vertex 0 is constant false, vertices 1 to inputs are the inputs": the first vertices. All functions are of the problem's inputs,
-- and the literals looked at name vertices. (RULES 1.6)
pub record WellFormed (p : Problem) : Type 0 where
  pub perfect : (v : ℕ) → v < vertex_count p → Perfect p.inputs (function_of p v)
  pub constant : function_of p 0 ≡ constantly p.inputs false
  pub inputs : (v : ℕ) → 1 ≤ v → v < p.first → function_of p v ≡ input p.inputs v
  pub some_first : 1 ≤ p.first
  pub first-few : p.first ≤ suc p.inputs
  pub first-within : p.first ≤ vertex_count p
  pub left-within : p.left < 2 * vertex_count p
  pub right-within : p.right < 2 * vertex_count p

-- Two words a vertex, count vertices: a first vertex holds its own literal twice, and "A gate refers only to vertices below
-- itself." (RULES 1.8, 4.3)
pub record Downward (first count : ℕ) (rows : List ℕ) : Type 0 where
  pub long : 2 * count ≤ length rows
  pub own : (v : ℕ) → v < first → HoldsRow rows v (2 * v) (2 * v)
  pub first_below : (v : ℕ) → first ≤ v → v < count → first_word rows v < 2 * v
  pub second_below : (v : ℕ) → first ≤ v → v < count → second_word rows v < 2 * v

-- The rows refer downwards, and each made vertex has the function that its row stands for.
pub record Sound (p : Problem) (rows : List ℕ) : Type 0 where
  pub downward : Downward p.first (vertex_count p) rows
  pub means : (v : ℕ) → p.first ≤ v → v < vertex_count p
      → function_of p v ≡ conj (literal_function p (first_word rows v)) (literal_function p (second_word rows v))

-- What a sweep is started on.
pub record Fit (p : Problem) (rows : List ℕ) : Type 0 where
  pub well_formed : WellFormed p
  pub sound : Sound p rows
