-- What is known of words to which neither 10 nor 11 applies. (RULES 8.1)
use Rattle.std.specs.Prelude.{◌*◌, ◌+◌, ◌<◌, ◌≤◌, ℕ, get_or, length, List}
use Rattle.table.specs.Limits.{max_ands, max_inputs, max_outputs}
use Rattle.table.specs.Table.{constraint_of, inputs_of, made_of, output_words, outputs_of, promised, rows_of, vertices_of}
use Rattle.table.specs.Values.{Pair}

-- Both literals of a row are below a bound.
pub record RowBelow (n : ℕ) (r : Pair) : Type 0 where
  pub first : r.0 < n
  pub second : r.1 < n

-- Each row refers to vertices below its own, the first row being that of vertex v. (RULES 4.3)
abbrev pub Downward : ℕ → List Pair → Type 0
Downward v rs = (i : ℕ) → i < length rs → RowBelow (2 * (v + i)) (get_or rs i (0, 0))

-- What test 10 leaves: a whole table with a header within the limits. (RULES 8.1)
pub record WellFormed (ws : List ℕ) : Type 0 where
  pub header : 3 ≤ length ws
  pub inputs : inputs_of ws ≤ max_inputs
  pub made : made_of ws ≤ max_ands
  pub some-output : 1 ≤ outputs_of ws
  pub outputs : outputs_of ws ≤ max_outputs
  pub whole : promised (made_of ws) (outputs_of ws) ≤ length ws

-- What tests 10 and 11 leave: a well-formed table whose references are in order. (RULES 8.1)
pub record Accepted (ws : List ℕ) : Type 0 where
  pub formed : WellFormed ws
  pub rows : Downward (1 + inputs_of ws) (rows_of ws)
  pub references : (k : ℕ) → k < length (output_words ws) → get_or (output_words ws) k 0 < 2 * vertices_of ws
  pub constraint : constraint_of ws < 2 * vertices_of ws
