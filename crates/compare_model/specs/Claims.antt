-- What the rules say of the reply of a comparison that is not refused, in terms of the table as loaded, what the comparison was given
-- and what it left. (RULES 7.2 to 7.11, 12.2)
use Rattle.std.specs.Prelude.{◌<◌, ◌≤◌, ℕ, get_or, length, take, Bool, ◌&&◌, false, not, true, List, ◌↔◌, ◌≢◌, ◌≡◌}
use Rattle.aig.specs.Values.{literal_value}
use Rattle.compare_model.specs.Compare.{Given, Left, entry_rows, graph_words, over_front, problem_of, setting_bytes}
use Rattle.compare_model.specs.Said.{Named, Said}
use Rattle.sweep_model.specs.Claims.{AfterRows, AfterSteps, AtRest, Settled, rows_marked}
use Rattle.sweep_model.specs.Fit.{Sound}
use Rattle.sweep_model.specs.State.{Problem, function_of}
use Rattle.table.specs.Table.{constraint_of, graph_of, inputs_of, output_value, values_on}
use Rattle.truth.specs.Parts.{size}
use Rattle.truth.specs.Settings.{number_of}
use Rattle.truth.specs.Truth.{Setting}

-- "a vertex's function and operands are those of the table as loaded, and limits are those that the comparison in question was given":
-- the problem of a comparison and its entry rows, by a table. (RULES 12.4)
abbrev pub problem_by : List ℕ → Given → Problem
problem_by table given = problem_of table given.output given.limits

abbrev pub rows_by : List ℕ → Given → List ℕ
rows_by table given = entry_rows table given.output

-- "Rows reported = distinct parts of the functions marked 1." (RULES 7.5)
abbrev pub RowsKept : List ℕ → Given → Left → ℕ → Type 0
RowsKept loaded given left rows = rows ≡ rows_marked (problem_by loaded given) left.marks

-- "After Equal, Different and Size, steps = the sum over ANDs marked 1 or 2.", and the rows added are "0 where none broke". (RULES 7.5, 7.6, 7.11)
pub record CountsKept (loaded : List ℕ) (given : Given) (left : Left) (rows steps added : ℕ) : Type 0 where
  pub rows-kept : RowsKept loaded given left rows
  pub settled : Settled (problem_by loaded given) (rows_by loaded given) left.marks steps added

-- "only settings on which r is true are allowed": the value of a table's r on a setting. (RULES 1.13)
unfoldable pub allows? : List ℕ → Setting → Bool
allows? table s = literal_value not ◌&&◌ false (values_on (graph_of table) s) (constraint_of table)

-- "Equal is then agreement on the allowed settings": output k of a table's two sides. (RULES 1.13, 12.2)
abbrev pub Agrees : List ℕ → ℕ → Type 0
Agrees table k =
    (s : Setting) → length s ≡ inputs_of table → allows? table s ≡ true → output_value (graph_of table) 1 k s ≡ output_value (graph_of table) 2 k s

-- "a Different shows the first allowed setting that separates", in counting order: "one byte an input .. to the front of the lent setting slice and
-- no others". (RULES 1.13, 7.2, 12.2)
pub record Differs (table : List ℕ) (k : ℕ) (before after : List ℕ) : Type 0 where
  pub setting : Setting
  pub digits : length setting ≡ inputs_of table
  pub written : after ≡ over_front (setting_bytes setting) before
  pub allowed : allows? table setting ≡ true
  pub differ : output_value (graph_of table) 1 k setting ≢ output_value (graph_of table) 2 k setting
  pub first : (s : Setting) → length s ≡ inputs_of table → allows? table s ≡ true → number_of s < number_of setting
      → output_value (graph_of table) 1 k s ≡ output_value (graph_of table) 2 k s

-- "Marks, one byte a vertex": "0 .. (and the constant); 1 swept, or an input given its row; 2 product ended and too large; 3 the vertex named
-- by Rows or Steps." Of every reply: an AND marked 1 is not larger than the size limit, and "every vertex marked 2 is larger". (RULES 7.4, 7.9)
pub record MarksKept (p : Problem) (marks : List ℕ) (said : Said) : Type 0 where
  pub known : (v : ℕ) → v < length p.functions → get_or marks v 0 ≤ 3
  pub constant : get_or marks 0 0 ≡ 0
  pub small : (v : ℕ) → p.first ≤ v → v < length p.functions → get_or marks v 0 ≡ 1 → size (function_of p v) ≤ p.limits.size
  pub large : (v : ℕ) → v < length p.functions → get_or marks v 0 ≡ 2 → p.limits.size < size (function_of p v)
  pub named : (v : ℕ) → Named said v ↔ ((v < length p.functions) × (get_or marks v 0 ≡ 3))

-- "After Size, some vertex is marked 2": an AND. "After Size, every input is marked 1, and every AND marked 0 ..", the operands by the rows
-- as left: those that the table has, and after them those of the next vertices, which it does not keep. Of these it is said that they exist, refer
-- downwards and stand for their vertices' functions. (RULES 6.9, 7.9, 7.10)
pub record AfterSize (p : Problem) (marks kept : List ℕ) : Type 0 where
  pub vertex : ℕ
  pub made : p.first ≤ vertex
  pub there : vertex < length p.functions
  pub mark : get_or marks vertex 0 ≡ 2
  pub rows : List ℕ
  pub front : take (length kept) rows ≡ kept
  pub sound : Sound p rows
  pub at_rest : AtRest p.first (length p.functions) marks rows rows

-- What is said of each reply of a comparison that is not refused, beside its marks, the functions and operands those of the table as loaded. It
-- says no refusal. (RULES 7.5 to 7.11)
abbrev pub ReplySays : List ℕ → Given → Left → Said → Type 0
ReplySays loaded given left (Said.refused n) = ⊥
ReplySays loaded given left (Said.equal rows steps added) = Agrees loaded given.output × CountsKept loaded given left rows steps added
ReplySays loaded given left (Said.different rows steps added) =
    Differs loaded given.output given.setting left.setting × CountsKept loaded given left rows steps added
ReplySays loaded given left (Said.size rows steps added) =
    AfterSize (problem_by loaded given) left.marks (graph_words left.table) × CountsKept loaded given left rows steps added
ReplySays loaded given left (Said.rows v rows steps added) =
    AfterRows (problem_by loaded given) (rows_by loaded given) left.marks v rows steps added × RowsKept loaded given left rows
ReplySays loaded given left (Said.steps v rows steps added) =
    AfterSteps (problem_by loaded given) (rows_by loaded given) left.marks v rows steps added × RowsKept loaded given left rows
