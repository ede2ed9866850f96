-- The table: its layout, the refusals 10 and 11, and its meaning. (RULES 4.1, 4.4, 8.1)
use Rattle.std.specs.Prelude.{◌*◌, ◌+◌, suc, zero, ℕ, eqb, ltb, drop, get_or, length, take, Bool, ◌&&◌, ◌||◌, cond, false, not, true, List, [], ◌∷◌}
use Rattle.aig.specs.Values.{literal_value}
use Rattle.table.specs.Limits.{max_ands, max_inputs, max_outputs}
use Rattle.table.specs.Refusals.{Test}
use Rattle.table.specs.Values.{Pair, vertex_values}
use Rattle.truth.specs.Truth.{Setting, Truth, conj, constantly, input, invert}

-- "The lent table of 32-bit words then holds: inputs; made; outputs; ..": the three words of the header. (RULES 4.1)
abbrev pub inputs_of : List ℕ → ℕ
inputs_of ws = get_or ws 0 0

abbrev pub made_of : List ℕ → ℕ
made_of ws = get_or ws 1 0

abbrev pub outputs_of : List ℕ → ℕ
outputs_of ws = get_or ws 2 0

-- "Vertex 0 is constant false, vertices 1 to inputs are the inputs", made vertices follow. (RULES 1.6, 4.3)
abbrev pub vertices_of : List ℕ → ℕ
vertices_of ws = 1 + inputs_of ws + made_of ws

-- "two words a made vertex": the row that starts at a word. (RULES 4.1)
abbrev pub row_at : List ℕ → ℕ → Pair
row_at ws at = (get_or ws at 0, get_or ws (at + 1) 0)

-- n rows, one after the other.
unfoldable pub pairs : ℕ → List ℕ → List Pair
pairs zero ws = []
pairs (suc n) ws = (get_or ws 0 0, get_or ws 1 0) ∷ pairs n (drop 2 ws)

-- The rows stand after the header. (RULES 4.1)
unfoldable pub rows_of : List ℕ → List Pair
rows_of ws = pairs (made_of ws) (drop 3 ws)

-- "the first file's output references; the second file's" (RULES 4.1)
unfoldable pub output_words : List ℕ → List ℕ
output_words ws = take (2 * outputs_of ws) (drop (3 + 2 * made_of ws) ws)

-- Where those of side 1 or 2 start.
abbrev pub side_start : List ℕ → ℕ → ℕ
side_start ws side = cond (eqb side 1) 0 (outputs_of ws)

-- Those of side 1 or 2.
unfoldable pub side_outputs : List ℕ → ℕ → List ℕ
side_outputs ws side = take (outputs_of ws) (drop (side_start ws side) (output_words ws))

-- "The table holds r's reference after the outputs, 1 where no line gives it": the constraint's literal. (RULES 1.13, 4.1)
abbrev pub constraint_of : List ℕ → ℕ
constraint_of ws = get_or ws (3 + 2 * made_of ws + 2 * outputs_of ws) 0

-- The words that a header promises.
abbrev pub promised : ℕ → ℕ → ℕ
promised made outputs = 3 + 2 * made + 2 * outputs + 1

-- "has a header beyond the limits" (RULES 8.1)
unfoldable pub beyond_limits? : ℕ → ℕ → ℕ → Bool
beyond_limits? inputs made outputs = ltb max_inputs inputs || ltb max_ands made || eqb outputs 0 || ltb max_outputs outputs

-- "10. The table is shorter than 3 words, has a header beyond the limits, or is shorter than its header says." (RULES 8.1)
unfoldable pub malformed? : List ℕ → Bool
malformed? ws =
    ltb (length ws) 3
    || beyond_limits? (inputs_of ws) (made_of ws) (outputs_of ws)
    || ltb (length ws) (promised (made_of ws) (outputs_of ws))

-- Whether every literal is below a bound.
unfoldable pub all_below? : ℕ → List ℕ → Bool
all_below? n [] = true
all_below? n (r ∷ rs) = ltb r n && all_below? n rs

-- Whether both literals of a row are below a bound.
unfoldable pub row_below? : ℕ → Pair → Bool
row_below? n r = ltb r.0 n && ltb r.1 n

-- Whether each row's literals are below twice the row's vertex, the first row being that of vertex v. (RULES 8.1)
unfoldable pub downward? : ℕ → List Pair → Bool
downward? v [] = true
downward? v (r ∷ rs) = row_below? (2 * v) r && downward? (suc v) rs

-- "11. A table reference is not below twice its vertex's number (outputs: all vertices).", "6 and 11 cover r as they do an output" (RULES 8.1)
unfoldable pub out_of_order? : List ℕ → Bool
out_of_order? ws =
    not
    (downward? (1 + inputs_of ws) (rows_of ws) && all_below? (2 * vertices_of ws) (output_words ws) && ltb (constraint_of ws) (2 * vertices_of ws))

-- Tests 10 and 11, for any words at all. (RULES 9.3, 9.4)
abbrev pub table_tests : List ℕ → List (Test ℕ)
table_tests ws = record { answer = 10; applies = malformed? ws } ∷ record { answer = 11; applies = out_of_order? ws } ∷ []

-- A graph: the number of inputs, the row of each made vertex, and the output literals of both sides.
pub record Graph : Type 0 where
  pub inputs : ℕ
  pub rows : List Pair
  pub left : List ℕ
  pub right : List ℕ

-- The graph that the words of a table hold.
unfoldable pub graph_of : List ℕ → Graph
graph_of ws = record { inputs = inputs_of ws; rows = rows_of ws; left = side_outputs ws 1; right = side_outputs ws 2 }

-- "On a setting an input has its digit": the values of all vertices on a setting. (RULES 1.10, 4.4)
unfoldable pub values_on : Graph → Setting → List Bool
values_on g s = vertex_values not ◌&&◌ false (false ∷ s) g.rows

-- The output literals of side 1 or 2.
unfoldable pub outputs : Graph → ℕ → List ℕ
outputs g side = cond (eqb side 1) g.left g.right

-- "A table output's value is found likewise": output k of a side on a setting. (RULES 4.4)
unfoldable pub output_value : Graph → ℕ → ℕ → Setting → Bool
output_value g side k s = literal_value not ◌&&◌ false (values_on g s) (get_or (outputs g side) k 0)

-- The functions of k vertices from vertex i on, the constant and the inputs of n being the first.
unfoldable pub inputs_from : ℕ → ℕ → ℕ → List Truth
inputs_from n i zero = []
inputs_from n i (suc k) = input n i ∷ inputs_from n (suc i) k

-- "Vertex 0 is constant false, vertices 1 to inputs are the inputs": their functions. (RULES 1.6)
unfoldable pub first_functions : ℕ → List Truth
first_functions n = inputs_from n 0 (suc n)

-- The functions of all vertices.
unfoldable pub functions_of : Graph → List Truth
functions_of g = vertex_values invert conj (constantly g.inputs false) (first_functions g.inputs) g.rows

-- The function of output k of a side.
unfoldable pub output_function : Graph → ℕ → ℕ → Truth
output_function g side k = literal_value invert conj (constantly g.inputs false) (functions_of g) (get_or (outputs g side) k 0)
