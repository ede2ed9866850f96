-- The functions of a graph's rows and vertices, and of ANDs.
use Rattle.std.specs.Prelude.{ℕ, get_or, false, List, map}
use Rattle.load_model.specs.code.Valued.{operands_of}
use Rattle.table.specs.Table.{Graph, functions_of}
use Rattle.truth.specs.Truth.{Truth, conj, constantly, invert}

-- The functions of the two operands of each row of a graph.
unfoldable pub row_operands : Graph → List (Truth × Truth)
row_operands g = map (operands_of invert conj (constantly g.inputs false) (functions_of g)) g.rows

-- The function of a vertex of a graph.
abbrev pub vertex_function : Graph → ℕ → Truth
vertex_function g v = get_or (functions_of g) v (constantly g.inputs false)

-- The function of an AND.
abbrev pub and_of : Truth × Truth → Truth
and_of x = conj x.0 x.1
