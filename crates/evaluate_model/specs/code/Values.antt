-- Values of vertices as the numbers 0 and 1.
use Rattle.std.specs.Prelude.{◌*◌, ◌-◌, ◌≤◌, ℕ, List}
use Rattle.aig.specs.Values.{AllGood, literal_value}
use Rattle.table.specs.Values.{Pair, row_value, vertex_values}

-- "plus 1 if inverted": 1 - x is the inversion of a 0 or 1. (RULES 1.7, 1.10)
abbrev pub number_invert : ℕ → ℕ
number_invert x = 1 - x

-- The value of a literal; the AND of two numbers is their product.
abbrev pub number_literal : List ℕ → ℕ → ℕ
number_literal vs r = literal_value number_invert ◌*◌ 0 vs r

-- "each row an `and`": the value of a row. (RULES 4.4)
abbrev pub number_row : List ℕ → Pair → ℕ
number_row vs r = row_value number_invert ◌*◌ 0 vs r

-- The values of all vertices, from those of the first.
abbrev pub number_values : List ℕ → List Pair → List ℕ
number_values vs rs = vertex_values number_invert ◌*◌ 0 vs rs

-- Each number is 0 or 1.
abbrev pub Bits : List ℕ → Type 0
Bits vs = AllGood (λ x. x ≤ 1) 0 vs
