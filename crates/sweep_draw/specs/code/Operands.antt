-- The product of a vertex's operands, by words.
use Rattle.std.specs.Prelude.{◌*◌, ◌+◌, ◌<◌, ℕ, length, List, Result}
use Rattle.aig.specs.Literal.{vertex_of}
use Rattle.aig.specs.Lookup.{first_word, second_word}
use Rattle.product.specs.Product.{Ask, Multiplies}
use Rattle.product.specs.declared.steps.Short.{Short}
use Rattle.sweep_state.specs.code.Look.{reference_of}
use Rattle.sweep_state.specs.declared.sweep.Sweep.{Sweep}

-- The references of the functions of v's operands.
abbrev pub first_operand : List ℕ → List ℕ → ℕ → ℕ
first_operand pairs diagrams v = reference_of diagrams (first_word pairs v)

abbrev pub second_operand : List ℕ → List ℕ → ℕ → ℕ
second_operand pairs diagrams v = reference_of diagrams (second_word pairs v)

-- What the product of v's operands needs.
pub record ProductAsked (s : Sweep) (v : ℕ) : Type 0 where
  pub pair : 2 * v + 1 < length s.pairs.now
  pub first_diagram : 2 * vertex_of (first_word s.pairs.now v) < length s.diagrams.now
  pub second_diagram : 2 * vertex_of (second_word s.pairs.now v) < length s.diagrams.now
  pub asked : Ask s.rows.now s.task.rows s.used (first_operand s.pairs.now s.diagrams.now v) (second_operand s.pairs.now s.diagrams.now v) s.task.inputs s.steps s.task.steps

-- The product of v's operands, on the rows before and after it.
abbrev pub ProductTaken : Sweep → Sweep → ℕ → Result ℕ Short → Type 0
ProductTaken s after v answer =
    Multiplies s.rows.now after.rows.now s.task.rows s.used after.used (first_operand s.pairs.now s.diagrams.now v) (second_operand s.pairs.now s.diagrams.now v) s.task.inputs
    s.steps after.steps s.task.steps answer
