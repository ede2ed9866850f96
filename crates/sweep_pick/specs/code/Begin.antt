-- The words that a sweep begins with.
use Rattle.std.specs.Prelude.{◌*◌, ℕ, List}
use Rattle.aig.specs.Lookup.{cleared}
use Rattle.sweep_graph.specs.code.Stages.{stage_word, with_stage}
use Rattle.sweep_model.specs.State.{opened}
use Rattle.sweep_state.specs.code.Arrays.{Arrays, arrays}

-- The constant "has a diagram of size 0 and never waits"; no other vertex has one. (RULES 6.3)
abbrev pub begun : List ℕ → ℕ → List ℕ
begun stages count = with_stage (cleared stages (2 * count)) 0 (stage_word opened)

-- The arrays of count vertices with these stages, and with no diagram and no mark; the rows are left.
abbrev pub begun_arrays : ℕ → Arrays → Arrays
begun_arrays count a = arrays (cleared a.diagrams (2 * count)) (begun a.stages count) a.rows (cleared a.marks count)
