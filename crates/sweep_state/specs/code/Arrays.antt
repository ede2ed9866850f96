-- The slices that a vertex has its words in, and the vertex that gets its diagram.
use Rattle.std.specs.Prelude.{◌/◌, ℕ, set, List}
use Rattle.aig.specs.Lookup.{with_row}
use Rattle.bdd.specs.code.Owners.{with_owner}
use Rattle.sweep_graph.specs.code.Stages.{with_stage}

-- The words of diagrams, stages and rows and the bytes of marks.
pub record Arrays : Type 0 where
  pub diagrams : List ℕ
  pub stages : List ℕ
  pub rows : List ℕ
  pub marks : List ℕ

abbrev pub arrays : List ℕ → List ℕ → List ℕ → List ℕ → Arrays
arrays diagrams stages rows marks = record { diagrams = diagrams; stages = stages; rows = rows; marks = marks }

-- Vertex v has the diagram of a reference, owns its row, waits, and is marked 1.
abbrev pub drawn_at : ℕ → ℕ → ℕ → Arrays → Arrays
drawn_at v reference size a =
    arrays (with_row a.diagrams v reference size) (with_stage a.stages v 1) (with_owner a.rows (reference / 2) v) (set a.marks v 1)

-- The arrays with other rows.
abbrev pub on_rows : List ℕ → Arrays → Arrays
on_rows rows a = arrays a.diagrams a.stages rows a.marks
