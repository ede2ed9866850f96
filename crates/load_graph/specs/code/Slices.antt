-- The graph and a file's literals in the lent slices.
use Rattle.std.specs.Prelude.{◌*◌, ◌+◌, ◌<◌, ◌≤◌, ℕ, length, take, List}
use Rattle.aig.specs.Lookup.{Indexed}
use Rattle.aig.specs.declared.literal.Literal.{Literal}
use Rattle.load_model.specs.Build.{Build, Built, Traced}
use Rattle.load_model.specs.Load.{max_vertices}
use Rattle.load_graph.specs.declared.Counts.{Counts}
use Rattle.load_graph.specs.declared.Ended.TheVariants.{Folded, Found, Made}
use Rattle.load_graph.specs.declared.Ended.{Ended}
use Rattle.table.specs.Limits.{max_ands, max_inputs}

-- The graph of some vertices, two words each at the front of a slice.
abbrev pub build_of : List ℕ → Counts → Build
build_of pairs c =
    record { words = take (2 * c.vertices) pairs; count = c.vertices; asked = c.asked; folded = c.folded; found = c.found }

-- What was asked for, and the graph after it.
abbrev pub built_of : Literal → List ℕ → Counts → Built
built_of r pairs c = record { literal = r.0; build = build_of pairs c }

-- The literals of a file's first n vertices, and the graph.
abbrev pub traced_of : List ℕ → ℕ → List ℕ → Counts → Traced
traced_of literals n pairs c = record { literals = take n literals; build = build_of pairs c }

-- "Each AND asked for is folded, found or made.": the counts after one more. (RULES 3.2, 3.8)
abbrev pub counts_after : Counts → Ended → Counts
counts_after c Folded = record { vertices = c.vertices; asked = c.asked + 1; folded = c.folded + 1; found = c.found }
counts_after c Found = record { vertices = c.vertices; asked = c.asked + 1; folded = c.folded; found = c.found + 1 }
counts_after c Made = record { vertices = c.vertices + 1; asked = c.asked + 1; folded = c.folded; found = c.found }

-- The counts keep their bounds.
pub record Counted (c : Counts) : Type 0 where
  pub some : 1 ≤ c.vertices
  pub vertices : c.vertices ≤ 1 + max_inputs + c.asked
  pub folded : c.folded ≤ c.asked
  pub found : c.found ≤ c.asked

-- There is room for one more AND.
pub record Roomy (c : Counts) : Type 0 where
  pub counted : Counted c
  pub more : c.asked < max_ands

-- The slices hold a graph, and the look-up serves its vertices.
pub record Graph (pairs look : List ℕ) (c : Counts) : Type 0 where
  pub counted : Counted c
  pub index : Indexed pairs c.vertices look max_vertices
  pub long : 2 * max_vertices ≤ length pairs
