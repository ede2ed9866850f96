-- A product within the size limit, by words.
use Rattle.std.specs.Prelude.{None, Option, Some}
use Rattle.std.specs.Prelude.{◌*◌, ◌-◌, ◌/◌, ◌<◌, ◌≤◌, max, min, ℕ, eqb, length, Bool, cond, not, List, ◌≢◌, ◌≡◌}
use Rattle.aig.specs.Literal.{literal_of}
use Rattle.aig.specs.Lookup.{first_word}
use Rattle.bdd.specs.code.Rows.{owner_at}
use Rattle.sweep_graph.specs.code.Graph.{Graph}
use Rattle.sweep_graph.specs.code.Takes.{Held, TakesRoom, held, takes_words}
use Rattle.sweep_model.specs.Normalise.{merged_into, normalise_from}
use Rattle.sweep_model.specs.Sweep.{Candidate, at, none}
use Rattle.sweep_state.specs.code.Arrays.{Arrays, arrays, drawn_at}
use Rattle.sweep_state.specs.declared.task.Task.{Task}

-- "If its function or the inverse belongs to a vertex with a diagram": the owner of the row; the constant's row is not stored. (RULES 6.4)
unfoldable pub twin_at : List ℕ → ℕ → Option ℕ
twin_at rows reference =
    cond (eqb (reference / 2) 0) (Some 0) (cond (eqb (owner_at rows (reference / 2)) 0) None (Some (owner_at rows (reference / 2))))

-- The model's answer that the code's stands for: where a vertex's twin is sought, and where one is picked.
abbrev pub twin_of : Option ℕ → Candidate
twin_of (Some v) = at v
twin_of None = none

-- Whether the diagrams of two vertices, on one row, are inverse.
unfoldable pub inverse? : List ℕ → ℕ → ℕ → Bool
inverse? diagrams v w = not (eqb (first_word diagrams v) (first_word diagrams w))

-- The higher of two vertices has the row of one merged into the lower. (RULES 6.1)
unfoldable pub joined : List ℕ → ℕ → ℕ → Bool → List ℕ
joined pairs v w inverted = merged_into pairs (max v w) (literal_of (min v w) inverted)

-- "the two merge and normalising follows" (RULES 6.4)
abbrev pub merged_pairs : Task → ℕ → ℕ → List ℕ → List ℕ → List ℕ
merged_pairs t v w pairs diagrams = normalise_from (joined pairs v w (inverse? diagrams v w)) t.first (t.count - t.first)

-- What newly merged vertices hand over.
abbrev pub handed_in : Task → List ℕ → Held → Held
handed_in t pairs h = takes_words pairs t.first (t.count - t.first) h

-- What merging v and w needs: a working graph, room, and that they are two of its vertices, the higher a made one.
pub record MergeAsked (t : Task) (v w : ℕ) (pairs look : List ℕ) (h : Held) : Type 0 where
  pub graph : Graph t.first t.count pairs
  pub room : TakesRoom t.count h
  pub look-long : 2 * t.count ≤ length look
  pub made : t.first ≤ max v w
  pub first-within : v < t.count
  pub second-within : w < t.count
  pub other : w ≢ v

-- The pairs, and the arrays.
pub record Workspace : Type 0 where
  pub pairs : List ℕ
  pub arrays : Arrays

abbrev pub workspace : List ℕ → Arrays → Workspace
workspace pairs a = record { pairs = pairs; arrays = a }

-- The arrays as handing over sees them, and with what it left.
abbrev pub held_of : Arrays → Held
held_of a = held a.stages a.diagrams a.rows

abbrev pub with_held : Held → Arrays → Arrays
with_held h a = arrays h.diagrams h.stages h.rows a.marks

-- Vertices v and w merged.
abbrev pub merged_workspace : Task → ℕ → ℕ → Workspace → Workspace
merged_workspace t v w b =
    let pairs = merged_pairs t v w b.pairs b.arrays.diagrams in
    workspace pairs (with_held (handed_in t pairs (held_of b.arrays)) b.arrays)

-- Vertex v gets its diagram, and merges with its twin.
unfoldable pub met_with : Task → ℕ → Workspace → Option ℕ → Workspace
met_with t v b None = b
met_with t v b (Some w) = merged_workspace t v w b

abbrev pub met_workspace : Task → ℕ → ℕ → ℕ → Workspace → Workspace
met_workspace t v reference size b =
    met_with t v (workspace b.pairs (drawn_at v reference size b.arrays)) (twin_at b.arrays.rows reference)

-- What that needs.
pub record MeetAsked (t : Task) (v reference size : ℕ) (look : List ℕ) (b : Workspace) : Type 0 where
  pub graph : Graph t.first t.count b.pairs
  pub look-long : 2 * t.count ≤ length look
  pub marks-long : t.count ≤ length b.arrays.marks
  pub room : TakesRoom t.count (held_of b.arrays)
  pub row_within : reference / 2 * 4 ≤ length b.arrays.rows
  pub made : t.first ≤ v
  pub within : v < t.count
  pub twin : (w : ℕ) → twin_at b.arrays.rows reference ≡ Some w → (w < t.count) × (w ≢ v)
