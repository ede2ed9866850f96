-- "each vertex that others were merged into, if either had a diagram, takes it and waits again": by words. The model has the
-- stages alone. (RULES 6.4)
use Rattle.std.specs.Prelude.{◌*◌, ◌+◌, ◌/◌, ◌<◌, ◌≤◌, suc, zero, ℕ, eqb, length, Bool, cond, List}
use Rattle.aig.specs.Literal.{vertex_of}
use Rattle.aig.specs.Lookup.{first_word, second_word, with_row}
use Rattle.bdd.specs.Diagram.{edge}
use Rattle.bdd.specs.code.Owners.{with_owner}
use Rattle.bdd.specs.code.Rows.{RADIX}
use Rattle.sweep_graph.specs.code.Stages.{stage_word, with_stage, word_stage}
use Rattle.sweep_model.specs.Normalise.{merged?, wake}
use Rattle.sweep_model.specs.State.{gone, gone?, has?}

-- What handing over changes: the words of stages and of diagrams, and the rows of diagrams, which name their owners.
pub record Held : Type 0 where
  pub stages : List ℕ
  pub diagrams : List ℕ
  pub rows : List ℕ

abbrev pub held : List ℕ → List ℕ → List ℕ → Held
held stages diagrams rows = record { stages = stages; diagrams = diagrams; rows = rows }

-- Whether a vertex has a diagram.
abbrev pub has_word : List ℕ → ℕ → Bool
has_word stages v = has? (word_stage (first_word stages v))

-- Vertex w waits again. The constant "never waits". (RULES 6.3)
unfoldable pub wake_words : ℕ → List ℕ → List ℕ
wake_words w stages = cond (eqb w 0) stages (with_stage stages w (stage_word (wake (word_stage (first_word stages w)))))

-- Vertex v, merged into the literal x, gives its diagram to x's vertex, inverted where x is, unless that has one. (RULES 6.4)
unfoldable pub taken_diagrams : ℕ → ℕ → List ℕ → List ℕ → List ℕ
taken_diagrams v x stages diagrams =
    cond (has_word stages (vertex_of x)) diagrams (with_row diagrams (vertex_of x) (edge (first_word diagrams v) x) (second_word diagrams v))

-- If v has a diagram, x's vertex takes it and owns its row; if either has one, x's vertex waits again. (RULES 6.4)
unfoldable pub handed_over : ℕ → ℕ → Held → Held
handed_over v x h =
    cond (has_word h.stages v)
    (held (wake_words (vertex_of x) h.stages) (taken_diagrams v x h.stages h.diagrams) (with_owner h.rows (first_word h.diagrams v / 2) (vertex_of x)))
    (cond (has_word h.stages (vertex_of x)) (held (wake_words (vertex_of x) h.stages) h.diagrams h.rows) h)

-- Vertex v is gone.
abbrev pub leave : ℕ → Held → Held
leave v h = held (with_stage h.stages v (stage_word gone)) h.diagrams h.rows

-- Vertex v, if newly merged, hands over and is gone.
unfoldable pub take_words : List ℕ → ℕ → Held → Held
take_words pairs v h =
    cond (merged? pairs v) (cond (gone? (word_stage (first_word h.stages v))) h (leave v (handed_over v (first_word pairs v) h))) h

-- n vertices from v on, upwards.
unfoldable pub takes_words : List ℕ → ℕ → ℕ → Held → Held
takes_words pairs v zero h = h
takes_words pairs v (suc n) h = takes_words pairs (suc v) n (take_words pairs v h)

-- What handing over from v to x needs: x's vertex is lower, the slices hold their words, and a row can name them as owners.
pub record Handing (v x : ℕ) (h : Held) : Type 0 where
  pub lower : vertex_of x < v
  pub stage-within : 2 * v < length h.stages
  pub diagram_within : 2 * v + 1 < length h.diagrams
  pub row_within : first_word h.diagrams v / 2 * 4 ≤ length h.rows
  pub few : v < RADIX

-- The slices hold the words of count vertices and the rows of their diagrams, and a row can name each of them as its owner.
pub record TakesRoom (count : ℕ) (h : Held) : Type 0 where
  pub stages-long : 2 * count ≤ length h.stages
  pub diagrams-long : 2 * count ≤ length h.diagrams
  pub rows-within : (v : ℕ) → v < count → first_word h.diagrams v / 2 * 4 ≤ length h.rows
  pub few : count ≤ RADIX
