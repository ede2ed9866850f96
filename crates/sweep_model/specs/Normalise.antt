-- Step 1: normalising, and what a merged vertex hands over. (RULES 6.1, 6.4)
use Rattle.std.specs.Prelude.{◌*◌, ◌-◌, suc, zero, ℕ, eqb, leb, length, set, Bool, ◌&&◌, ◌||◌, cond, not, None, Option, Some, List}
use Rattle.aig.specs.Fold.{fold_of}
use Rattle.aig.specs.Literal.{onto, vertex_of}
use Rattle.aig.specs.Lookup.{first_vertex, first_word, second_word, with_row}
use Rattle.aig.specs.declared.fold.Folded.TheVariants.{Pair, To}
use Rattle.aig.specs.declared.fold.Folded.{Folded}
use Rattle.sweep_model.specs.State.{Stage, State, again, bare, dropped, gone, gone?, has?, opened, stage_of, waiting}

-- "A vertex merged into reference r has the row (r, r)." (RULES 6.1)
abbrev pub merged? : List ℕ → ℕ → Bool
merged? rows v = eqb (first_word rows v) (second_word rows v)

-- Whether vertex v is a made vertex that was merged. (A first vertex holds its own literal twice.)
abbrev pub was_merged? : ℕ → List ℕ → ℕ → Bool
was_merged? first rows v = leb first v && merged? rows v

-- "operands, and at the end outputs, are replaced by what their vertices were merged into": what a literal became. (A first vertex
-- stands for itself.) (RULES 6.1)
unfoldable pub resolve : List ℕ → ℕ → ℕ
resolve rows r = cond (merged? rows (vertex_of r)) (onto (first_word rows (vertex_of r)) r) r

-- The rows with vertex v's row (r, r), or with the pair (p, q). (RULES 6.1)
abbrev pub merged_into : List ℕ → ℕ → ℕ → List ℕ
merged_into rows v r = with_row rows v r r

-- "found again": the row of the first vertex that has the pair, or the pair. (RULES 6.1)
unfoldable pub found_row : List ℕ → ℕ → ℕ → ℕ → Option ℕ → List ℕ
found_row rows v p q (Some u) = merged_into rows v (2 * u)
found_row rows v p q None = with_row rows v p q

-- "each row is folded or found again, and what folds or is found counts as merged. .. The lower-numbered vertex always stays." (RULES 6.1)
unfoldable pub folded_row : List ℕ → ℕ → Folded → List ℕ
folded_row rows v (To r) = merged_into rows v r.0
folded_row rows v (Pair p q) = found_row rows v p.0 q.0 (first_vertex rows p.0 q.0 v)

unfoldable pub normalise_row : List ℕ → ℕ → List ℕ
normalise_row rows v = folded_row rows v (fold_of (resolve rows (first_word rows v)) (resolve rows (second_word rows v)))

-- "Normalise: upwards by number": n rows from vertex v on. (RULES 6.1)
unfoldable pub normalise_from : List ℕ → ℕ → ℕ → List ℕ
normalise_from rows v zero = rows
normalise_from rows v (suc n) = normalise_from (normalise_row rows v) (suc v) n

-- "takes it and waits again" (RULES 6.4)
unfoldable pub wake : Stage → Stage
wake bare = waiting
wake waiting = waiting
wake opened = again
wake again = again
wake dropped = waiting
wake gone = waiting

-- The constant "never waits". (RULES 6.3)
unfoldable pub wake_at : ℕ → List Stage → List Stage
wake_at zero stages = stages
wake_at (suc v) stages = set stages (suc v) (wake (stage_of stages (suc v)))

-- "each vertex that others were merged into, if either had a diagram, takes it and waits again": vertex v, if newly merged, into w. (RULES 6.4)
unfoldable pub take_at : List ℕ → ℕ → List Stage → List Stage
take_at rows v stages =
    let w = vertex_of (first_word rows v) in
    let taken = cond (has? (stage_of stages v) || has? (stage_of stages w)) (wake_at w stages) stages in
    cond (merged? rows v && not (gone? (stage_of stages v))) (set taken v gone) stages

-- n vertices from v on, upwards.
unfoldable pub takes_from : List ℕ → ℕ → ℕ → List Stage → List Stage
takes_from rows v zero stages = stages
takes_from rows v (suc n) stages = takes_from rows (suc v) n (take_at rows v stages)

-- All rows from the first made vertex on, and what was newly merged handed over. (RULES 6.1, 6.4)
unfoldable pub normalise : ℕ → State → State
normalise first s =
    let made = length s.stages - first in
    let rows = normalise_from s.rows first made in
    record { rows = rows; stages = takes_from rows first made s.stages; marks = s.marks; book = s.book }
