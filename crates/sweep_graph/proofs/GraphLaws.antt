-- Merging and normalising keep a working graph what it is.
use Prim.Native.Nat.{◌*◌, ◌-◌, ◌<◌, ◌≤◌, ℕ}
use Rattle.sweep_graph.specs.code.Graph.{Graph}
use Rattle.sweep_model.proofs.Rows.{row-downward}
use Rattle.sweep_model.proofs.Settle.{renewed}
use Rattle.sweep_model.specs.Fit.{Downward}
use Rattle.sweep_model.specs.Normalise.{merged_into, normalise_from}
use mathlib.Core.List.{List}

module _ {first count : ℕ} {pairs : List ℕ} (g : Graph first count pairs) where
  -- Other rows that refer downwards.
  with_rows_lem : {other : List ℕ} → Downward first count other → Graph first count other
  with_rows_lem d = record { downward = d; some_first = g.some_first; first-within = g.first-within; few = g.few }

  -- A made vertex is merged into a lower literal.
  pub graph-merged : (v r : ℕ) → first ≤ v → v < count → r < 2 * v → Graph first count (merged_into pairs v r)
  graph-merged v r made within low = with_rows_lem (row-downward g.downward v r r made within low low)

  -- All rows are normalised.
  pub graph-kept : Graph first count (normalise_from pairs first (count - first))
  graph-kept = with_rows_lem (renewed g.some_first g.first-within pairs g.downward).downward
