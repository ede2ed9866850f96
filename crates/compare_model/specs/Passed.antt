-- What is known of a comparison that is not refused.
use Rattle.std.specs.Prelude.{◌*◌, ◌<◌, ◌≤◌, ℕ, length}
use Rattle.compare_model.specs.Compare.{CompareRoom, Given, max_rows, max_steps, slice_words, vertex_room}
use Rattle.sweep_model.specs.State.{Limits}
use Rattle.table.specs.Accepted.{Accepted}
use Rattle.table.specs.Table.{inputs_of, outputs_of}

-- A limit is from 1 to a most.
pub record Within (most n : ℕ) : Type 0 where
  pub some : 1 ≤ n
  pub bounded : n ≤ most

-- The limits are within theirs. (RULES 2.4)
pub record LimitsWithin (l : Limits) : Type 0 where
  pub size : Within max_rows l.size
  pub rows : Within max_rows l.rows
  pub steps : Within max_steps l.steps

-- The working slices and the marks are long enough. (RULES 8.2)
pub record Enough (vertices rows : ℕ) (r : CompareRoom) (marks : ℕ) : Type 0 where
  pub pairs : slice_words vertices ≤ r.pairs
  pub look : slice_words vertices ≤ r.look
  pub diagrams : slice_words vertices ≤ r.diagrams
  pub stages : slice_words vertices ≤ r.stages
  pub diagram_rows : 4 * rows ≤ r.rows
  pub marked : vertices ≤ marks

-- What a comparison that is not refused was given.
pub record Passed (g : Given) : Type 0 where
  pub table : Accepted g.table
  pub output : g.output < outputs_of g.table
  pub limits : LimitsWithin g.limits
  pub room : Enough (vertex_room g.table) g.limits.rows g.room (length g.marks)
  pub setting : inputs_of g.table ≤ length g.setting
