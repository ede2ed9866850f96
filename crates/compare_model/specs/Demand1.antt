-- Demand 1 for a comparison: what a good call is given, word by word and with the rules' own numbers. (RULES 12.1)
use Rattle.std.specs.Prelude.{◌*◌, ◌+◌, ◌<◌, ◌≤◌, ℕ, length}
use Rattle.compare_model.specs.Compare.{Given}
use Rattle.compare_model.specs.Said.{Said}
use Rattle.table.specs.Fits.{Fits, word}

-- "Vertex 0 is constant false, vertices 1 to inputs are the inputs", made vertices follow, and "two vertices more": for how many there is to be
-- room. (RULES 1.6, 4.3, 8.2)
abbrev pub vertex_count : Given → ℕ
vertex_count g = 1 + word g.table 0 + word g.table 1 + 2

-- The table keeps its rules; the output is one of them; "1 to 32,768" for the size and the row limit, "1 to 4,294,967,295" for the step
-- limit; "four slices of 2 words a vertex", "4 words a row of the limit and the marks", one byte a vertex; a byte an input. (RULES 2.4, 8.1, 8.2)
pub record Good (g : Given) : Type 0 where
  pub table : Fits g.table
  pub output : g.output < word g.table 2
  pub some_size : 1 ≤ g.limits.size
  pub size : g.limits.size ≤ 32768
  pub some-row : 1 ≤ g.limits.rows
  pub rows : g.limits.rows ≤ 32768
  pub some_step : 1 ≤ g.limits.steps
  pub steps : g.limits.steps ≤ 4294967295
  pub pairs : 2 * vertex_count g ≤ g.room.pairs
  pub look : 2 * vertex_count g ≤ g.room.look
  pub diagrams : 2 * vertex_count g ≤ g.room.diagrams
  pub stages : 2 * vertex_count g ≤ g.room.stages
  pub diagram_rows : 4 * g.limits.rows ≤ g.room.rows
  pub marks : vertex_count g ≤ length g.marks
  pub setting : word g.table 0 ≤ length g.setting

-- "Replies: Equal; Different; Undecided by Size ..; by Rows ..; by Steps ..": what is said is no refusal. (RULES 7.3)
pub data Answers : Said → Type 0 where
  says-equal : {rows steps added : ℕ} → Answers (Said.equal rows steps added)
  says-different : {rows steps added : ℕ} → Answers (Said.different rows steps added)
  says-size : {rows steps added : ℕ} → Answers (Said.size rows steps added)
  says-rows : {vertex rows steps added : ℕ} → Answers (Said.rows vertex rows steps added)
  says-steps : {vertex rows steps added : ℕ} → Answers (Said.steps vertex rows steps added)
