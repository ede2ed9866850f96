-- What the parts of a comparison that is not refused give each other: the sweep's task, how it ended, and what follows it.
use Rattle.std.specs.Prelude.{◌*◌, ◌+◌, ◌≤◌, ℕ, length, take, List, ◌≡◌}
use Rattle.bdd.specs.code.Store.{Store}
use Rattle.compare_model.specs.Compare.{Given, answer_to, limits_of, max_rows, max_steps, next_rows, over_front, problem_of}
use Rattle.compare_model.specs.declared.Lent.{Lent}
use Rattle.compare_model.specs.declared.Limits.{Limits as Asked}
use Rattle.compare_reply.specs.code.Followed.{Followed}
use Rattle.comparer.specs.Lent.{Slices, given}
use Rattle.sweep_state.specs.code.Ending.{Refers, verdict_of}
use Rattle.sweep_state.specs.code.Words.{posed}
use Rattle.sweep_state.specs.declared.end.Ended.{Ended}
use Rattle.sweep_state.specs.declared.task.Task.{Task}
use Rattle.table.specs.Accepted.{Accepted}
use Rattle.table.specs.Table.{inputs_of, vertices_of}

-- A task is that of a table's output: with the functions of the comparison's problem it poses it, and its vertices are the table's and the next ones.
pub record Posed (table : List ℕ) (output : ℕ) (limits : Asked) (t : Task) : Type 0 where
  pub problem : posed t (problem_of table output (limits_of limits)).functions ≡ problem_of table output (limits_of limits)
  pub count : t.count ≡ vertices_of table + length (next_rows table output)
  pub inputs : t.inputs ≡ inputs_of table
  pub size : t.size ≡ limits.size
  pub rows : t.rows ≡ limits.rows
  pub steps : t.steps ≡ limits.steps

-- The sweep has ended: the model's answer, by what the slices hold then.
pub record SweepRan (g : Given) (pairs rows marks : List ℕ) (e : Ended) : Type 0 where
  pub verdict : (answer_to g).verdict ≡ verdict_of rows (inputs_of g.table) e.end
  pub rows_left : (answer_to g).left.rows ≡ take (2 * (vertices_of g.table + length (next_rows g.table g.output))) pairs
  pub long : 2 * vertices_of g.table ≤ length pairs
  pub marks-left : over_front (answer_to g).left.marks g.marks ≡ marks
  pub rows-used : length (answer_to g).left.book.store ≡ e.used
  pub steps-taken : (answer_to g).left.book.steps ≡ e.steps
  pub rows-added : (answer_to g).added ≡ e.added
  pub store : Store rows g.limits.rows e.used
  pub refers : Refers rows e.used (inputs_of g.table) e.end
  pub within : e.used + e.added ≤ max_rows
  pub counted : e.steps ≤ max_steps

-- The same, by the slices of the comparison.
abbrev pub Swept : ℕ → Asked → Slices → Slices → Ended → Type 0
Swept output limits before after e = SweepRan (given output limits before) after.pairs after.rows after.marks e

-- The slices with another setting in theirs.
abbrev pub put_setting : List ℕ → Lent → Lent
put_setting s l = record l { setting = record l.setting { now = s } }

-- What finishing needs.
pub record Finishes (table pairs rows : List ℕ) (e : Ended) (setting : ℕ) : Type 0 where
  pub accepted : Accepted table
  pub long : 2 * vertices_of table ≤ length pairs
  pub room : inputs_of table ≤ setting
  pub followed : Followed rows (inputs_of table) e.end
  pub within : e.used + e.added ≤ max_rows
  pub counted : e.steps ≤ max_steps
