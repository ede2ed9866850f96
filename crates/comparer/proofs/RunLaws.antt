-- What the sweep is asked where no refusal applies, and what its end says of the comparison.
use Prim.Native.Nat.{◌*◌, ◌<◌, ◌≤◌, ℕ}
use Rattle.bdd.proofs.StoreLaws.{store_length}
use Rattle.compare_model.proofs.GraphLaws.{count-vertices, fits, length_entry, next-few}
use Rattle.compare_model.specs.Compare.{answer_to, entry_rows, limits_of, over_front, problem_of, vertex_room}
use Rattle.compare_model.specs.Lent.{lengths_of, room_of}
use Rattle.compare_model.specs.Passed.{Enough, LimitsWithin}
use Rattle.compare_model.specs.declared.Lent.{Lent}
use Rattle.compare_model.specs.declared.Limits.{Limits}
use Rattle.comparer.specs.Lent.{given, holding}
use Rattle.comparer.specs.code.Work.{Posed, SweepRan}
use Rattle.sweep_state.specs.code.Ending.{verdict_of}
use Rattle.sweep_state.specs.code.Arrays.{arrays}
use Rattle.sweep_state.specs.code.Meet.{Workspace, workspace}
use Rattle.sweep_start.specs.code.Start.{HasFunctions, SweepAsked}
use Rattle.sweep.specs.code.Sweep.{SweepAnswers, Sweeps}
use Rattle.sweep_state.specs.declared.end.Ended.{Ended}
use Rattle.sweep_state.specs.declared.task.Task.{Task}
use Rattle.sweep_model.proofs.Kept.{sweep-steady}
use Rattle.sweep_model.specs.Fit.{Fit}
use Rattle.sweep_model.specs.Sweep.{Result, sweep}
use Rattle.table.specs.Accepted.{Accepted}
use Rattle.table.specs.Table.{outputs_of}
use Rattle.truth.specs.Truth.{Truth}
use lib.ListN.{drop, length, length-append, take}
use lib.Seq.{length-take-le, take_all, take_at}
use mathlib.Core.List.{List, ◌++◌}
use mathlib.Core.Path.{◌∙◌, ◌≡◌, ap, refl, sym}
use native.Mathlib.Omega.{arith}

-- A task has no more vertices than there is room for.
pub posed-few : {table : List ℕ} {output : ℕ} {limits : Limits} {t : Task} → Posed table output limits t → t.count ≤ vertex_room table
posed-few {table} {output} {limits} h = omega (arith, h.count, next-few table output (limits_of limits))

-- A table and limits that pass, the task, and the pairs with the rows of the table's vertices and the next ones copied to their front.
module _ (table : List ℕ) (output : ℕ) (limits : Limits) (accepted : Accepted table) (known : output < outputs_of table)
    (within : LimitsWithin (limits_of limits)) (t : Task) (task : Posed table output limits t) (old lent : List ℕ) (copied : lent ≡ over_front (entry_rows table output) old) where
  -- The functions of the vertices.
  abbrev functions : List Truth
  functions = (problem_of table output (limits_of limits)).functions

  -- There are two words a vertex.
  length_rows : length (entry_rows table output) ≡ 2 * t.count
  length_rows = length_entry table output (limits_of limits) accepted.formed.whole ∙ ap (λ (n : ℕ). 2 * n) (sym task.count)

  -- The words lent are those that the sweep starts from.
  entry-words : take (2 * t.count) lent ≡ entry_rows table output
  entry-words = rw copied (take_at (entry_rows table output) _ (2 * t.count) length_rows)

  -- There are enough.
  pub lent-long : 2 * t.count ≤ length lent
  lent-long = rw copied (omega (arith, length-append (entry_rows table output) (drop (length (entry_rows table output)) old), length_rows))

  -- The table gives the sweep what it is started on.
  table_fits : Fit (problem_of table output (limits_of limits)) (entry_rows table output)
  table_fits = fits table output (limits_of limits) accepted known

  -- They are the rows of a graph whose vertices have these functions.
  has-functions : HasFunctions t functions (take (2 * t.count) lent)
  unfolding problem_of
  has-functions = record { fit = rw (entry-words, task.problem) table_fits; count = count-vertices table output (limits_of limits) ∙ sym task.count }

  -- The other slices, long enough.
  module _ (l : Lent) (room : Enough (vertex_room table) limits.rows (room_of (lengths_of l)) (length l.marks.now)) where
    -- As many marks are lent as there are vertices.
    pub lent-marks : length (take t.count l.marks.now) ≡ t.count
    lent-marks = length-take-le t.count l.marks.now (omega (arith, posed-few task, room.marked))

    -- What the sweep is lent.
    abbrev pub lent_workspace : Workspace
    lent_workspace = workspace (take (2 * t.count) lent) (arrays l.diagrams.now l.stages.now l.rows.now (take t.count l.marks.now))

    -- The sweep can be asked.
    pub asked : SweepAsked t l.look.now lent_workspace
    asked =
        record {
          functions = functions;
          has-functions = has-functions;
          few = omega (arith, posed-few task, accepted.formed.inputs, accepted.formed.made);
          narrow = omega (arith, task.inputs, accepted.formed.inputs);
          modest = omega (arith, task.size, within.size.bounded);
          most = omega (arith, task.rows, within.rows.bounded);
          short = omega (arith, task.steps, within.steps.bounded);
          look-long = omega (arith, posed-few task, room.look);
          diagrams-long = omega (arith, posed-few task, room.diagrams);
          stages-long = omega (arith, posed-few task, room.stages);
          rows_long = omega (arith, task.rows, room.diagram_rows);
          marks-long = omega (arith, lent-marks);
        }

    -- The sweep has ended.
    module _ (after : Workspace) (e : Ended) (sweeps : Sweeps t lent_workspace after e)
        (kept : length after.arrays.marks ≡ length (take t.count l.marks.now)) where
      -- The model's answer.
      abbrev answer : Result
      answer = sweep (problem_of table output (limits_of limits)) (entry_rows table output)

      -- It is that of the end and of what the slices hold.
      answers : SweepAnswers t functions answer after e
      answers = rw (task.problem, entry-words) at (sweeps functions has-functions)

      -- The rows that it leaves are the pairs,
      pairs-left : answer.left.rows ≡ after.pairs
      pairs-left = ap (λ (a : Result). a.left.rows) answers.answer

      -- as many as were lent;
      pairs-long : length after.pairs ≡ 2 * t.count
      pairs-long =
          ap length (sym pairs-left)
          ∙ (sweep-steady table_fits).moved.long
          ∙ length_rows

      -- the marks are those lent.
      marks-left : answer.left.marks ≡ after.arrays.marks
      marks-left = ap (λ (a : Result). a.left.marks) answers.answer ∙ take_all t.count after.arrays.marks (omega (arith, kept, lent-marks))

      -- What the end says of the comparison.
      pub ran : SweepRan (given output limits (holding table l)) (after.pairs ++ drop (2 * t.count) lent) after.arrays.rows
          (after.arrays.marks ++ drop t.count l.marks.now) e
      unfolding answer_to
      ran =
          record {
            verdict = ap (λ (a : Result). a.verdict) answers.answer ∙ ap (λ (n : ℕ). verdict_of after.arrays.rows n e.end) task.inputs;
            rows_left = pairs-left ∙ sym (rw (← task.count) (take_at after.pairs _ (2 * t.count) pairs-long));
            long = omega (arith, length-append after.pairs (drop (2 * t.count) lent), pairs-long, task.count);
            marks-left = rw (marks-left, kept, lent-marks) refl;
            rows-used = ap (λ (a : Result). length a.left.book.store) answers.answer ∙ store_length after.arrays.rows e.used;
            steps-taken = ap (λ (a : Result). a.left.book.steps) answers.answer;
            rows-added = ap (λ (a : Result). a.added) answers.answer;
            store = rw task.rows at answers.closed.store;
            refers = rw task.inputs at answers.closed.refers;
            within = omega (arith, answers.closed.fitted, task.rows, within.rows.bounded);
            counted = omega (arith, answers.closed.counted, task.steps, within.steps.bounded);
          }
