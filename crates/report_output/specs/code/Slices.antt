-- What the slices of a comparison with the program's limits stand for.
use Rattle.std.specs.Prelude.{◌+◌, ◌≤◌, ℕ, List, ◌++◌, ◌≡◌}
use Rattle.compare_model.specs.Compare.{Given}
use Rattle.comparer.specs.Lent.{Slices, room_in}
use Rattle.report_format.specs.Report.{head_line}
use Rattle.report_model.specs.Report.{after, comparisons, lines_of, next, program_limits}
use Rattle.table.specs.Accepted.{Accepted}
use Rattle.table.specs.Limits.{max_inputs}
use Rattle.table.specs.Table.{outputs_of}

-- A comparison with the program's limits, by the lists that its slices hold.
abbrev pub asked : ℕ → Slices → Given
asked output s =
    record {
      table = s.table;
      output = output;
      limits = program_limits;
      room = room_in s;
      marks = s.marks;
      setting = s.setting;
    }

-- The lines of the first n outputs.
abbrev pub first_lines : ℕ → ℕ → Slices → List ℕ
first_lines edition n s = lines_of edition (comparisons n (asked 0 s))

-- The head line and the lines of all outputs.
abbrev pub table_lines : ℕ → Slices → List ℕ
table_lines edition s = head_line ++ first_lines edition (outputs_of s.table) s

-- The slices are left as the comparisons of the first n outputs leave them.
abbrev pub LeftAfter : ℕ → Slices → Slices → Type 0
LeftAfter n old new = asked n new ≡ after n (asked 0 old)

-- The slices are left as the comparison of an output leaves them for the next one.
abbrev pub LeftToNext : ℕ → Slices → Slices → Type 0
LeftToNext output old new = asked (output + 1) new ≡ next (asked output old)

-- A table that comparisons are made of, and a setting slice that is long enough for it.
pub record Ready (table : List ℕ) (setting : ℕ) : Type 0 where
  pub accepted : Accepted table
  pub room : max_inputs ≤ setting
