-- The report that the program prints of two files, and what its call leaves in the slices that it is lent.
use Rattle.std.specs.Prelude.{◌*◌, ◌+◌, suc, zero, ℕ, ltb, length, take, Bool, ◌&&◌, ◌||◌, cond, false, not, true, List, [], ◌++◌, ◌∷◌}
use Rattle.compare_model.specs.Compare.{CompareRoom, Given, compared, over_front, short_slice?}
use Rattle.load_model.specs.Load.{Answer, LoadRoom, accepted, load_result, max_vertices, refused, table_loaded}
use Rattle.reply_line.specs.Line.{line_for}
use Rattle.report_format.specs.Report.{LINE_ROOM, head_line, refused_line}
use Rattle.sweep_model.specs.State.{Limits}
use Rattle.table.specs.Limits.{max_inputs, max_outputs}
use Rattle.table.specs.Table.{inputs_of, outputs_of}

-- "with size and row limits 4,096 and step limit 1,000,000" (RULES 11.2)
abbrev pub size_limit : ℕ
size_limit = 4096

abbrev pub row_limit : ℕ
row_limit = 4096

abbrev pub step_limit : ℕ
step_limit = 1000000

abbrev pub program_limits : Limits
program_limits = record { size = size_limit; rows = row_limit; steps = step_limit }

-- The most bytes of a line of a reply: its setting has a byte an input.
abbrev pub reply_room : ℕ
reply_room = LINE_ROOM + max_inputs

-- The most bytes of a report: "a head line, then a line each", of at most 64 outputs. (RULES 2.1, 11.3)
abbrev pub report_room : ℕ
report_room = LINE_ROOM + max_outputs * reply_room

-- What the call is lent beside the two files: the slice for the report, the table, the lengths of the slices to work in, the marks and
-- the setting.
pub record Lent : Type 0 where
  pub out : List ℕ
  pub table : List ℕ
  pub room : CompareRoom
  pub marks : List ℕ
  pub setting : List ℕ

-- What it gives back, the number of the report's bytes, and what it leaves.
pub record Report : Type 0 where
  pub count : ℕ
  pub out : List ℕ
  pub table : List ℕ
  pub marks : List ℕ
  pub setting : List ℕ

-- The comparison after another: that of the next output, on the slices as the one before left them. (RULES 11.2)
unfoldable pub next : Given → Given
next g =
    let left = compared g in
    record {
      table = left.table;
      output = g.output + 1;
      limits = g.limits;
      room = g.room;
      marks = left.marks;
      setting = left.setting;
    }

-- The comparison that comes n after a first one.
unfoldable pub after : ℕ → Given → Given
after zero g = g
after (suc n) g = next (after n g)

-- "compares every output in rising number": n comparisons, from a first one on. (RULES 11.2)
unfoldable pub comparisons : ℕ → Given → List Given
comparisons zero g = []
comparisons (suc n) g = g ∷ comparisons n (next g)

-- "then a line each": the line of a comparison, with the edition of the pair. A Different's setting is "one byte an input .. to the front of the lent setting
-- slice". (RULES 7.2, 11.3)
unfoldable pub comparison_line : ℕ → Given → List ℕ
comparison_line edition g = let left = compared g in line_for edition g.output left.reply (take (inputs_of g.table) left.setting)

-- The lines of comparisons.
unfoldable pub lines_of : ℕ → List Given → List ℕ
lines_of edition [] = []
lines_of edition (g ∷ gs) = comparison_line edition g ++ lines_of edition gs

-- "loads once, compares every output": as many comparisons as the table has outputs, and none after a refused load. (RULES 11.2)
abbrev pub comparison_count : Answer → List ℕ → ℕ
comparison_count (refused number file line) table = 0
comparison_count (accepted edition tally) table = outputs_of table

-- "prints a head line, then a line each." "A refused load prints only `refused⇥number⇥file⇥line`." (RULES 11.3, 11.6)
abbrev pub report_bytes : Answer → List Given → List ℕ
report_bytes (refused number file line) gs = refused_line number file line
report_bytes (accepted edition tally) gs = head_line ++ lines_of edition gs

-- A report at the front of its slice, the bytes after it unchanged; the other slices as the last comparison left them.
unfoldable pub reported : Answer → Given → List ℕ → Report
reported loaded first out =
    let n = comparison_count loaded first.table in
    let bytes = report_bytes loaded (comparisons n first) in
    let last = after n first in
    record { count = length bytes; out = over_front bytes out; table = last.table; marks = last.marks; setting = last.setting }

-- The first comparison, on the table as loaded.
abbrev pub first_of : Lent → List ℕ → Given
first_of lent table =
    record { table = table; output = 0; limits = program_limits; room = lent.room; marks = lent.marks; setting = lent.setting }

-- The slices that load is lent: the table, and four of those to work in.
abbrev pub load_room : Lent → LoadRoom
load_room lent =
    record {
      table = length lent.table;
      pairs = lent.room.pairs;
      look = lent.room.look;
      literals = lent.room.diagrams;
      outputs = lent.room.stages;
    }

-- "14, in comparisons, for two vertices more": the vertices that the slices of a comparison must have room for, whatever the pair. (RULES 2.3, 8.2)
abbrev pub compare_vertices : ℕ
compare_vertices = max_vertices + 2

-- The slice for the report, a slice to work in, the marks or the setting is too short for some pair of files.
unfoldable pub short_room? : ℕ → CompareRoom → ℕ → ℕ → Bool
short_room? out room marks setting = ltb out report_room || short_slice? compare_vertices row_limit room marks || ltb setting max_inputs

abbrev pub short? : Lent → Bool
short? lent = short_room? (length lent.out) lent.room (length lent.marks) (length lent.setting)

-- Then nothing is written.
abbrev pub untouched : Lent → Report
untouched lent = record { count = 0; out = lent.out; table = lent.table; marks = lent.marks; setting = lent.setting }

-- "The program `compare` .. loads once, compares every output in rising number and prints": the report of two files. (RULES 11.2, 11.3)
unfoldable pub report_of : List ℕ → List ℕ → Lent → Report
report_of left right lent =
    let loaded = load_result left right (load_room lent) in
    let table = table_loaded loaded left right lent.table in
    cond (short? lent) (untouched lent) (reported loaded (first_of lent table) lent.out)

abbrev pub accepted? : Answer → Bool
accepted? (refused number file line) = false
accepted? (accepted edition tally) = true

-- Whether the slices to work in are worked in: no slice is too short, and the load is not refused.
unfoldable pub works? : List ℕ → List ℕ → Lent → Bool
works? left right lent = not (short? lent) && accepted? (load_result left right (load_room lent))
