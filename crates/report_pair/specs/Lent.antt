-- The slices that report_pair is lent, and what it promises of them.
use Rattle.std.specs.Prelude.{◌≤◌, ℕ, length, take, false, List, ◌≡◌}
use Rattle.comparer.specs.Lent.{Slices, Unchanged, room_in}
use Rattle.report_model.specs.Report.{Lent, Report, report_of, works?}

-- The slices of the call, by the lists that they hold.
abbrev pub lent : List ℕ → Slices → Lent
lent out s = record { out = out; table = s.table; room = room_in s; marks = s.marks; setting = s.setting }

-- What it gives back, and what four of its slices then hold.
abbrev pub report_left : ℕ → List ℕ → List ℕ → List ℕ → List ℕ → Report
report_left count out table marks setting = record { count = count; out = out; table = table; marks = marks; setting = setting }

-- What it gives back and leaves is the report of the two files; where the slices to work in are not worked in, they are unchanged. (RULES 8.3, 11.2)
pub record Reported (left right out written : List ℕ) (before after : Slices) (count : ℕ) : Type 0 where
  pub result : report_left count written after.table after.marks after.setting ≡ report_of left right (lent out before)
  pub kept : works? left right (lent out before) ≡ false → Unchanged before after

-- The report is within its slice, said in both ways that a caller who takes it from there needs.
pub record Front (count : ℕ) (out : List ℕ) : Type 0 where
  pub within : count ≤ length out
  pub front : count ≡ length (take count out)
