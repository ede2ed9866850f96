-- The head line, and the lines after it.
use Prim.Native.Nat.{◌*◌, ◌≤◌, ℕ}
use Rattle.report_format.proofs.StoredLaws.{stored_next}
use Rattle.report_format.specs.Report.{LINE_ROOM, Printed, StoredWithin, head_line, line_length, line_put}
use Rattle.report_model.specs.Report.{reply_room, report_room}
use Rattle.table.specs.Limits.{max_outputs}
use Rattle.text.specs.Decimal.{written}
use borrow.Author.Tests.{le-ltb}
use lib.ListN.{length}
use mathlib.Core.List.{List, ◌++◌}
use mathlib.Core.Path.{◌≡◌}
use native.Mathlib.Omega.{arith}

-- The head line put at the front of a slice is stored there.
pub head-stored : {old new : List ℕ} {n : ℕ} → report_room ≤ length old → Printed LINE_ROOM head_line old new n → StoredWithin old 0 LINE_ROOM head_line new n
unfolding line_put line_length written head_line
head-stored {old} h p =
    let test = le-ltb (length old) LINE_ROOM (omega arith) in
    record { stored = record { place = rw test at p.count; list = rw test at p.list }; short = omega arith }

-- The lines are stored after it.
pub head_and_lines : {old mid lines new : List ℕ} {start end : ℕ} (outputs : ℕ) → report_room ≤ length old → outputs ≤ max_outputs
    → StoredWithin old 0 LINE_ROOM head_line mid start → StoredWithin mid start (outputs * reply_room) lines new end
    → StoredWithin old 0 report_room (head_line ++ lines) new end
head_and_lines outputs room bound head lines =
    let both = stored_next (outputs * reply_room) (omega arith) head (λ h. lines) in
    record { stored = both.stored; short = omega (arith, both.short) }

-- What is stored is stored in a slice that holds the same.
pub stored_in : {old bytes new here : List ℕ} {room end : ℕ} → here ≡ new → StoredWithin old 0 room bytes new end → StoredWithin old 0 room bytes here end
stored_in {old} {bytes} {new} {here} {room} {end} e h = rw e h
