use Rattle.report_format.proofs.LineLaws.{printed_as, printed_line, printed-none}
use borrow.Author.Rules.{rules}
use Rattle.report_format.specs.Report.{LINE_ROOM, head_line}
use native.Mathlib.Omega.{arith}
use Rattle.report.proofs.write_head.Goals as goal

pub returns-then-out-lt-LINE_ROOM : goal.returns-then-out-lt-LINE_ROOM
returns-then-out-lt-LINE_ROOM c = printed-none c.if-out-lt-LINE_ROOM.true

pub returns : goal.returns
unfolding head_line
returns c = printed_as (printed_line {r = LINE_ROOM} (omega arith) c.if-out-lt-LINE_ROOM.false (record { stored = c.put.ensures.stored.stored; short = omega arith })) (search rules)
