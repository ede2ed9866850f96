-- Each field is added after those before it.
use Rattle.report_fields.proofs.Adding.{added_next}
use Rattle.report_format.proofs.LineLaws.{printed_as, printed_line, printed-none, refused-parts}
use borrow.Author.Rules.{rules}
use native.Mathlib.Omega.{arith}
use Rattle.report.proofs.write_refused.Goals as goal

pub returns-then-out-lt-LINE_ROOM : goal.returns-then-out-lt-LINE_ROOM
returns-then-out-lt-LINE_ROOM c = printed-none c.if-out-lt-LINE_ROOM.true

pub returns : goal.returns
returns c =
    let a = c.args in
    let fields = added_next (omega arith) c.put.ensures (added_next (omega arith) c.put_number.ensures c.put_pair.ensures) in
    rw (refused-parts a.number a.file a.line)
    (printed_as (printed_line (omega arith) c.if-out-lt-LINE_ROOM.false fields.stored) (search rules))
