-- The head line, and the lines after it; no loop.
-- Each is stored where there is room for it.
use Rattle.report_lines.proofs.HeadLaws.{head_and_lines, head-stored, stored_in}
use Rattle.table.specs.Table.{outputs_of}
use borrow.Author.Rules.{rules}
use native.Mathlib.Omega.{arith}
use Rattle.report_lines.proofs.report_table.Goals as goal

pub report_outputs-requires-clause-reply_room_in_bounds : goal.report_outputs-requires-clause-reply_room_in_bounds
report_outputs-requires-clause-reply_room_in_bounds c =
    let head = head-stored c.requires.report_room_in_bounds c.write_head-at.ensures in
    omega (arith, head.stored.place, head.short, c.write_head-at.auto.out, c.requires.ready.accepted.formed.outputs, c.requires.report_room_in_bounds)

pub returns-clause-stored_within : goal.returns-clause-stored_within
returns-clause-stored_within c =
    let head = head-stored c.requires.report_room_in_bounds c.write_head-at.ensures in
    stored_in (search rules)
    (head_and_lines (outputs_of c.args.table.now) c.requires.report_room_in_bounds c.requires.ready.accepted.formed.outputs head c.report_outputs.ensures.added.stored)
