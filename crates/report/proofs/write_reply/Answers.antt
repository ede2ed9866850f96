-- Each field is added after those before it, and no field is longer than the room that is left for it.
use Rattle.report_fields.proofs.Adding.{added_next}
use Rattle.report_format.proofs.LineLaws.{printed_as, printed_line, printed-none, reply-parts}
use borrow.Author.Rules.{rules}
use native.Mathlib.Omega.{arith}
use Rattle.report.proofs.write_reply.Goals as goal

pub returns-then-out-setting : goal.returns-then-out-setting
returns-then-out-setting c = printed-none c.if-out-setting.true

pub returns : goal.returns
returns c =
    let a = c.args in
    let fields = added_next (omega arith) c.put_pair.ensures (added_next (omega arith) c.put_word.ensures
    (added_next (omega arith) c.put_setting.ensures (added_next (omega arith) c.put_vertex.ensures c.put_pair-2.ensures))) in
    rw (reply-parts a.edition a.output a.word a.setting.now a.vertex a.rows a.steps)
    (printed_as (printed_line (omega arith) c.if-out-setting.false fields.stored) (search rules))
