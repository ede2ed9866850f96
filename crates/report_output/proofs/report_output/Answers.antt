-- A comparison, and its line; no loop.
-- What the comparison left is what the next one is given, and the line of its reply is its line.
use Rattle.compare_model.specs.Compare.{Given}
use Rattle.compare_model.specs.Lent.{room_of}
use Rattle.compare_model.specs.declared.Lengths.{Lengths}
use Rattle.comparer.specs.Lent.{holding}
use Rattle.report_output.proofs.ComparedLaws.{compared-added, compared-next}
use Rattle.report_output.specs.code.Slices.{asked}
use mathlib.Core.Path.{ap}
use native.Mathlib.Omega.{arith}
use Rattle.report_output.proofs.report_output.Goals as goal

pub returns-clause-added : goal.returns-clause-added
returns-clause-added c =
    let a = c.args in
    let call = c.compare-reply in
    let g : Given = asked a.output (holding a.table.now a.lent.now) in
    let within = c.requires.ready.accepted.formed.inputs in
    let long = ap (λ (l : Lengths). l.setting) call.ensures.same.lengths in
    compared-added g call.result call.new.table call.new.lent.marks.now call.new.lent.setting.now call.ensures.compared.result a.edition within
    (omega (arith, within, c.requires.ready.room, long)) (rw (c.digits.ensures, c.inputs-inputs.ensures, c.numbered.ensures) at c.put_line.ensures)

pub returns-clause-left_to_next : goal.returns-clause-left_to_next
returns-clause-left_to_next c =
    let a = c.args in
    let call = c.compare-reply in
    let g : Given = asked a.output (holding a.table.now a.lent.now) in
    compared-next g call.result call.new.table call.new.lent.marks.now call.new.lent.setting.now call.ensures.compared.result _
    (ap room_of call.ensures.same.lengths)
