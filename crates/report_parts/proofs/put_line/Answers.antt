use Rattle.reply_line.specs.Line.{said_or_number}
use Rattle.report_fields.proofs.Adding.{added_stored}
use Rattle.report_parts.proofs.PartLaws.{part_stored, room-short}
use mathlib.Core.Path.{refl}
use native.Mathlib.Omega.{arith}
use Rattle.report_parts.proofs.put_line.Goals as goal

pub returns : goal.returns
returns c =
    let a = c.args in
    let said = said_or_number a.reply in
    added_stored c.requires
    (part_stored a.report.now.out.now a.report.now.at _ _ _ _ _ c.write_line.result (omega (arith, c.requires)) (omega (arith, room-short said a.setting.now)) (omega arith) c.write_line.auto.out c.write_line.ensures)
    refl
