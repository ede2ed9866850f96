use Rattle.report_fields.proofs.Adding.{added_stored}
use Rattle.text.proofs.DecimalLaws.{stored_part}
use mathlib.Core.Path.{refl}
use native.Mathlib.Omega.{arith}
use Rattle.report_fields.proofs.Line.put.Goals as goal

pub returns : goal.returns
returns c =
    let line = c.args.self.now in
    let stored = stored_part line.out.now line.at c.args.bytes.now c.copy_from_slice.new.self c.copy_from_slice.ensures.after in
    added_stored c.requires (record { stored = stored; short = omega arith }) refl
