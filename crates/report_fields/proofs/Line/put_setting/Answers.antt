use Prim.Native.Nat.{◌+◌, ◌≤◌}
use Rattle.report_fields.proofs.Adding.{added_next, added_within, setting_short}
use Rattle.report_format.specs.Report.{setting_field}
use lib.ListN.{length}
use native.Mathlib.Omega.{arith}
use Rattle.report_fields.proofs.Line.put_setting.Goals as goal

pub returns : goal.returns
returns c =
    let s = c.args.setting.now in
    let short : length (setting_field s) + 1 ≤ length s + 2 = omega (arith, setting_short s) in
    added_within short (added_next (omega arith) (rw c.field_of.ensures at c.put.ensures) c.put-2.ensures)
