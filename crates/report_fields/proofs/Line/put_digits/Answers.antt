use Rattle.report_fields.proofs.Adding.{added_stored}
use Rattle.report_format.proofs.LineLaws.{number_short}
use mathlib.Core.Path.{refl}
use native.Mathlib.Omega.{arith}
use Rattle.report_fields.proofs.Line.put_digits.Goals as goal

pub print-self-requires : goal.print-self-requires
print-self-requires c = rw c.from.ensures (omega (arith, number_short c.args.n c.ranges.n.fits))

pub returns : goal.returns
returns c =
    added_stored c.requires (record { stored = rw c.from.ensures at c.print-self.ensures; short = number_short c.args.n c.ranges.n.fits }) refl
