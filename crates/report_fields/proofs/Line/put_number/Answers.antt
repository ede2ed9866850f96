use Rattle.report_fields.proofs.Adding.{added_next}
use Rattle.report_fields.proofs.Line.put_number.Goals as goal

pub returns : goal.returns
returns c = added_next c.requires c.put_digits.ensures c.put.ensures
