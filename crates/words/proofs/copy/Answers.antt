use Rattle.text.proofs.DecimalLaws.{stored_part}
use Rattle.words.proofs.copy.Goals as goal

pub returns : goal.returns
returns c = stored_part c.args.to.now c.args.at c.args.words.now c.copy_from_slice.new.self c.copy_from_slice.ensures.after
