use Rattle.std.proofs.Common.{refl}
use Rattle.std.proofs.lemmas.List.{take_rest}
use Rattle.text.proofs.SplitLaws.{split_at-first}
use Rattle.text.proofs.split.until.Goals as goal

pub returns : goal.returns
returns c = rw (c.part.ensures, split_at-first, take_rest) refl
