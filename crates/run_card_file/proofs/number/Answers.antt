use Rattle.run_card_file.proofs.NumberLaws.{number_added, with_digit}
use Rattle.std.proofs.Common.{rules, tests}
use Rattle.std.proofs.lemmas.Iterator.{YieldsList-from_slice}
use Rattle.std.proofs.lemmas.Iterator.Consumers.{fold_from_yields_List}
use mathlib.Core.Path.{◌∙◌}
use Rattle.run_card_file.proofs.number.Goals as goal

pub returns : goal.returns
returns c =
    fold_from_yields_List _ with_digit 0 c.fold.result c.fold.ensures.ran (YieldsList-from_slice c.args.digits.now cc) (λ a x b q k. search (rules, tests))
    ∙ number_added c.args.digits.now
