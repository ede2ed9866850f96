-- The product's answer decides; no loop.
-- One law for each answer, in every context.
use Rattle.sweep_step.proofs.MultiplyModel.{lacking, multiply-concludes, multiply-lacks, product-asked, product-ended}
use mathlib.Core.Path.{◌∙◌}
use Rattle.sweep_step.proofs.multiply.multiply.Goals as goal

pub take_product-requires : goal.take_product-requires
take_product-requires c = product-asked c.args.v c.args.s.now c.requires.due.on

pub conclude-requires-clause-ended : goal.conclude-requires-clause-ended
conclude-requires-clause-ended c =
    let taken = c.in-Ok.ensures in
    rw taken.left (record { setting = _; ended = product-ended c.requires.due.on c.take_product.new.s.rows.now taken.taken taken.long })

pub break_off-requires-clause-words : goal.break_off-requires-clause-words
break_off-requires-clause-words c =
    let taken = c.in-Err.ensures in
    rw taken.left (lacking c.requires.due.on c.take_product.new.s.rows.now c.in-Err.short taken.taken).1

pub returns-in-Ok-clause-taken : goal.returns-in-Ok-clause-taken
returns-in-Ok-clause-taken c =
    let taken = c.in-Ok.ensures in
    multiply-concludes c.args.v c.args.s.now c.take_product.new.s.rows.now
    (λ x d. product-ended d c.take_product.new.s.rows.now taken.taken taken.long)
    c.conclude.new.s c.conclude.result (rw taken.left at c.conclude.ensures.concluded)

pub returns-in-Err-clause-taken : goal.returns-in-Err-clause-taken
returns-in-Err-clause-taken c = λ x d.
    let taken = c.in-Err.ensures in
    rw (c.ended.ensures, c.end_by.ensures, c.break_off.ensures.left, taken.left)
    (multiply-lacks d c.take_product.new.s.rows.now c.in-Err.short taken.taken (rw taken.left at c.break_off.ensures.given_back)
    (c.break_off.ensures.long ∙ taken.long))
