-- The product is settled and the two literals are looked at; no loop.
-- One law, in every setting of the product.
use Rattle.sweep_state.proofs.LookModel.{looks}
use Rattle.sweep_step.proofs.MultiplyModel.{conclude-looked}
use mathlib.Core.Path.{◌∙◌, sym}
use Rattle.sweep_step.proofs.multiply.conclude.Goals as goal

pub look-requires : goal.look-requires
look-requires c =
    let ended = c.requires.ended in
    rw c.settle.ensures.same.0.task (looks (c.settle.ensures.settled ended.setting ended.ended).represents)

pub returns-clause-concluded : goal.returns-clause-concluded
returns-clause-concluded c = λ x e h.
    conclude-looked e (c.settle.ensures.settled x e) (rw c.settle.ensures.same.0.task at c.look.ensures) (h ∙ sym c.settle.ensures.same.1)
