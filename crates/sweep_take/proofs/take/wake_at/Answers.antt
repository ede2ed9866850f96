-- The constant stays; any other vertex has its stage woken. No loop.
use Rattle.sweep_graph.specs.code.Takes.{wake_words}
use borrow.Author.Tests.{eq-eqb, ne_eqb}
use mathlib.Core.Path.{refl}
use Rattle.sweep_take.proofs.take.wake_at.Goals as goal

pub returns-then-w-eq0 : goal.returns-then-w-eq0
unfolding wake_words
returns-then-w-eq0 c = rw (eq-eqb _ _ c.if-w-eq0.true) refl

pub returns : goal.returns
unfolding wake_words
returns c = rw (ne_eqb c.args.w 0 c.if-w-eq0.false, c.set_stage.ensures, c.woken-stage.ensures, c.stage.ensures) refl
