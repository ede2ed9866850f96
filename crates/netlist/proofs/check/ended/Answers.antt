-- All that was due was there, or not.
use Rattle.netlist_model.proofs.StepLaws.{finish_first, finish_step}
use Rattle.std.proofs.Common.{◌∙◌, refl, sym}
use Rattle.netlist.proofs.check.ended.Goals as goal

pub returns-in_default-clause-answer : goal.returns-in_default-clause-answer
returns-in_default-clause-answer c = rw (c.line_due.ensures, c.in_default.is) (sym (finish_first _ _))

pub returns-then-not-has_outputs-clause-answer : goal.returns-then-not-has_outputs-clause-answer
returns-then-not-has_outputs-clause-answer c =
    rw (c.line_due.ensures, c.in-Later.is, finish_step, sym c.has_outputs.ensures ∙ c.if-not-has_outputs.true) refl

pub returns-clause-answer : goal.returns-clause-answer
returns-clause-answer c = rw (c.in-Later.is, finish_step, sym c.has_outputs.ensures ∙ c.if-not-has_outputs.false) refl
