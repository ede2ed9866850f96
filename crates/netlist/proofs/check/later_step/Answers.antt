-- The tests in their order.
use Rattle.netlist_model.proofs.StepLaws.{later_step}
use Rattle.std.proofs.Common.{◌∙◌, Ok, ap, refl, sym}
use Rattle.netlist.proofs.check.later_step.Goals as goal

pub returns-then-not-is_due : goal.returns-then-not-is_due
returns-then-not-is_due c =
    rw (later_step _ _ _ _ c.requires.found_value, sym c.is_due.ensures ∙ c.if-not-is_due.true) refl

pub returns-then-not-is_below : goal.returns-then-not-is_below
returns-then-not-is_below c =
    rw (later_step _ _ _ _ c.requires.found_value, sym c.is_due.ensures ∙ c.if-not-is_due.false, sym c.is_below.ensures ∙ c.if-not-is_below.true)
    refl

pub returns-then-is_repeated : goal.returns-then-is_repeated
returns-then-is_repeated c =
    rw (later_step _ _ _ _ c.requires.found_value, sym c.is_due.ensures ∙ c.if-not-is_due.false, sym c.is_below.ensures ∙ c.if-not-is_below.false)
    (rw (sym c.is_repeated.ensures ∙ c.if-is_repeated.true) refl)

pub returns : goal.returns
returns c =
    rw (later_step _ _ _ _ c.requires.found_value, sym c.is_due.ensures ∙ c.if-not-is_due.false, sym c.is_below.ensures ∙ c.if-not-is_below.false)
    (rw (sym c.is_repeated.ensures ∙ c.if-is_repeated.false) (ap Ok c.after.ensures))
