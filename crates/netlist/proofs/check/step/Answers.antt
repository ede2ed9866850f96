-- What is due holds its counts within their limits, and the names in earlier lines are there.
use Rattle.netlist_model.proofs.StepLaws.{first_unseen, unread-refused}
use Rattle.netlist_model.specs.Records.{line_with}
use Rattle.netlist_model.specs.code.Passing.{step_of}
use Rattle.netlist_model.specs.declared.Due.TheVariants.{First}
use Rattle.netlist_model.specs.declared.Record.{Record}
use Rattle.std.proofs.Common.{◌∙◌, Option, [], ap, sym}
use Rattle.netlist.proofs.check.step.Goals as goal

pub returns-in_default : goal.returns-in_default
returns-in_default c = sym (unread-refused _ _ _ (sym c.in_default.is ∙ c.next_record.ensures))

pub returns-in-First : goal.returns-in-First
returns-in-First c =
    rw c.in-First.is
    (c.first_step.ensures
    ∙ ap (λ (x : Option Record). step_of [] (First c.in-First.role) (line_with x [])) (sym c.in-Some.is ∙ c.next_record.ensures)
    ∙ sym (first_unseen _ _))
