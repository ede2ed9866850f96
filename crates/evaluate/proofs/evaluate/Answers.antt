-- A refusal, or the value where there is none.
use Rattle.evaluate_model.proofs.ReadyLaws.{ready, refusal_answers, value-answers}
use Rattle.evaluate_model.specs.Evaluate.{answer_of}
use Rattle.refusal.proofs.NumberLaws.{number_some, passed_on}
use Rattle.std.proofs.Common.{ap, sym, ◌∙◌}
use Rattle.evaluate.proofs.evaluate.Goals as goal

pub returns-in_err-table-clause-result_value : goal.returns-in_err-table-clause-result_value
returns-in_err-table-clause-result_value c =
    ap answer_of (passed_on c.from_residual.result _ c.from_residual.ensures)
    ∙ refusal_answers _ _ _ _ _ _ c.in_err-table.ensures.refusal (number_some _)

pub output_value-requires : goal.output_value-requires
output_value-requires c =
    let ok = c.in_ok-table.ensures in
    rw ok.table (ready _ _ _ _ _ (sym ok.refusal))

pub returns-clause-result_value : goal.returns-clause-result_value
returns-clause-result_value c =
    let ok = c.in_ok-table.ensures in
    value-answers _ _ _ _ _ _ (sym ok.refusal) (rw ok.table at c.output_value.ensures)
