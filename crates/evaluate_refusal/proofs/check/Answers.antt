-- The refusals of the table, then the others.
use Rattle.std.proofs.Common.{ap, sym, ◌∙◌}
use Rattle.evaluate_model.specs.Evaluate.{call_tests}
use Rattle.refusal.proofs.NumberLaws.{number_some, passed_on}
use Rattle.refusal.specs.Number.{refusal_number}
use Rattle.table.proofs.RefusalLaws.{refused-first, table-passed}
use Rattle.table.specs.Table.{table_tests}
use Rattle.evaluate_refusal.proofs.check.Goals as goal

pub returns-in_err-table-clause-refusal : goal.returns-in_err-table-clause-refusal
returns-in_err-table-clause-refusal c =
    let a = c.args in
    let tests = call_tests a.words.now a.side a.output a.setting.now a.room in
    let e = c.in_err-table.ensures.refusal in
    ap refusal_number (passed_on c.from_residual.result _ c.from_residual.ensures)
    ∙ e ∙ sym (refused-first (table_tests a.words.now) tests (λ z. number_some _ (e ∙ z)))

pub returns-in_err-check_call-clause-refusal : goal.returns-in_err-check_call-clause-refusal
returns-in_err-check_call-clause-refusal c =
    let ok = c.in_ok-table.ensures in
    ap refusal_number (passed_on c.from_residual-in_err-check_call.result _ c.from_residual-in_err-check_call.ensures)
    ∙ rw ok.table at c.in_err-check_call.ensures ∙ sym (table-passed _ _ (sym ok.refusal))

pub returns-clause-refusal : goal.returns-clause-refusal
returns-clause-refusal c =
    let ok = c.in_ok-table.ensures in
    (rw ok.table at c.in_ok-check_call.ensures) ∙ sym (table-passed _ _ (sym ok.refusal))
