-- The refusals of the table, then the others; no loop.
-- Where the table is accepted, the tests after its own decide.
use Rattle.std.proofs.Common.{sym, ◌∙◌, ap}
use Rattle.compare_model.specs.Compare.{call_tests, limits_of}
use Rattle.compare_model.specs.Lent.{room_of}
use Rattle.refusal.proofs.NumberLaws.{number_some, passed_on}
use Rattle.refusal.specs.Number.{refusal_number}
use Rattle.table.proofs.RefusalLaws.{refused-first, table-passed}
use Rattle.table.specs.Table.{table_tests}
use Rattle.compare_refusal.proofs.check.Goals as goal

pub returns-in_err-table-clause-refusal : goal.returns-in_err-table-clause-refusal
returns-in_err-table-clause-refusal c =
    let a = c.args in
    let tests = call_tests a.words.now a.output (limits_of a.limits) (room_of a.lengths) a.lengths.marks a.lengths.setting in
    let refused = c.in_err-table.ensures.refusal in
    ap refusal_number (passed_on c.from_residual.result _ c.from_residual.ensures)
    ∙ refused
    ∙ sym (refused-first (table_tests a.words.now) tests (λ z. number_some _ (refused ∙ z)))

pub returns-in_err-check_call-clause-refusal : goal.returns-in_err-check_call-clause-refusal
returns-in_err-check_call-clause-refusal c =
    ap refusal_number (passed_on c.from_residual-in_err-check_call.result _ c.from_residual-in_err-check_call.ensures)
    ∙ rw c.in_ok-table.ensures.table at c.in_err-check_call.ensures
    ∙ sym (table-passed c.args.words.now _ (sym c.in_ok-table.ensures.refusal))

pub returns-clause-refusal : goal.returns-clause-refusal
returns-clause-refusal c =
    rw c.in_ok-table.ensures.table at c.in_ok-check_call.ensures ∙ sym (table-passed c.args.words.now _ (sym c.in_ok-table.ensures.refusal))
