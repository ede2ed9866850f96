-- The refusal is decided over lengths and shared borrows, and then the work is done on what is known to be good; no loop.
-- At a refusal nothing has been written.
use Rattle.load_model.specs.Load.{accepted, table_after}
use Rattle.load.proofs.Deciding.{goes_on, goes-table, refusal_result}
use Rattle.netlist_model.specs.Limits.{number_of_edition}
use Rattle.std.proofs.lemmas.Result.{err_from_is_err_and}
use mathlib.Core.Path.{◌∙◌, ap, refl, sym}
use Rattle.load.proofs.load.Goals as goal

pub returns-in_err-left-clause-result : goal.returns-in_err-left-clause-result
returns-in_err-left-clause-result c =
    let p = err_from_is_err_and c.from_residual.result c.from_residual.ensures.1 in
    rw (p.1, p.2) (sym (refusal_result _ _ _ (rw (c.lengths-lengths.ensures, c.in_err-left.was) at c.decide.ensures.decision) refl))

pub returns-in_err-left-clause-table : goal.returns-in_err-left-clause-table
unfolding table_after
returns-in_err-left-clause-table c = let p = err_from_is_err_and c.from_residual.result c.from_residual.ensures.1 in rw p.1 refl

pub load_pair-tally-requires-clause-files : goal.load_pair-tally-requires-clause-files
load_pair-tally-requires-clause-files c =
    let files = c.in_ok-left.ensures.files in
    rw (files.0, files.1) (goes_on _ _ _ (rw c.lengths-lengths.ensures at c.in_ok-left.ensures.decision) refl).agreed

pub load_pair-tally-requires-clause-room : goal.load_pair-tally-requires-clause-room
load_pair-tally-requires-clause-room c =
    let e = (goes_on _ _ _ (rw c.lengths-lengths.ensures at c.in_ok-left.ensures.decision) refl).enough in
    record { for_pairs = e.pairs; for_look = e.look; for_literals = e.literals; for_outputs = e.outputs }

pub load_pair-tally-requires-clause-table : goal.load_pair-tally-requires-clause-table
load_pair-tally-requires-clause-table c = (goes_on _ _ _ (rw c.lengths-lengths.ensures at c.in_ok-left.ensures.decision) refl).enough.table

pub returns-clause-result : goal.returns-clause-result
returns-clause-result c =
    let files = c.in_ok-left.ensures.files in
    rw (files.0, files.1) at (ap (accepted (number_of_edition c.in_ok-left.left.summary.edition)) c.load_pair-tally.ensures.result)
    ∙ sym (goes_on _ _ _ (rw c.lengths-lengths.ensures at c.in_ok-left.ensures.decision) refl).result

pub returns-clause-table : goal.returns-clause-table
returns-clause-table c =
    let files = c.in_ok-left.ensures.files in
    rw (files.0, files.1) at c.load_pair-tally.ensures.table
    ∙ sym (goes-table _ _ _ (goes_on _ _ _ (rw c.lengths-lengths.ensures at c.in_ok-left.ensures.decision) refl) _ _ _)
