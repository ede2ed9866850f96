use Rattle.std.proofs.lemmas.Result.{err_from_is_err_and}
use Rattle.sweep_start.proofs.InputModel.{along-ends, along-goes-on, along-short}
use Rattle.sweep_start.specs.code.Inputs.{RowGiven, RowLacked}
use Rattle.sweep_state.proofs.LongLaws.{lengths-then}
use Rattle.sweep_state.specs.code.Sweep.{lent, put_arrays, put_counts}
use Rattle.sweep_state.specs.declared.sweep.Sweep.{Sweep}
use Rattle.sweep_state.specs.declared.task.Task.{Task}
use mathlib.Core.Path.{◌∙◌, ap, subst}
use Rattle.sweep_start.proofs.inputs.give_rows.Goals as goal

pub returns-in_err-give_row-clause-given : goal.returns-in_err-give_row-clause-given
returns-in_err-give_row-clause-given c =
    let p = err_from_is_err_and c.from_residual.result c.from_residual.ensures.1 in
    let given = c.in_err-give_row.ensures.given in
    let at = c.loop-v.s in
    let after = c.give_row.new.s in
    let lacked = subst (λ (t : Task). RowLacked t c.loop-v.v at.used (lent at).arrays (lent after).arrays) (ap (λ (z : Sweep). z.task) c.loop-v.invariant.rest) given.0 in
    rw (p.1, p.2, given.1, given.2) (λ x g. along-short c.loop-v.invariant.along c.loop-v-test.true lacked x g)

pub loop-v-preserved : goal.loop-v-preserved
loop-v-preserved c =
    let row = c.in_ok-give_row.ensures in
    let at = c.loop-v.s in
    let after = c.give_row.new.s in
    let given =
    subst (λ (t : Task). RowGiven t c.loop-v.v at.used (lent at).arrays (lent after).arrays after.used) (ap (λ (z : Sweep). z.task) c.loop-v.invariant.rest) row.given in
    record {
      along = along-goes-on c.loop-v.invariant.along c.loop-v-test.true given;
      rest = row.left ∙ ap (λ (z : Sweep). put_arrays (lent after).arrays (put_counts after.used z.steps z)) c.loop-v.invariant.rest;
      long = lengths-then c.loop-v.invariant.long row.long;
    }

pub returns-clause-given : goal.returns-clause-given
returns-clause-given c = λ x g. along-ends c.loop-v.invariant.along c.loop-v-test.false x g
