-- What the first look sees decides; no loop.
-- One law for each way, for all functions.
use Rattle.std.proofs.lemmas.Result.{err_from_is_err_and}
use Rattle.sweep_start.proofs.BeginModel.{going-nothing, prepared_looks, start_gives, start-stops}
use Rattle.sweep_state.specs.code.Sweep.{lent}
use mathlib.Core.Path.{sym}
use Rattle.sweep_start.proofs.start.start.Goals as goal

pub look-requires : goal.look-requires
look-requires c =
    let kept = c.prepare.ensures.kept in
    rw kept.task (prepared_looks c.args.s.now.task (lent c.args.s.now) (lent c.prepare.new.s) c.prepare.ensures.prepared c.requires)

pub returns-in_err-after_look-clause-started : goal.returns-in_err-after_look-clause-started
returns-in_err-after_look-clause-started c =
    let p = err_from_is_err_and c.from_residual.result c.from_residual.ensures.1 in
    let n = c.prepare.ensures in
    rw (p.1, p.2)
    (start-stops c.args.s.now.task (lent c.args.s.now) (lent c.prepare.new.s) n.prepared (rw n.kept.task at c.look.ensures) n.counts.0 n.counts.1
    (sym c.in_err-after_look.ensures))

pub returns-clause-started : goal.returns-clause-started
returns-clause-started c =
    let n = c.prepare.ensures in
    let e = going-nothing c.look.result c.prepare.new.s.used c.prepare.new.s.steps (sym c.in_ok-after_look.ensures) in
    start_gives c.args.s.now.task (lent c.args.s.now) (lent c.prepare.new.s) n.prepared (rw n.kept.task at c.look.ensures) e (lent c.give_inputs.new.s)
    c.give_inputs.new.s.used c.give_inputs.new.s.steps c.give_inputs.result (rw n.kept.task at c.give_inputs.ensures.given)
