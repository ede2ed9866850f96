-- The start, and what follows it; no loop.
-- One law for each way that the start comes out.
use Rattle.sweep.proofs.SweepModel.{start-answers, sweep_goes_on}
use Rattle.sweep_state.specs.code.Sweep.{lent}
use Rattle.sweep.proofs.run.Goals as goal

pub returns-in-Ok-clause-swept : goal.returns-in-Ok-clause-swept
returns-in-Ok-clause-swept c =
    let begun = c.in-Ok.ensures in
    sweep_goes_on c.args.s.now.task (lent c.args.s.now) c.start.new.s begun.kept.task begun.started c.finish.new.s c.finish.ensures.rested

pub returns-in-Err-clause-swept : goal.returns-in-Err-clause-swept
returns-in-Err-clause-swept c =
    let begun = c.in-Err.ensures in
    start-answers c.args.s.now.task (lent c.args.s.now) c.start.new.s begun.kept.task c.in-Err.ended begun.started
