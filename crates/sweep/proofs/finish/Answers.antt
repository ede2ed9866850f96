-- The turns, and Size where none waits; no loop.
-- One law for each way that the turns come out.
use Rattle.sweep.proofs.SweepModel.{rest-answers, turn-answers}
use Rattle.sweep.proofs.finish.Goals as goal

pub returns-in-Ok-clause-rested : goal.returns-in-Ok-clause-rested
returns-in-Ok-clause-rested c = rw c.ended.ensures (rest-answers c.args.s.now c.go.new.s c.in-Ok.ensures.went)

pub returns-in-Err-clause-rested : goal.returns-in-Err-clause-rested
returns-in-Err-clause-rested c = turn-answers c.args.s.now c.go.new.s c.in-Err.ended c.in-Err.ensures.went
