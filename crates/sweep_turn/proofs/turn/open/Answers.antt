-- The vertex that waits opens, and the scan goes on from the next; no loop.
-- One law for what the scan asks, and one for what it reached.
use Rattle.sweep_turn.proofs.TurnModel.{open-asks, open-ends}
use Rattle.sweep_turn.proofs.turn.open.Goals as goal

pub scan-requires-clause-scan : goal.scan-requires-clause-scan
scan-requires-clause-scan c = rw c.set_stage.ensures (open-asks c.args.v c.args.s.now c.requires.opening)

pub returns-clause-opened : goal.returns-clause-opened
returns-clause-opened c =
    open-ends c.args.v c.args.s.now c.scan.new.s c.scan.result (rw c.set_stage.ensures at c.scan.ensures.scanned)
