-- The row and its owner decide; no loop.
-- One law for each way.
use Rattle.sweep_merge.proofs.MeetLaws.{twin-constant, twin_nobody, twin-owner}
use Rattle.sweep_merge.proofs.twin.find_twin.Goals as goal

pub returns-then-row-eq0 : goal.returns-then-row-eq0
returns-then-row-eq0 c = twin-constant c.args.s.now.rows.now c.args.reference c.if-row-eq0.true

pub returns-then-owner-eq0 : goal.returns-then-owner-eq0
returns-then-owner-eq0 c = twin_nobody c.args.s.now.rows.now c.args.reference c.if-row-eq0.false c.owner_of-owner.ensures.0 c.if-owner-eq0.true

pub returns : goal.returns
returns c = twin-owner c.args.s.now.rows.now c.args.reference c.if-row-eq0.false c.owner_of-owner.ensures.0 c.if-owner-eq0.false
