-- Whether the references are one decides; no loop.
-- One law for each way.
use Rattle.sweep_look.proofs.LookLaws.{compared-differ, compared-equal}
use Rattle.sweep_look.proofs.look.compare.Goals as goal

pub returns-then-f-g : goal.returns-then-f-g
returns-then-f-g c = compared-equal c.args.s.now.diagrams.now c.args.l.0 c.args.r.0 c.reference-f.ensures c.reference-g.ensures c.if-f-g.true

pub returns-else-f-g : goal.returns-else-f-g
returns-else-f-g c = compared-differ c.args.s.now.diagrams.now c.args.l.0 c.args.r.0 c.reference-f.ensures c.reference-g.ensures c.if-f-g.false
