-- Whether either vertex has a diagram decides; no loop.
use Rattle.aig.specs.Literal.{vertex_of}
use Rattle.sweep_graph.proofs.TakeLaws.{has-read}
use Rattle.sweep_graph.specs.code.Takes.{handed_over}
use mathlib.Core.Path.{ap, refl}
use Rattle.sweep_take.proofs.take.hand_over.Goals as goal

pub returns-then-has_diagram : goal.returns-then-has_diagram
unfolding handed_over
returns-then-has_diagram c =
    let has = has-read c.args.s.now.stages.now c.args.v refl c.stage.ensures c.has_diagram.ensures c.if-has_diagram.true in
    rw (has, c.own_row.ensures, c.wake_at.ensures, c.give_diagram.ensures, ap (λ p. p.0) c.diagram-reference.ensures, c.vertex-w.ensures) refl

pub returns-then-has_diagram-2 : goal.returns-then-has_diagram-2
unfolding handed_over
returns-then-has_diagram-2 c =
    let lacks = has-read c.args.s.now.stages.now c.args.v refl c.stage.ensures c.has_diagram.ensures c.if-has_diagram.false in
    let has = has-read c.args.s.now.stages.now (vertex_of c.args.x.0) c.vertex-w.ensures c.stage-2.ensures c.has_diagram-2.ensures c.if-has_diagram-2.true in
    rw (lacks, has, c.wake_at-then-has_diagram-2.ensures, c.vertex-w.ensures) refl

pub returns-else-has_diagram-2 : goal.returns-else-has_diagram-2
unfolding handed_over
returns-else-has_diagram-2 c =
    let lacks = has-read c.args.s.now.stages.now c.args.v refl c.stage.ensures c.has_diagram.ensures c.if-has_diagram.false in
    let too = has-read c.args.s.now.stages.now (vertex_of c.args.x.0) c.vertex-w.ensures c.stage-2.ensures c.has_diagram-2.ensures c.if-has_diagram-2.false in
    rw (lacks, too) refl
