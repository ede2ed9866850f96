-- Whether the taking vertex has a diagram decides; no loop.
-- An inverted reference is still a word.
use Rattle.aig.specs.Literal.{vertex_of}
use Rattle.bdd.specs.Diagram.{edge}
use Rattle.sweep_graph.proofs.TakeLaws.{has-read}
use Rattle.sweep_graph.specs.code.Takes.{taken_diagrams}
use mathlib.Core.Path.{refl}
use native.Mathlib.Omega.{arith}
use Rattle.sweep_take.proofs.take.give_diagram.Goals as goal

pub returns-then-has_diagram : goal.returns-then-has_diagram
unfolding taken_diagrams
returns-then-has_diagram c =
    rw (has-read c.args.s.now.stages.now (vertex_of c.args.x.0) c.vertex-w.ensures c.stage.ensures c.has_diagram.ensures c.if-has_diagram.true) refl

pub overflow_cast-reference : goal.overflow_cast-reference
unfolding edge
overflow_cast-reference c = rw c.edge_to-reference.ensures (record { fits = omega arith })

pub returns : goal.returns
unfolding taken_diagrams
returns c =
    let lacks = has-read c.args.s.now.stages.now (vertex_of c.args.x.0) c.vertex-w.ensures c.stage.ensures c.has_diagram.ensures c.if-has_diagram.false in
    rw (lacks, c.set_diagram.ensures, c.edge_to-reference.ensures, c.diagram-own.ensures, c.vertex-w.ensures) refl
