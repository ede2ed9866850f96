-- Invariant: the gates ahead, asked for from here, come to what all of them come to; the graph and the literals keep their slices.
use Rattle.load_graph.specs.code.Building.{SameSlices}
use Rattle.load_file.proofs.Passing.{GatesFrom}
use Rattle.load_file.specs.code.File.{trace}
use Rattle.load_file.proofs.ask_gates.Given as goal

abbrev pub invariant-loop-vertex : goal.invariant-loop-vertex
invariant-loop-vertex l = record {
  ahead : GatesFrom l.file l.start l.vertex-end (trace l.initial.literals l.first l.initial.graph) l.at l.vertex (trace l.literals l.vertex l.graph);
  same : SameSlices l.initial.graph l.graph;
}
