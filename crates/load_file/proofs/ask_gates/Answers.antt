use Rattle.load_file.proofs.Passing.{gates-begin, gates-due, gates-next, gates-passed}
use Rattle.load_file.proofs.ask_gates.Goals as goal
use borrow.Author.Rules.{rules}

pub loop-vertex-init : goal.loop-vertex-init
loop-vertex-init c = record { ahead = gates-begin _ c.requires.lines; same = search rules }

pub ask_line-requires-clause-line : goal.ask_line-requires-clause-line
ask_line-requires-clause-line c = gates-due c.loop-vertex.invariant.ahead c.loop-vertex-test.true

pub loop-vertex-preserved : goal.loop-vertex-preserved
loop-vertex-preserved c = record {
  ahead = rw c.line_end-at.ensures (gates-next c.loop-vertex.invariant.ahead c.loop-vertex-test.true c.ask_line.ensures.asked);
  same = search rules;
}

pub returns-clause-passed : goal.returns-clause-passed
returns-clause-passed c = gates-passed c.loop-vertex.literals c.loop-vertex.graph c.loop-vertex.invariant.ahead c.loop-vertex-test.false
