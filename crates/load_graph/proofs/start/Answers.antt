-- The first vertices hold their own words and the look-up is empty; no loop.
-- A look-up without entries serves vertices with equal words.
use Rattle.load_graph.proofs.Starting.{start_built, start-graph}
use Rattle.load_graph.proofs.start.Goals as goal

pub returns : goal.returns
returns c =
    record {
      result = rw c.write_own.ensures (start_built c.args.pairs.now c.args.look.now c.args.inputs c.requires.0 c.requires.1 c.requires.2);
      graph = rw (c.write_own.ensures, c.clear.ensures) (start-graph c.args.pairs.now c.args.look.now c.args.inputs c.requires.0 c.requires.1 c.requires.2);
    }
