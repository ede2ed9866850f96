-- The pair is found or made, as the definition says; no loop.
-- Its two literals are different, so that it can be looked up.
use Rattle.load_graph.proofs.Asking.{and_found, and-made, found_below, made-graph}
use mathlib.Core.Path.{◌∙◌, sym}
use native.Mathlib.Omega.{arith}
use Rattle.load_graph.proofs.Builder.find_or_make.Goals as goal

pub new-requires : goal.new-requires
new-requires c = omega (arith, found_below c.args.self.now.graph c.requires.room c.requires.pair (sym c.find.ensures ∙ c.in-Some.is))

pub invariant_of-self-in-None : goal.invariant_of-self-in-None
invariant_of-self-in-None c =
    let f = sym c.find.ensures ∙ c.in-None.is in
    let g = made-graph c.args.self.now.graph c.requires.room c.requires.pair f in
    record { graph = rw (c.after-self-in-None.ensures, c.add_row.ensures.pairs, c.add_row.ensures.look) g }

pub returns-in-Some-clause-result : goal.returns-in-Some-clause-result
returns-in-Some-clause-result c = rw c.after-self.ensures (and_found c.args.self.now.graph c.requires.room c.requires.pair (sym c.find.ensures ∙ c.in-Some.is) c.new.ensures)

pub returns-in-None-clause-result : goal.returns-in-None-clause-result
returns-in-None-clause-result c =
    let f = sym c.find.ensures ∙ c.in-None.is in
    rw (c.after-self-in-None.ensures, c.add_row.ensures.pairs) (and-made c.args.self.now.graph c.requires.room c.requires.pair f c.new-in-None.ensures)
