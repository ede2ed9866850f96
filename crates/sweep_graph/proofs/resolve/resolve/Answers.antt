-- The row's two words decide: equal, the literal became the one they name; else it stays.
-- One law for each return; no loop.
use Rattle.aig.specs.Literal.{lit}
use Rattle.sweep_graph.proofs.ResolveLaws.{became_other, stayed}
use mathlib.Core.Path.{◌∙◌, ap, sym}
use Rattle.sweep_graph.proofs.resolve.resolve.Goals as goal

pub returns-then-x-y : goal.returns-then-x-y
returns-then-x-y c =
    c.onto.ensures
    ∙ ap lit
    (sym (became_other c.args.pairs.now c.args.r.0 c.vertex-v.ensures c.first_word-x.ensures c.second_word-y.ensures c.if-x-y.true))

pub returns-else-x-y : goal.returns-else-x-y
returns-else-x-y c =
    ap lit (sym (stayed c.args.pairs.now c.args.r.0 c.vertex-v.ensures c.first_word-x.ensures c.second_word-y.ensures c.if-x-y.false))
