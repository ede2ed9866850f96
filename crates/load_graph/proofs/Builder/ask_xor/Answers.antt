-- Three ANDs one after the other, as the definition says; no loop.
-- Each is counted, so that there is room for the next.
use Rattle.load_graph.proofs.Asking.{asked-one, xor_built}
use native.Mathlib.Omega.{arith}
use Rattle.load_graph.proofs.Builder.ask_xor.Goals as goal

pub ask_and-two-requires : goal.ask_and-two-requires
ask_and-two-requires c = omega (arith, asked-one _ _ _ c.ask_and-one.ensures.result)

pub ask_and-requires : goal.ask_and-requires
ask_and-requires c = omega (arith, asked-one _ _ _ c.ask_and-two.ensures.result, asked-one _ _ _ c.ask_and-one.ensures.result)

pub returns-clause-result : goal.returns-clause-result
returns-clause-result c =
    rw c.negated-3.ensures
    (xor_built _ _ _ c.negated.ensures c.ask_and-one.ensures.result c.negated-2.ensures c.ask_and-two.ensures.result c.negated-not_one.ensures
    c.negated-not_two.ensures c.ask_and.ensures.result)
