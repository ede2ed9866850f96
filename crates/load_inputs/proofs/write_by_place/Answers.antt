use Rattle.load_inputs.proofs.FirstLiterals.{literals_end, literals-turn}
use native.Mathlib.Omega.{arith}
use Rattle.load_inputs.proofs.write_by_place.Goals as goal

pub loop-v-preserved : goal.loop-v-preserved
loop-v-preserved c = literals-turn c.loop-v.invariant c.loop-v-test.true (omega (arith, c.loop-v.invariant.same))

pub returns : goal.returns
returns c = literals_end c.loop-v.invariant c.loop-v-test.false
