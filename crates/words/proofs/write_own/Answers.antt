use Rattle.words.proofs.Writing.{own-ends, own_turn}
use native.Mathlib.Omega.{arith}
use Rattle.words.proofs.write_own.Goals as goal

pub loop-v-preserved : goal.loop-v-preserved
loop-v-preserved c = rw c.set_words.ensures (own_turn c.loop-v.invariant c.loop-v-test.true (omega (arith, c.loop-v.invariant.same)))

pub returns : goal.returns
returns c = own-ends c.loop-v.invariant c.loop-v-test.false
