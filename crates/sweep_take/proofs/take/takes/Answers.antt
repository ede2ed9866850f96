use Rattle.sweep_graph.proofs.TakeLaws.{taking_ends, taking-goes-on}
use mathlib.Core.Path.{refl}
use Rattle.sweep_take.proofs.take.takes.Goals as goal

pub loop-v-preserved : goal.loop-v-preserved
loop-v-preserved c =
    let t = taking-goes-on c.requires.graph c.loop-v.invariant.taking c.loop-v-test.true in
    rw (c.take_at.ensures, c.loop-v.invariant.rest) (record { taking = t; rest = refl })

pub returns : goal.returns
returns c =
    rw (← taking_ends c.requires.graph c.loop-v.invariant.taking c.loop-v-test.false) c.loop-v.invariant.rest
