use Prim.Native.Nat.{◌-◌}
use Rattle.sweep_pick.proofs.PickLaws.{least-is, least_more}
use Rattle.sweep_pick.specs.code.Pick.{least_from}
use mathlib.Core.Path.{◌∙◌, ◌≡◌, refl, sym}
use native.Mathlib.Omega.{arith}
use Rattle.sweep_pick.proofs.pick.pick.Goals as goal

pub loop-v-init : goal.loop-v-init
unfolding least_from
loop-v-init c =
    let none : c.args.s.now.task.count - c.args.s.now.task.count ≡ 0 = omega arith in
    rw none refl

-- What is picked later is one of the vertices from v on.
pub pick_here-picked-requires-clause-later : goal.pick_here-picked-requires-clause-later
pick_here-picked-requires-clause-later c w e =
    let s = c.args.s.now in
    omega (arith, (least-is s.stages.now s.diagrams.now (s.task.count - c.loop-v.v) c.loop-v.v w (sym c.loop-v.invariant ∙ e)).within)

pub loop-v-preserved : goal.loop-v-preserved
loop-v-preserved c =
    let s = c.args.s.now in
    least_more s.stages.now s.diagrams.now s.task.count c.loop-v.v c.loop-v-test.true c.loop-v.auto.v c.loop-v.invariant
    c.pick_here-picked.ensures
