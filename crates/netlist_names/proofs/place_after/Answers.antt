use Rattle.netlist_model.specs.code.Passing.{place_after}
use Rattle.netlist_names.proofs.Finding.{place_inside, place-next}
use mathlib.Core.Path.{refl}
use native.Mathlib.Omega.{arith}
use Rattle.netlist_names.proofs.place_after.Goals as goal

pub loop-init : goal.loop-init
unfolding place_after
loop-init c = refl

pub line_end-at-requires : goal.line_end-at-requires
line_end-at-requires c =
    let l = c.loop in
    rw l.invariant (place_inside c.args.file.now l.counter c.args.count (omega arith) c.requires)

pub loop-preserved : goal.loop-preserved
loop-preserved c = rw c.line_end-at.ensures (place-next c.args.file.now c.loop.counter c.loop.at c.loop.invariant)
