use Rattle.text.proofs.SplitSteps.{count_end, count_pass, count_stop}
use native.Mathlib.Omega.{arith}
use Rattle.text.proofs.split.part_count.Goals as goal
use Rattle.text.proofs.split.part_count.Goals.{else-b-stop, then-b-stop}

pub loop-b-preserved : goal.loop-b-preserved
loop-b-preserved c =
    let l = c.loop-b in
    let a = c.args in
    elim c.if-b-stop.branch [
      | then-b-stop w ↦ omega (arith, count_stop a.stop a.s.now l.b-index (omega arith) w.if-b-stop.true)
      | else-b-stop w ↦ omega (arith, count_pass a.stop a.s.now l.b-index (omega arith) w.if-b-stop.false)
    ]

pub returns : goal.returns
returns c =
    let l = c.loop-b in
    let a = c.args in
    omega (arith, count_end a.stop a.s.now l.b-index (omega arith), l.invariant)
