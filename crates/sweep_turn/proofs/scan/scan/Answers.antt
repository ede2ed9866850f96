use Rattle.std.proofs.lemmas.Result.{err_from_is_err_and}
use Rattle.sweep_turn.proofs.ScanModel.{scan-ends, scan-goes-on, scan-stops}
use Rattle.sweep_turn.proofs.scan.scan.Goals as goal

pub returns-in_err-visit-clause-scanned : goal.returns-in_err-visit-clause-scanned
returns-in_err-visit-clause-scanned c =
    let p = err_from_is_err_and c.from_residual.result c.from_residual.ensures.1 in
    rw (p.1, p.2) (scan-stops c.loop-v.invariant c.visit.new.s c.in_err-visit.field-0.0 c.loop-v-test.true c.in_err-visit.ensures.visited)

pub loop-v-preserved : goal.loop-v-preserved
loop-v-preserved c = scan-goes-on c.loop-v.invariant c.visit.new.s c.loop-v-test.true c.in_ok-visit.ensures.visited c.in_ok-visit.ensures.kept

pub returns-clause-scanned : goal.returns-clause-scanned
returns-clause-scanned c = scan-ends c.loop-v.invariant c.loop-v-test.false
