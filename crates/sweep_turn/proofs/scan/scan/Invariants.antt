-- Invariant: the scan has come to vertex v, and the model goes on from there as it went from the first.
use Rattle.sweep_turn.proofs.ScanModel.{Scanned}
use Rattle.sweep_turn.proofs.scan.scan.Given as goal

abbrev pub invariant-loop-v : goal.invariant-loop-v
invariant-loop-v l = Scanned l.from l.initial.s l.v l.s
