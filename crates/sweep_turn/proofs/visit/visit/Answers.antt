-- Whether the vertex is ready decides; no loop.
-- One law for each way, in every context.
use Rattle.std.proofs.lemmas.Result.{err_from_is_err_and}
use Rattle.sweep_turn.proofs.VisitModel.{visit-due, visit-passes, visit-seen, visit-short}
use Rattle.sweep_turn.proofs.visit.visit.Goals as goal

pub multiply-requires-clause-due : goal.multiply-requires-clause-due
multiply-requires-clause-due c = visit-due c.args.v c.args.s.now c.requires.long.0 c.is_ready.ensures c.if-is_ready.true c.requires.scan

pub returns-in_err-seen-clause-visited : goal.returns-in_err-seen-clause-visited
returns-in_err-seen-clause-visited c =
    let p = err_from_is_err_and c.from_residual.result c.from_residual.ensures.1 in
    rw (p.1, p.2)
    (visit-short c.args.v c.args.s.now c.requires.long.0 c.is_ready.ensures c.if-is_ready.true c.multiply.new.s c.in_err-seen.ensures.taken)

pub returns-then-is_ready-clause-visited : goal.returns-then-is_ready-clause-visited
returns-then-is_ready-clause-visited c =
    rw c.after_look.ensures
    (visit-seen c.args.v c.args.s.now c.requires.long.0 c.is_ready.ensures c.if-is_ready.true c.multiply.new.s c.in_ok-seen.seen c.in_ok-seen.ensures.taken)

pub returns-clause-visited : goal.returns-clause-visited
returns-clause-visited c = visit-passes c.args.v c.args.s.now c.requires.long.0 c.is_ready.ensures c.if-is_ready.false
