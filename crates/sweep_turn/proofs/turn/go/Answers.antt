use Rattle.std.proofs.lemmas.Result.{err_from_is_err_and}
use Rattle.sweep_turn.proofs.GoModel.{turn-asks, turns-begin, turns-end, turns_fall, turns-go-on, turns_stop}
use Rattle.sweep_turn.proofs.turn.go.Goals as goal

pub loop-v-init : goal.loop-v-init
loop-v-init c = turns-begin

pub open-requires-clause-opening : goal.open-requires-clause-opening
open-requires-clause-opening c = turn-asks c.loop-v.invariant c.in-Some.is c.pick.ensures c.requires.rest

pub loop-v-smaller : goal.loop-v-smaller
loop-v-smaller c = turns_fall c.loop-v.invariant c.in-Some.is c.pick.ensures c.open.new.s c.in_ok-open.ensures.opened c.requires.rest

pub loop-v-preserved : goal.loop-v-preserved
loop-v-preserved c =
    turns-go-on c.loop-v.invariant c.in-Some.is c.pick.ensures c.open.new.s c.in_ok-open.ensures.opened c.in_ok-open.ensures.kept

pub returns-in_err-open-clause-went : goal.returns-in_err-open-clause-went
returns-in_err-open-clause-went c =
    let p = err_from_is_err_and c.from_residual.result c.from_residual.ensures.1 in
    rw (p.1, p.2) (turns_stop c.loop-v.invariant c.in-Some.is c.pick.ensures c.open.new.s c.in_err-open.field-0.0 c.in_err-open.ensures.opened)

pub returns-clause-went : goal.returns-clause-went
returns-clause-went c = turns-end c.loop-v.invariant c.in_default.is c.pick.ensures
