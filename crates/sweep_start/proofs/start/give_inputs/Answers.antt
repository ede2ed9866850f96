-- Whether every input got its row decides; no loop.
-- One law for each answer, for all functions and entry rows.
use Rattle.sweep_start.proofs.BeginModel.{given-goes, given_looks, given-short, giving_framed}
use Rattle.sweep_state.specs.code.Sweep.{lent}
use Rattle.sweep_start.proofs.start.give_inputs.Goals as goal

pub give_rows-requires : goal.give_rows-requires
give_rows-requires c = rw c.requires.counts.0 (giving_framed c.requires.giving)

pub look-requires : goal.look-requires
look-requires c =
    let s = c.args.s.now in
    let after = c.give_rows.new.s in
    rw c.in-Ok.ensures.left
    (given_looks s.task (lent s) (lent after).arrays after.used (rw c.requires.counts.0 at c.in-Ok.ensures.given) c.requires.giving)

pub returns-in-Ok-clause-given : goal.returns-in-Ok-clause-given
returns-in-Ok-clause-given c =
    let s = c.args.s.now in
    let after = c.give_rows.new.s in
    rw (c.after_look.ensures, c.in-Ok.ensures.left, c.requires.counts.1)
    (given-goes s.task (lent s) (lent after).arrays after.used (rw c.requires.counts.0 at c.in-Ok.ensures.given) c.look.result
    (rw c.in-Ok.ensures.left at c.look.ensures))

pub returns-in-Err-clause-given : goal.returns-in-Err-clause-given
returns-in-Err-clause-given c =
    let s = c.args.s.now in
    let after = c.give_rows.new.s in
    rw (c.ended.ensures, c.in-Err.ensures.left, c.requires.counts.1)
    (given-short s.task (lent s) (lent after).arrays c.in-Err.v after.used (rw c.requires.counts.0 at c.in-Err.ensures.given))
