-- The graph is swept and what came is printed.
-- One law says that the sweep can be asked, one what its end says of the words.
use Rattle.compare_reply.proofs.SettingLaws.{followed}
use Rattle.std.proofs.Common.{arith, rules}
use Rattle.run_sweep.proofs.AskedLaws.{asked, closed}
use Rattle.run_sweep.proofs.show_sweep.Goals as goal

pub sweep-ended-requires : goal.sweep-ended-requires
sweep-ended-requires g c =
    let s = c.args.slices.now in
    asked c.args.task s.pairs c.requires s.look s.diagrams s.stages s.rows _ (search rules) (search rules) (search rules) (search rules) (search rules)

pub show_reply-requires-clause-followed : goal.show_reply-requires-clause-followed
show_reply-requires-clause-followed g c =
    let e = closed _ _ c.requires c.sweep-ended.ensures in
    followed e.store c.args.task.inputs c.sweep-ended.result.end e.refers

pub show_reply-requires-clause-counted : goal.show_reply-requires-clause-counted
show_reply-requires-clause-counted g c =
    let e = closed _ _ c.requires c.sweep-ended.ensures in
    (omega (arith, e.fitted, c.requires.limited.rows.1), omega (arith, e.counted, c.requires.limited.steps.1))
