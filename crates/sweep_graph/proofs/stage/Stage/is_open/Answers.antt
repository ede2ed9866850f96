use Rattle.std.proofs.Common.{inl, inr, refl}
use Rattle.sweep_graph.proofs.StageLaws.{open_not}
use Rattle.sweep_graph.proofs.stage.Stage.is_open.Goals as goal
use Rattle.sweep_model.specs.State.{open?}

pub returns-in-Opened : goal.returns-in-Opened
unfolding open?
returns-in-Opened c = elim c.in-Opened.is [ inl e ↦ rw e refl | inr e ↦ rw e refl ]

pub returns-in_default : goal.returns-in_default
returns-in_default c = open_not c.args.self c.in_default.not-Opened c.in_default.not-Again
