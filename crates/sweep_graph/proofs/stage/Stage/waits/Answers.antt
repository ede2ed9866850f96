use Rattle.std.proofs.Common.{inl, inr, refl}
use Rattle.sweep_graph.proofs.StageLaws.{waits_not}
use Rattle.sweep_graph.proofs.stage.Stage.waits.Goals as goal
use Rattle.sweep_model.specs.State.{waits?}

pub returns-in-Waiting : goal.returns-in-Waiting
unfolding waits?
returns-in-Waiting c = elim c.in-Waiting.is [ inl e ↦ rw e refl | inr e ↦ rw e refl ]

pub returns-in_default : goal.returns-in_default
returns-in_default c = waits_not c.args.self c.in_default.not-Waiting c.in_default.not-Again
