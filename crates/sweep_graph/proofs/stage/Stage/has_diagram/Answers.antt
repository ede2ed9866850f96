use Rattle.std.proofs.Common.{inl, inr, refl}
use Rattle.sweep_graph.proofs.StageLaws.{has_not}
use Rattle.sweep_graph.proofs.stage.Stage.has_diagram.Goals as goal
use Rattle.sweep_model.specs.State.{has?}

pub returns-in-Waiting : goal.returns-in-Waiting
unfolding has?
returns-in-Waiting c = elim c.in-Waiting.is [ inl e ↦ rw e refl | inr (inl e) ↦ rw e refl | inr (inr e) ↦ rw e refl ]

pub returns-in_default : goal.returns-in_default
returns-in_default c = has_not c.args.self c.in_default.not-Waiting c.in_default.not-Opened c.in_default.not-Again
