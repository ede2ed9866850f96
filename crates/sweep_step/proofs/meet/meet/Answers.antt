-- The twin is read before the diagram is drawn, and decides; no loop.
-- One law for each way.
use Rattle.sweep_merge.proofs.MeetLaws.{meet-asks}
use Rattle.sweep_state.specs.code.Meet.{Workspace, merged_workspace}
use Rattle.sweep_state.specs.code.Sweep.{lent, put_lent, put_look}
use Rattle.sweep_state.specs.declared.sweep.Sweep.{Sweep}
use Rattle.sweep_step.proofs.MeetModel.{meet-single, meet-twin}
use mathlib.Core.Path.{◌∙◌, ap, refl, sym}
use Rattle.sweep_step.proofs.meet.meet.Goals as goal

pub merge-requires : goal.merge-requires
merge-requires c = rw c.draw.ensures (meet-asks c.requires refl c.in-Some.w (sym c.find_twin-twin.ensures ∙ c.in-Some.is))

pub returns-in-Some-clause-left : goal.returns-in-Some-clause-left
returns-in-Some-clause-left c =
    let look = c.merge.new.s.look.now in
    c.merge.ensures.left
    ∙ ap (λ (z : Sweep). put_look look (put_lent (merged_workspace z.task c.args.v c.in-Some.w (lent z)) z)) c.draw.ensures
    ∙ ap (λ (b : Workspace). put_look look (put_lent b c.args.s.now)) (meet-twin c.args.s.now.task c.args.v c.args.reference c.args.size (lent c.args.s.now) (sym c.find_twin-twin.ensures ∙ c.in-Some.is))

pub returns-in_default-clause-left : goal.returns-in_default-clause-left
returns-in_default-clause-left c =
    rw c.draw.ensures
    (ap (λ (b : Workspace). put_look c.args.s.now.look.now (put_lent b c.args.s.now)) (meet-single c.args.s.now.task c.args.v c.args.reference c.args.size (lent c.args.s.now) (sym c.find_twin-twin.ensures ∙ c.in_default.is)))
