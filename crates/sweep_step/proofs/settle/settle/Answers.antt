-- The size decides; no loop.
-- One law for each way, in every setting of the product.
use Rattle.sweep_step.proofs.SettleModel.{settle_asks, settle_back, settle-drops, settle-meets}
use Rattle.sweep_state.proofs.LongLaws.{kept-put, met-long}
use Rattle.sweep_state.specs.code.Meet.{met_workspace}
use Rattle.sweep_state.specs.code.Sweep.{lent}
use mathlib.Core.Path.{refl}
use Rattle.sweep_step.proofs.settle.settle.Goals as goal

pub drop_vertex-requires-clause-words : goal.drop_vertex-requires-clause-words
drop_vertex-requires-clause-words c =
    let m = c.measure-measured.ensures in
    rw m.same ((settle_back c.requires.ended.ended m.sized).1)

pub returns-then-s-measured-clause-settled : goal.returns-then-s-measured-clause-settled
returns-then-s-measured-clause-settled c = λ x e.
    let m = c.measure-measured.ensures in
    rw (c.drop_vertex.ensures.left, m.same)
    (settle-drops e m.sized (rw m.same at c.if-s-measured.true) (rw m.same at c.drop_vertex.ensures.given_back)
    (rw m.same at c.drop_vertex.ensures.long) refl refl)

pub meet-requires : goal.meet-requires
meet-requires c =
    let m = c.measure-measured.ensures in
    rw m.same (settle_asks c.requires.ended.ended m.sized c.args.s.now.look.now c.requires.long)

pub returns-clause-settled : goal.returns-clause-settled
returns-clause-settled c = λ x e.
    let m = c.measure-measured.ensures in
    rw (c.meet.ensures.left, m.same) (settle-meets e m.sized (rw m.same at c.if-s-measured.false) refl)

pub returns-clause-same : goal.returns-clause-same
returns-clause-same c =
    let m = c.measure-measured.ensures in
    let s = c.args.s.now in
    let size = c.measure-measured.result in
    rw (c.meet.ensures.left, m.same) (
      kept-put s c.meet.new.s.look.now (met_workspace s.task c.args.v c.args.reference size (lent s)) s.used s.steps (rw m.same at c.meet.ensures.long)
          (met-long s.task c.args.v c.args.reference size (lent s)),
      refl,
    )
