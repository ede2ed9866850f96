-- Whether the vertex is merged, and gone already, decides; no loop.
use Rattle.sweep_graph.proofs.TakeLaws.{handed_long, merged-read, unmerged-read}
use Rattle.sweep_graph.specs.code.Takes.{take_words}
use Rattle.sweep_model.specs.State.{gone?}
use Rattle.sweep_state.specs.code.Sweep.{handed}
use mathlib.Core.Path.{◌∙◌, ap, refl, sym}
use native.Mathlib.Omega.{arith}
use Rattle.sweep_take.proofs.take.take_at.Goals as goal

pub returns-then-is_gone : goal.returns-then-is_gone
unfolding take_words
returns-then-is_gone c =
    let merged = merged-read c.args.s.now.pairs.now c.args.v (ap (λ p. p.0) c.pair-x.ensures) (ap (λ p. p.1) c.pair-x.ensures) c.if-x-y.true in
    let left = ap gone? (sym c.stage.ensures) ∙ sym c.is_gone.ensures ∙ c.if-is_gone.true in
    rw (merged, left) refl

pub set_stage-requires : goal.set_stage-requires
set_stage-requires c =
    rw c.hand_over.ensures (omega (arith, handed_long c.args.v c.pair-x.result.0 (handed c.args.s.now), c.requires.room.stage-within))

pub returns-else-is_gone : goal.returns-else-is_gone
unfolding take_words
returns-else-is_gone c =
    let merged = merged-read c.args.s.now.pairs.now c.args.v (ap (λ p. p.0) c.pair-x.ensures) (ap (λ p. p.1) c.pair-x.ensures) c.if-x-y.true in
    let stays = ap gone? (sym c.stage.ensures) ∙ sym c.is_gone.ensures ∙ c.if-is_gone.false in
    rw (merged, stays, c.set_stage.ensures, c.hand_over.ensures, c.pair-x.ensures) refl

pub returns-else-x-y : goal.returns-else-x-y
unfolding take_words
returns-else-x-y c =
    rw (unmerged-read c.args.s.now.pairs.now c.args.v (ap (λ p. p.0) c.pair-x.ensures) (ap (λ p. p.1) c.pair-x.ensures) c.if-x-y.false) refl
