-- The look-up's answer decides, one law for each; no loop.
-- Either way the look-up holds the row that is written.
use Rattle.aig.proofs.FirstVertexLaws.{found_at}
use Rattle.sweep_normalise.proofs.NormaliseLaws.{entered-turn, found_turn}
use Rattle.sweep_state.specs.code.Sweep.{put_pairs}
use mathlib.Core.Path.{◌∙◌, ap, refl, sym}
use native.Mathlib.Omega.{arith}
use Rattle.sweep_normalise.proofs.normalise.find_again.Goals as goal

pub new-r-requires : goal.new-r-requires
new-r-requires c =
    let here = found_at c.args.s.now.pairs.now c.args.p c.args.q c.args.v c.in-Some.u (sym c.find.ensures ∙ c.in-Some.is) in
    omega (arith, here.within, c.requires.turn.few)

pub returns-in-Some : goal.returns-in-Some
returns-in-Some c =
    let t = found_turn c.requires.turn c.args.p c.args.q c.in-Some.u (sym c.find.ensures ∙ c.in-Some.is) c.new-r.ensures refl in
    rw c.set_pair.ensures (record { left = ap (λ l. put_pairs l c.args.s.now) t.0; indexed = t.1; long = refl })

pub returns-in-None-clause-left : goal.returns-in-None-clause-left
returns-in-None-clause-left c =
    let t = entered-turn c.requires.turn c.args.p c.args.q c.requires.apart (sym c.find.ensures ∙ c.in-None.is) refl refl in
    rw (c.set_pair-in-None.ensures, ← t.0) refl

pub returns-in-None-clause-indexed : goal.returns-in-None-clause-indexed
returns-in-None-clause-indexed c =
    let t = entered-turn c.requires.turn c.args.p c.args.q c.requires.apart (sym c.find.ensures ∙ c.in-None.is) refl refl in
    rw (c.enter.ensures, c.set_pair-in-None.ensures) t.1
