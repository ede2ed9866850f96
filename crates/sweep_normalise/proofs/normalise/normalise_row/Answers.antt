-- The row folds or is looked up; no loop.
-- The operands refer to lower vertices, whose rows the slice holds.
use Rattle.sweep_model.specs.Normalise.{folded_row}
use Rattle.sweep_normalise.proofs.NormaliseLaws.{equal-turn, pair-apart, row-folds}
use Rattle.sweep_normalise.proofs.normalise.normalise_row.Goals as goal
use mathlib.Core.Path.{ap, refl}

pub find_again-requires-clause-apart : goal.find_again-requires-clause-apart
find_again-requires-clause-apart c =
    pair-apart c.resolve-a.result.0 c.resolve-b.result.0 c.fold_pair.ensures c.in-Pair.is

pub returns-in-To : goal.returns-in-To
unfolding folded_row
returns-in-To c =
    let e =
    row-folds c.args.s.now.pairs.now c.args.v (ap (λ p. p.0) c.pair-x.ensures) c.resolve-a.ensures (ap (λ p. p.1) c.pair-x.ensures)
    c.resolve-b.ensures c.fold_pair.ensures in
    rw (c.set_pair.ensures, e, c.in-To.is) (record { left = refl; indexed = equal-turn c.requires c.in-To.r.0 refl; long = refl })

pub returns-in-Pair-clause-left : goal.returns-in-Pair-clause-left
unfolding folded_row
returns-in-Pair-clause-left c =
    let e =
    row-folds c.args.s.now.pairs.now c.args.v (ap (λ p. p.0) c.pair-x.ensures) c.resolve-a.ensures (ap (λ p. p.1) c.pair-x.ensures)
    c.resolve-b.ensures c.fold_pair.ensures in
    rw (e, c.in-Pair.is) c.find_again.ensures.left
