use Prim.Native.Nat.{◌+◌}
use Rattle.std.proofs.Common.{arith, refl, rules, subst, ◌≡◌, ◌∙◌, ℕ}
use Rattle.std.proofs.lemmas.Iterator.{YieldsList-from_range, cases_from_all}
use Rattle.std.proofs.lemmas.List.FromFn.{get_or-range_with_len, length-range_with_len}
use Rattle.std.specs.Bool.{⊤}
use Rattle.run_sweep.proofs.InPlaceLaws.{all-downward}
use Rattle.run_sweep.specs.code.Asked.{InPlace}
use borrow.Author.Tests.{tests}
use Rattle.run_sweep.proofs.graph.is_graph.Goals as goal

-- Each vertex that passed is in place.
pub returns : goal.returns
returns c e =
    let a = c.args in
    let each = rw e at
    (cases_from_all _ _ _ (λ v. InPlace a.first v a.pairs.now) (λ v. ⊤) c.all.ensures.ran (YieldsList-from_range 0 a.count a.count refl (omega arith))
    (λ x q k. search (rules, tests)) (λ x q k. tt)) in
    all-downward a.first a.pairs.now a.count c.requires.long c.requires.within
    (λ v l.
    let same : 0 + v ≡ v = omega arith in
    subst (λ (w : ℕ). InPlace a.first w a.pairs.now) (get_or-range_with_len 0 a.count v 0 l ∙ same)
    (each v 0 (omega arith) (rw (length-range_with_len 0 a.count) l)))
