use Rattle.bdd_unique.proofs.ChainLaws.{cleared, emptied_more}
use Rattle.bdd_unique.specs.code.Unique.{Cleared, emptied}
use mathlib.Core.Path.{◌≡◌, refl}
use native.Mathlib.Omega.{arith}
use Rattle.bdd_unique.proofs.clear.Goals as goal
use Rattle.bdd_unique.proofs.clear.Goals.{After-loop-b}

pub loop-b-init : goal.loop-b-init
unfolding emptied
loop-b-init c = refl

pub loop-b-preserved : goal.loop-b-preserved
loop-b-preserved c = emptied_more c.args.rows.now c.loop-b.b c.loop-b.invariant c.put_word.ensures

-- Every bucket is empty after the loop.
whole : (c : After-loop-b) → Cleared c.args.rows.now c.loop-b.rows c.args.limit
whole c =
    let all : c.loop-b.b ≡ c.args.limit = omega arith in
    cleared c.args.rows.now c.args.limit c.requires c.loop-b.rows (rw (← all) c.loop-b.invariant)

pub invariant_of-result : goal.invariant_of-result
invariant_of-result c = record { store = (whole c).store }

pub returns-clause-cleared : goal.returns-clause-cleared
returns-clause-cleared c = whole ((goal.at.returns-clause-cleared c).After-loop-b)
