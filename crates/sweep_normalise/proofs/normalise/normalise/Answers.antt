use Rattle.sweep_normalise.proofs.NormaliseLaws.{pass-begins, pass_ends, pass-goes-on, pass_turns}
use Rattle.sweep_normalise.proofs.normalise.normalise.Goals as goal
use mathlib.Core.Path.{◌∙◌, refl}

pub loop-v-init : goal.loop-v-init
loop-v-init c = record { pass = pass-begins c.requires.graph c.args.s.now.look.now c.requires.room c.clear.ensures; rest = refl; long = refl }

pub normalise_row-requires : goal.normalise_row-requires
normalise_row-requires c =
    rw c.loop-v.invariant.rest (pass_turns c.requires.graph c.loop-v.invariant.pass c.loop-v-test.true)

pub loop-v-preserved : goal.loop-v-preserved
loop-v-preserved c =
    let e = c.normalise_row.ensures.left in
    let i = rw (e, c.loop-v.invariant.rest) at c.normalise_row.ensures.indexed in
    rw (e, c.loop-v.invariant.rest)
    (record {
      pass = pass-goes-on c.requires.graph c.loop-v.invariant.pass c.loop-v-test.true i;
      rest = refl;
      long = c.normalise_row.ensures.long ∙ c.loop-v.invariant.long;
    })

pub returns-clause-left : goal.returns-clause-left
returns-clause-left c =
    rw (← pass_ends c.requires.graph c.loop-v.invariant.pass c.loop-v-test.false) c.loop-v.invariant.rest
