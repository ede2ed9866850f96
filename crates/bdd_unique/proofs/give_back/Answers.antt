use Rattle.bdd_unique.proofs.ChainLaws.{returning_begins, returning_ends, returning_on, unlinked_one}
use mathlib.Core.Path.{◌∙◌, refl}
use native.Mathlib.Omega.{arith}
use Rattle.bdd_unique.proofs.give_back.Goals as goal

pub loop-store-init : goal.loop-store-init
loop-store-init c =
    let s = c.args.store.now in
    ((refl, refl, refl), returning_begins s.rows.now s.limit s.used c.args.kept c.requires)

pub invariant_of-store : goal.invariant_of-store
invariant_of-store c = record { store = unlinked_one c.loop-store.store.store (omega arith) c.unlink.ensures }

pub loop-store-preserved : goal.loop-store-preserved
loop-store-preserved c =
    let s = c.args.store.now in
    let at = c.loop-store in
    ((at.invariant.0.0, at.invariant.0.1, c.unlink.auto.rows ∙ at.invariant.0.2), returning_on s.rows.now s.limit s.used c.args.kept at.store.rows.now at.store.used at.invariant.1 (omega arith) c.unlink.new.rows (rw at.invariant.0.1 at c.unlink.ensures))

pub returns-clause-given_back : goal.returns-clause-given_back
returns-clause-given_back c =
    let s = c.args.store.now in
    let at = c.loop-store in
    returning_ends s.rows.now s.limit s.used c.args.kept s.store at.store.rows.now at.store.used at.invariant.1 (omega (arith, at.invariant.1.least))
