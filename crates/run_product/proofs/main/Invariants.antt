-- The invariant: no row is in use under the limit of the card before.
use Rattle.std.proofs.Common.{length, ◌≡◌}
use Rattle.bdd.specs.code.Store.{Store}
use Rattle.run_product.proofs.main.Given as goal

abbrev pub invariant-loop-card : goal.invariant-loop-card
invariant-loop-card l = Store l.rows l.limit 0 × (4096 ≡ length l.rows)
