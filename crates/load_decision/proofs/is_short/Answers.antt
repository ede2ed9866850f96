-- Each test is one of the definition's; no loop.
use Rattle.load_model.specs.Load.{short_slice?}
use Rattle.std.proofs.lemmas.Bool.Decides.{nat_tests}
use native.Mathlib.Omega.{arith}
use Rattle.load_decision.proofs.is_short.Goals as goal

pub returns-then-lengths-lt-WORKING_ROOM-3 : goal.returns-then-lengths-lt-WORKING_ROOM-3
unfolding short_slice?
returns-then-lengths-lt-WORKING_ROOM-3 c = grind (arith, nat_tests)

pub returns-else-lengths-lt-WORKING_ROOM-3 : goal.returns-else-lengths-lt-WORKING_ROOM-3
unfolding short_slice?
returns-else-lengths-lt-WORKING_ROOM-3 c = grind (arith, nat_tests)
