-- The constant's row is not stored, and has no owner; no loop.
-- Any other is set by the call.
use Rattle.bdd.specs.code.Owners.{with_owner}
use Rattle.bdd.specs.code.Rows.{put}
use mathlib.Core.Path.{refl}
use Rattle.sweep_graph.proofs.reference.own_row.Goals as goal

pub returns-then-row-eq0 : goal.returns-then-row-eq0
unfolding with_owner put
returns-then-row-eq0 c = rw c.if-row-eq0.true refl
