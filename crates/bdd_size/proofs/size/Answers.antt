-- The marks count the rows that are reached, and wiping leaves every word as it was.
-- No loop.
use Prim.Native.Nat.{◌/◌}
use Rattle.bdd_size.proofs.MarkLaws.{wipe_asks}
use Rattle.bdd_size.proofs.SizeLaws.{sized}
use Rattle.bdd_size.specs.code.Marks.{Sized}
use native.Mathlib.Omega.{arith}
use Rattle.bdd_size.proofs.size.Goals as goal
use Rattle.bdd_size.proofs.size.Goals.{After-wipe}

pub wipe-requires : goal.wipe-requires
wipe-requires c =
    let s = c.args.store.now in
    wipe_asks s.rows.now c.mark-count.new.rows s.used (c.args.r / 2) c.mark-count.result s.store.canonical c.requires (omega (arith, s.store.room.used, s.store.room.long)) s.store.unmarked c.mark-count.ensures

-- What is known once the marks are wiped.
whole : (c : After-wipe) → Sized c.args.store.now.rows.now c.wipe.new.rows c.args.r c.mark-count.result
whole c =
    let s = c.args.store.now in
    sized s.rows.now c.mark-count.new.rows c.wipe.new.rows s.limit s.used c.args.r c.mark-count.result s.store c.requires c.mark-count.ensures c.wipe.ensures

pub invariant_of-store : goal.invariant_of-store
invariant_of-store c = record { store = rw (whole ((goal.at.invariant_of-store c).After-wipe)).same c.args.store.now.store }

pub returns-clause-sized : goal.returns-clause-sized
returns-clause-sized c = whole ((goal.at.returns-clause-sized c).After-wipe)
