-- Equal halves need no row; a row found or added holds the edges, the low one not inverted.
-- No loop.
use Rattle.bdd_unique.proofs.MakeLaws.{Edges, MakeAsked, added_one, make_added, make_found, make_full, make_row, make_same}
use mathlib.Core.Path.{refl}
use Rattle.bdd_unique.proofs.make.Goals as goal
use Rattle.bdd_unique.proofs.make.Goals.{After-edge_to-b, Start}

-- What the call is given.
begun : (c : Start) → let s = c.args.store.now in MakeAsked s.rows.now s.limit s.used c.args.level c.args.low c.args.high
begun c =
    record { store = c.args.store.now.store; deep = c.requires.level.0; small = c.requires.level.1; low = c.requires.low; high = c.requires.high }

-- The edges of the row.
edges : (c : After-edge_to-b) → Edges c.args.low c.args.high c.edge_to-a.result c.edge_to-b.result
edges c = record { differ = c.if-low-high.false; low = c.edge_to-a.ensures; high = c.edge_to-b.ensures }

pub returns-then-low-high-clause-made : goal.returns-then-low-high-clause-made
returns-then-low-high-clause-made c =
    make_same (begun ((goal.at.returns-then-low-high-clause-made c).Start)) c.if-low-high.true

pub find-requires : goal.find-requires
find-requires c =
    let at = goal.at.find-requires c in
    make_row (begun at.Start) (edges at.After-edge_to-b)

pub returns-in-Some-clause-made : goal.returns-in-Some-clause-made
returns-in-Some-clause-made c =
    let at = goal.at.returns-in-Some-clause-made c in
    make_found (begun at.Start) (edges at.After-edge_to-b) c.in-Some.ensures c.edge_to.ensures

pub returns-then-used-store-clause-made : goal.returns-then-used-store-clause-made
returns-then-used-store-clause-made c =
    let at = goal.at.returns-then-used-store-clause-made c in
    (make_full (begun at.Start) (edges at.After-edge_to-b) c.in_default.ensures c.if-used-store.true, refl)

pub add-requires-clause-row : goal.add-requires-clause-row
add-requires-clause-row c =
    let at = goal.at.add-requires-clause-row c in
    make_row (begun at.Start) (edges at.After-edge_to-b)

pub invariant_of-store : goal.invariant_of-store
invariant_of-store c =
    let at = goal.at.invariant_of-store c in
    record { store = added_one (begun at.Start) (edges at.After-edge_to-b) c.in_default.ensures c.if-used-store.false c.add.ensures }

pub returns-clause-made : goal.returns-clause-made
returns-clause-made c =
    let at = goal.at.returns-clause-made c in
    make_added (begun at.Start) (edges at.After-edge_to-b) c.in_default.ensures c.if-used-store.false c.add.ensures c.edge_to-2.ensures
