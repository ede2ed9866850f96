-- The first vertices, the first file, the second file with its own first literals, as the definition says; no loop.
-- The ANDs of both files are few enough for each to have room.
use Rattle.load_pair.proofs.PairLoading.{by_place, build-ended, left-names, netlist_inputs, none-asked, pair_built, pair-outputs, room-left, same-build, same-outputs, second_built, second-few}
use Rattle.load_pair.specs.code.Pair.{second_of}
use Rattle.netlist_model.proofs.ReadLaws.{holds-names}
use Rattle.netlist_model.specs.code.Accepted.{netlist_of}
use Prim.Native.Nat.{◌+◌}
use mathlib.Core.Path.{ap}
use borrow.Author.Rules.{rules}
use native.Mathlib.Omega.{arith}
use Rattle.load_pair.proofs.build_pair.Goals as goal

pub load_file-requires-clause-room : goal.load_file-requires-clause-room
load_file-requires-clause-room c =
    let s = c.requires in
    (omega (arith, none-asked _ c.start-counts.ensures.result, s.files.ands), omega (arith, s.room.for_literals), omega (arith, s.room.for_outputs))

pub write_second-requires-clause-left : goal.write_second-requires-clause-left
write_second-requires-clause-left c = left-names c.requires.files

pub write_second-requires-clause-right : goal.write_second-requires-clause-right
write_second-requires-clause-right c = holds-names c.requires.files.right

pub load_file-requires-2-clause-room : goal.load_file-requires-2-clause-room
load_file-requires-2-clause-room c =
    let s = c.requires in
    let placed = by_place _ _ _ _ _ (ap (◌+◌ 1) (netlist_inputs _ _)) c.write_by_place.ensures in (
      room-left s.files c.start-counts.ensures.result (same-build _ _ placed c.load_file.ensures.graph),
      omega (arith, s.room.for_literals),
      omega (arith, s.room.for_outputs),
    )

pub returns-clause-result : goal.returns-clause-result
returns-clause-result c =
    let d = netlist_of c.args.left.file.now c.args.left.summary in
    let e = second_of c.args.left.file.now c.args.right.file.now c.args.left.summary c.args.right.summary in
    let i = netlist_inputs c.args.left.file.now c.args.left.summary in
    let placed = by_place _ d _ _ _ (ap (◌+◌ 1) i) c.write_by_place.ensures in
    let named = second_built c.requires.files _ _ _ (rw c.from.ensures at c.write_second.ensures) in
    let one = same-build _ _ placed c.load_file.ensures.graph in
    build-ended (search rules) (pair_built d e i c.start-counts.ensures.result one (same-build _ _ named c.load_file-2.ensures.graph))

pub returns-clause-outputs : goal.returns-clause-outputs
returns-clause-outputs c =
    let d = netlist_of c.args.left.file.now c.args.left.summary in
    let e = second_of c.args.left.file.now c.args.right.file.now c.args.left.summary c.args.right.summary in
    let i = netlist_inputs c.args.left.file.now c.args.left.summary in
    let placed = by_place _ d _ _ _ (ap (◌+◌ 1) i) c.write_by_place.ensures in
    let named = second_built c.requires.files _ _ _ (rw c.from.ensures at c.write_second.ensures) in
    let one = same-build _ _ placed c.load_file.ensures.graph in
    pair-outputs d e i c.start-counts.ensures.result one c.args.working.now.outputs.now (same-outputs _ _ _ _ placed c.load_file.ensures.outputs)
    (same-outputs _ _ _ _ named c.load_file-2.ensures.outputs) c.requires.files.left.within.outputs (second-few c.requires.files)
    (omega (arith, c.requires.room.for_outputs))
