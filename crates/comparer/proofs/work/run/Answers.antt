-- The rows are copied in, the task is made, the sweep runs in the front of the pairs and of the marks; no loop.
-- One law says that the sweep can be asked, one what its end says.
use Prim.Native.Nat.{◌*◌}
use Rattle.comparer.proofs.RunLaws.{asked, lent-long, posed-few, ran}
use Rattle.sweep_state.specs.code.Meet.{Workspace, workspace}
use Rattle.sweep_state.specs.code.Arrays.{arrays}
use lib.Seq.{length-take-le}
use mathlib.Core.Path.{sym}
use native.Mathlib.Omega.{arith}
use Rattle.comparer.proofs.work.run.Goals as goal

pub slice_bounds-sweep-end : goal.slice_bounds-sweep-end
slice_bounds-sweep-end c =
    let a = c.args in
    lent-long a.table.now.words.now a.output a.limits c.requires.accepted c.requires.known c.requires.within c.task_of-task.result c.task_of-task.ensures
    a.lent.now.pairs.now c.copy_in.new.pairs c.copy_in.ensures

pub slice_bounds-sweep-end-2 : goal.slice_bounds-sweep-end-2
slice_bounds-sweep-end-2 c =
    let a = c.args in
    sym
    (length-take-le (2 * c.task_of-task.result.count) c.copy_in.new.pairs
    (lent-long a.table.now.words.now a.output a.limits c.requires.accepted c.requires.known c.requires.within c.task_of-task.result c.task_of-task.ensures
    a.lent.now.pairs.now c.copy_in.new.pairs c.copy_in.ensures))

pub slice_bounds-sweep-end-7 : goal.slice_bounds-sweep-end-7
slice_bounds-sweep-end-7 c =
    omega (arith, posed-few c.task_of-task.ensures, c.requires.room.marked)

pub slice_bounds-sweep-end-8 : goal.slice_bounds-sweep-end-8
slice_bounds-sweep-end-8 c =
    sym (length-take-le c.task_of-task.result.count c.args.lent.now.marks.now (omega (arith, posed-few c.task_of-task.ensures, c.requires.room.marked)))

pub sweep-requires : goal.sweep-requires
sweep-requires c =
    let a = c.args in
    asked a.table.now.words.now a.output a.limits c.requires.accepted c.requires.known c.requires.within c.task_of-task.result c.task_of-task.ensures
    a.lent.now.pairs.now c.copy_in.new.pairs c.copy_in.ensures a.lent.now
    c.requires.room

pub returns-clause-swept : goal.returns-clause-swept
returns-clause-swept c =
    let a = c.args in
    let l = c.sweep.new in
    let after : Workspace = workspace l.pairs (arrays l.diagrams l.stages l.rows l.marks) in
    ran a.table.now.words.now a.output a.limits c.requires.accepted c.requires.known c.requires.within c.task_of-task.result c.task_of-task.ensures
    a.lent.now.pairs.now c.copy_in.new.pairs c.copy_in.ensures a.lent.now
    c.requires.room after c.sweep.result c.sweep.ensures c.sweep.auto.marks
