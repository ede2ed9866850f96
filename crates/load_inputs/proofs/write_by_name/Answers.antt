-- The literals of the names passed are written; no more are written than there is room for.
use Rattle.load_inputs.proofs.Naming.{named-ends, named_length, place-most, place-told}
use Rattle.netlist_names.proofs.Finding.{names_count}
use Rattle.netlist_names.specs.code.Left.{names_left}
use Rattle.std.proofs.Common.{ap, arith, length}
use Rattle.words.proofs.Writing.{writing-turn, writing_begins}
use lib.ListN.{length-set}
use Rattle.load_inputs.proofs.write_by_name.Goals as goal

pub loop-k-init : goal.loop-k-init
loop-k-init c =
    rw (c.into_iter-k-iterator.ensures.into_iter_gives, c.enumerate-k-items.ensures.source, c.enumerate-k-items.ensures.count)
    (writing_begins _ 1 _, omega (arith, names_count c.args.right))

pub overflow_add-literals : goal.overflow_add-literals
overflow_add-literals c =
    let s = c.in-Some.ensures.steps in
    omega (
      arith,
      place-most (names_left c.args.left) (names_count c.args.left) _ c.find_name.ensures c.unwrap_or-place.ensures,
      s.1,
      ap length s.0,
      c.loop-k.invariant.1,
      c.requires,
    )

pub overflow_mul-literals : goal.overflow_mul-literals
overflow_mul-literals c =
    let s = c.in-Some.ensures.steps in
    omega (
      arith,
      place-most (names_left c.args.left) (names_count c.args.left) _ c.find_name.ensures c.unwrap_or-place.ensures,
      s.1,
      ap length s.0,
      c.loop-k.invariant.1,
      c.requires,
    )

pub loop-k-preserved : goal.loop-k-preserved
loop-k-preserved c =
    let s = c.in-Some.ensures.steps in
    let told = place-told (names_left c.args.left) (names_count c.args.left) _ c.find_name.ensures c.unwrap_or-place.ensures in (
      rw (s.1, s.2, told)
          (writing-turn (rw s.0 at c.loop-k.invariant.0)
          (omega (arith, ap length s.0, c.loop-k.invariant, named_length c.loop-k.invariant.0, length-set c.args.literals.now 0 0, c.requires))),
      omega (arith, s.2, ap length s.0, c.loop-k.invariant.1),
    )

pub returns : goal.returns
returns c =
    named-ends (names_left c.args.left) (names_left c.args.right) c.args.literals.now (omega (arith, c.requires.2))
    (rw c.in-None.ensures.steps.0.0 at c.loop-k.invariant.0)
