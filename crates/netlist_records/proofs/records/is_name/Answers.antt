-- The two tests of the length, and then the bytes.
use Rattle.netlist_model.specs.Limits.{max_name}
use Rattle.netlist_model.specs.Records.{letter_or_digit?, name?}
use Rattle.std.proofs.Common.{rules, ◌≤◌, arith, length}
use Rattle.std.proofs.lemmas.Grind.{common_steps}
use Rattle.std.proofs.lemmas.Iterator.{YieldsList-from_slice}
use Rattle.std.proofs.lemmas.Iterator.Search.{all_from_yields_List}
use borrow.Author.Tests.{le-leb}
use Rattle.netlist_records.proofs.records.is_name.Goals as goal

pub returns-then-is_empty : goal.returns-then-is_empty
unfolding name?
returns-then-is_empty c = grind (arith, common_steps)

pub returns : goal.returns
unfolding name?
returns c =
    let some : 1 ≤ length c.args.field.now = grind (arith, common_steps) in
    let few : length c.args.field.now ≤ max_name = omega arith in
    rw (le-leb 1 _ some, le-leb _ max_name few)
    (all_from_yields_List letter_or_digit? _ _ _ c.all.ensures.ran (YieldsList-from_slice c.args.field.now cc) (λ x b q k. search rules))
