-- The product of the values of the two literals, each 0 or 1.
use Rattle.evaluate_model.proofs.NumberLaws.{numbers, read}
use Rattle.std.proofs.Common.{arith}
use Rattle.evaluate.proofs.values.row_value.Goals as goal

pub overflow_mul-result : goal.overflow_mul-result
overflow_mul-result c =
    let below = c.requires.row_below in
    let p = rw c.row.ensures.first at c.literal_value.ensures in
    let q = rw c.row.ensures.second at c.literal_value-2.ensures in
    let x = read _ _ _ _ below.first c.requires.bits p in
    let y = read _ _ _ _ below.second c.requires.bits q in
    omega (arith, numbers.good-both _ _ x.bound y.bound)
