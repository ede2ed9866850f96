use Prim.Native.Nat.{◌+◌, ◌-◌}
use Rattle.std.proofs.Common.{◌≡◌, arith}
use Rattle.bdd.proofs.WalksLaws.{walks_down}
use Rattle.run_product.proofs.values.value.Goals as goal

pub loop-i-preserved : goal.loop-i-preserved
loop-i-preserved c =
    let less : c.args.inputs - (c.loop-i.i + 1) ≡ c.args.inputs - c.loop-i.i - 1 = omega arith in
    rw less (walks_down c.loop-i.invariant (omega arith) _ c.cofactor_of-e.ensures)
