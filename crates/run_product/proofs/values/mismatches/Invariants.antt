-- At most 128 vertices differ on each setting.
use Prim.Native.Nat.{◌*◌, ◌≤◌}
use Rattle.run_product.proofs.values.mismatches.Given as goal

abbrev pub invariant-loop-setting : goal.invariant-loop-setting
invariant-loop-setting l = l.wrong ≤ 128 * l.setting
