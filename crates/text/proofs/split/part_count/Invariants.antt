-- `count` and the parts of what is left are all parts and one more, since the part that is being passed is counted twice.
use Prim.Native.Nat.{◌+◌, ◌≤◌}
use Rattle.text.specs.Split.{split_at}
use lib.ListN.{drop, length}
use mathlib.Core.Path.{◌≡◌}
use Rattle.text.proofs.split.part_count.Given as goal

abbrev pub invariant-loop-b : goal.invariant-loop-b
invariant-loop-b l = (l.count ≤ l.b-index + 1) × (l.count + length (split_at l.stop (drop l.b-index l.s)) ≡ length (split_at l.stop l.s) + 1)
