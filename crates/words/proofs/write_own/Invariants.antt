-- The words of the vertices below v are written, and the others are ahead.
use Prim.Native.Nat.{◌*◌, ◌-◌}
use Rattle.aig.specs.Lookup.{own_words}
use Rattle.words.proofs.Writing.{Writing}
use Rattle.words.proofs.write_own.Given as goal

abbrev pub invariant-loop-v : goal.invariant-loop-v
invariant-loop-v l = Writing l.initial.pairs 0 (own_words 0 l.count) l.pairs (2 * l.v) (own_words l.v (l.count - l.v))
