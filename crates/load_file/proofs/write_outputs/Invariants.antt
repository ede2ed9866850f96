-- Invariant: the literals of the references passed are written, and those of the others are ahead.
use Rattle.load_file.proofs.Passing.{OutputsFrom}
use Rattle.std.proofs.Common.{◌+◌, ◌≡◌}
use Rattle.load_file.proofs.write_outputs.Given as goal

abbrev pub invariant-loop-k : goal.invariant-loop-k
invariant-loop-k l =
    OutputsFrom l.file l.start l.literals l.initial.outputs l.from l.k-iterator.a.end l.k-iterator.b.at l.k-iterator.a.start l.outputs
    × (l.k-iterator.b.file.now ≡ l.file)
    × (l.k-iterator.a.end ≡ l.from + l.count)
