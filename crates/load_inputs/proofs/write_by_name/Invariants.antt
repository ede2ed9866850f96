-- The invariant: the literals of the constant and of the names passed are written, and those of the names left are ahead.
use Rattle.load_inputs.proofs.Naming.{literal_of}
use Rattle.netlist_names.specs.code.Left.{names_left}
use Rattle.std.proofs.Common.{◌+◌, ◌≡◌, length, map}
use Rattle.words.proofs.Writing.{Writing}
use Rattle.load_inputs.proofs.write_by_name.Given as goal

abbrev pub invariant-loop-k : goal.invariant-loop-k
invariant-loop-k l =
    Writing l.initial.literals 1 (map (literal_of (names_left l.left)) (names_left l.right)) l.literals (l.k-iterator.count + 1)
    (map (literal_of (names_left l.left)) (names_left l.k-iterator.iter))
    × (l.k-iterator.count + length (names_left l.k-iterator.iter) ≡ l.right.left)
