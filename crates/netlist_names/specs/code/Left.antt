-- The names that an iterator over names has left.
use Rattle.std.specs.Prelude.{ℕ, List}
use Rattle.netlist_names.specs.code.Walk.{names_from}
use Rattle.netlist_names.specs.declared.Names.{Names}

abbrev pub names_left : Names → List (List ℕ)
names_left s = names_from s.file.now s.at s.left
