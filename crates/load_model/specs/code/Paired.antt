-- A file loaded with literals that its first vertices are given.
use Rattle.std.specs.Prelude.{◌*◌, ◌+◌, ℕ, eqb, cond, List, ◌∷◌, map}
use Rattle.load_model.specs.Build.{Build, FileBuilt, ask_gates, literal_for, literals_from}
use Rattle.netlist_model.specs.Limits.{by_name_edition}
use Rattle.netlist_model.specs.Names.{place_of}
use Rattle.netlist_model.specs.Netlist.{Netlist, constraint_reference}

-- Its outputs, its constraint and the graph after it.
unfoldable pub build_from : List ℕ → Build → Netlist → FileBuilt
build_from literals b d =
    let t = ask_gates (record { literals = literals; build = b }) d.gates in
    record {
      outputs = map (literal_for t.literals) d.outputs;
      constraint = literal_for t.literals (constraint_reference d);
      build = t.build;
    }

-- The literals of the constant and of inputs with these names, where the first file's inputs have those.
unfoldable pub named_literals : List (List ℕ) → List (List ℕ) → List ℕ
named_literals names others = 0 ∷ map (λ name. 2 * (1 + place_of name names)) others

-- The literals of the second file's first vertices, by the edition, the number of inputs and the names of both files.
unfoldable pub second_literals : ℕ → ℕ → List (List ℕ) → List (List ℕ) → List ℕ
second_literals edition inputs names others = cond (eqb edition by_name_edition) (named_literals names others) (literals_from 0 (1 + inputs))
