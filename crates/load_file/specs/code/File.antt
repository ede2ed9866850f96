-- A file's lines as they are passed: the gate or the output of the line that is due.
use Rattle.std.specs.Prelude.{◌*◌, ◌+◌, ◌<◌, ◌≤◌, ℕ, drop, length, List, [], ◌++◌, ◌∷◌, map, ◌≡◌}
use Rattle.aig.specs.Literal.{vertex_of}
use Rattle.load_graph.specs.code.Slices.{traced_of}
use Rattle.load_graph.specs.declared.Builder.{Builder}
use Rattle.load_model.specs.Build.{FileBuilt, Traced, ask_gates}
use Rattle.netlist_model.specs.Check.{ands_of, constraints_in, gates_in, outputs_in}
use Rattle.netlist_model.specs.Meaning.{and_count}
use Rattle.netlist_model.specs.Netlist.{AllBelow, Downward, Gate, constraint_record, gate_record, output_record}
use Rattle.netlist_model.specs.Records.{record_of}
use Rattle.netlist_model.specs.code.Passing.{file_records}
use Rattle.table.specs.Limits.{max_ands}
use Rattle.text.specs.Split.{up_to}

-- The literals of a file's first n vertices, in their slice, and the graph.
abbrev pub trace : List ℕ → ℕ → Builder → Traced
trace literals n graph = traced_of literals n graph.pairs.now graph.counts

-- A file's output literals and then that of its constraint.
abbrev pub with_constraint : FileBuilt → List ℕ
with_constraint f = f.outputs ++ (f.constraint ∷ [])

-- The gates of the line that starts at a place: one, or none.
abbrev pub line_gates : List ℕ → ℕ → List Gate
line_gates file at = gates_in (record_of (up_to 10 (drop at file)) ∷ [])

-- The line that starts at a place is a gate's, the gate is the file's vertex v, and there is room for its ANDs.
pub record GateLine (file : List ℕ) (at v asked : ℕ) : Type 0 where
  pub gate : Gate
  pub inside : at ≤ length file
  pub this : record_of (up_to 10 (drop at file)) ≡ gate_record gate
  pub first_below : gate.p < 2 * v
  pub second_below : gate.q < 2 * v
  pub room : asked + ands_of gate.op ≤ max_ands

-- The line that starts at a place is an output's, and its reference names one of n vertices.
pub record OutputLine (file : List ℕ) (at n : ℕ) : Type 0 where
  pub reference : ℕ
  pub inside : at ≤ length file
  pub this : record_of (up_to 10 (drop at file)) ≡ output_record reference
  pub below : vertex_of reference < n

-- The lines from a place on are those of as many gates as are counted, the first of them the file's vertex v, and those of outputs and
-- constraints.
pub record GatesAhead (file : List ℕ) (at count v asked : ℕ) : Type 0 where
  pub gates : List Gate
  pub outputs : List ℕ
  pub constraints : List ℕ
  pub inside : at ≤ length file
  pub records : file_records (drop at file) ≡ map gate_record gates ++ (map output_record outputs ++ map constraint_record constraints)
  pub counted : length gates ≡ count
  pub downward : Downward v gates
  pub room : asked + and_count gates ≤ max_ands

-- The gates from a place on are asked for, and the outputs and constraints after them are ahead.
pub record GatesPassed (file : List ℕ) (start : ℕ) (before after : Traced) (at : ℕ) : Type 0 where
  pub asked : after ≡ ask_gates before (gates_in (file_records (drop start file)))
  pub inside : at ≤ length file
  pub records : file_records (drop at file)
      ≡ map output_record (outputs_in (file_records (drop start file))) ++ map constraint_record (constraints_in (file_records (drop start file)))

-- The lines from a place on are those of as many outputs as are counted, whose references name some of n vertices, and those of constraints.
pub record OutputsAhead (file : List ℕ) (at count n : ℕ) : Type 0 where
  pub references : List ℕ
  pub constraints : List ℕ
  pub inside : at ≤ length file
  pub records : file_records (drop at file) ≡ map output_record references ++ map constraint_record constraints
  pub counted : length references ≡ count
  pub below : AllBelow (2 * n) references
