-- A netlist, and the bytes of its file.
use Rattle.std.specs.Prelude.{◌*◌, ◌+◌, ◌<◌, ◌≤◌, suc, ℕ, get_or, length, List, [], ◌++◌, ◌∷◌, map, ◌⊎◌, ◌≡◌, Option, Some}
use Rattle.netlist_model.specs.Names.{NewNames}
use Rattle.netlist_model.specs.Records.{Line, constraint_line, gate_line, header_line, malformed_line, name_line, operation_bytes, output_line}
use Rattle.netlist_model.specs.declared.Operation.{Operation}
use Rattle.netlist_model.specs.declared.Record.TheVariants as kinds
use Rattle.netlist_model.specs.declared.Record.TheVariants.{Constraint, Output}
use Rattle.netlist_model.specs.declared.Record.{Record}
use Rattle.text.specs.Decimal.{decimal}
use Rattle.text.specs.Split.{join}

-- "Then one line a gate: `G⇥op⇥p⇥q`" (RULES 1.4)
pub record Gate : Type 0 where
  pub op : Operation
  pub p : ℕ
  pub q : ℕ

-- "Vertex 0 is constant false, vertices 1 to inputs are the inputs, gates follow in file order." The names are those of its `I` lines, the
-- constraints the reference of its `C` line, if there is one. (RULES 1.6, 1.12, 1.13)
pub record Netlist : Type 0 where
  pub edition : ℕ
  pub inputs : ℕ
  pub names : List (List ℕ)
  pub gates : List Gate
  pub outputs : List ℕ
  pub constraints : List ℕ

-- "r's reference .., 1 where no line gives it" (RULES 1.13)
abbrev pub constraint_reference : Netlist → ℕ
constraint_reference d = get_or d.constraints 0 1

-- "A gate refers only to vertices below itself.": the gates from vertex v on. (RULES 1.8)
pub data Downward : ℕ → List Gate → Type 0 where
  none : {v : ℕ} → Downward v []
  gate : {v : ℕ} {g : Gate} {gs : List Gate} → g.p < 2 * v → g.q < 2 * v → Downward (suc v) gs → Downward v (g ∷ gs)

-- All references below a bound.
pub data AllBelow : ℕ → List ℕ → Type 0 where
  none : {n : ℕ} → AllBelow n []
  next : {n r : ℕ} {rs : List ℕ} → r < n → AllBelow n rs → AllBelow n (r ∷ rs)

-- "Limits: .. 0 to 64 inputs; 0 to 4,096 gates a file; 1 to 64 outputs", references below their bounds, in edition 2 a name for each input, none of
-- them twice, and at most one constraint. Demand 1 stands on it, so the rules' numbers are written out: a wrong limit in the tests accepts or
-- refuses another file. (RULES 1.8, 1.12, 1.13, 2.1, 12.1)
pub record Within (d : Netlist) : Type 0 where
  pub edition : (d.edition ≡ 1) ⊎ (d.edition ≡ 2)
  pub by_place : d.edition ≡ 1 → d.names ≡ []
  pub by_name : d.edition ≡ 2 → length d.names ≡ d.inputs
  pub names : NewNames [] d.names
  pub inputs : d.inputs ≤ 64
  pub gates : length d.gates ≤ 4096
  pub some : 1 ≤ length d.outputs
  pub outputs : length d.outputs ≤ 64
  pub downward : Downward (1 + d.inputs) d.gates
  pub below : AllBelow (2 * (1 + d.inputs + length d.gates)) d.outputs
  pub constraints : length d.constraints ≤ 1
  pub constraint-below : AllBelow (2 * (1 + d.inputs + length d.gates)) d.constraints

-- The record of a gate. (RULES 1.4)
abbrev pub gate_record : Gate → Option Record
gate_record g = Some (kinds.Gate g.op g.p g.q)

-- The record of an output. (RULES 1.5)
abbrev pub output_record : ℕ → Option Record
output_record r = Some (Output r)

-- The record of a constraint. (RULES 1.13)
abbrev pub constraint_record : ℕ → Option Record
constraint_record r = Some (Constraint r)

-- The records of the gates, then of the outputs, then of the constraint.
unfoldable pub body_records : Netlist → List (Option Record)
body_records d = map gate_record d.gates ++ (map output_record d.outputs ++ map constraint_record d.constraints)

-- "Line 1: `N⇥edition⇥inputs⇥gates⇥outputs`." (RULES 1.3)
abbrev pub header_line_of : Netlist → Line
header_line_of d = header_line d.edition d.inputs (length d.gates) (length d.outputs)

-- "Then one line a gate: `G⇥op⇥p⇥q`" (RULES 1.4)
abbrev pub gate_line_of : Gate → Line
gate_line_of g = gate_line g.op g.p g.q

-- "Then one line a gate .. Then one line an output .., outputs numbered from 0.", "may end with one line `C⇥r`" (RULES 1.4, 1.5, 1.13)
unfoldable pub body_lines : Netlist → List Line
body_lines d = map gate_line_of d.gates ++ (map output_line d.outputs ++ map constraint_line d.constraints)

-- "after line 1, a line `I⇥name` for each input": the lines of a netlist's file. (RULES 1.12)
unfoldable pub netlist_lines : Netlist → List Line
netlist_lines d = header_line_of d ∷ (map name_line d.names ++ body_lines d)

-- "`N⇥edition⇥inputs⇥gates⇥outputs`", "`I⇥name`", "`G⇥op⇥p⇥q`", "`O⇥r`", "`C⇥r`": the fields of a line. A malformed one has none.
-- (RULES 1.3, 1.4, 1.5, 1.12, 1.13)
unfoldable pub fields_of : Line → List (List ℕ)
fields_of (header_line e i g o) = (78 ∷ []) ∷ decimal e ∷ decimal i ∷ decimal g ∷ decimal o ∷ []
fields_of (name_line name) = (73 ∷ []) ∷ name ∷ []
fields_of (gate_line op p q) = (71 ∷ []) ∷ operation_bytes op ∷ decimal p ∷ decimal q ∷ []
fields_of (output_line r) = (79 ∷ []) ∷ decimal r ∷ []
fields_of (constraint_line r) = (67 ∷ []) ∷ decimal r ∷ []
fields_of malformed_line = []

-- "fields parted by one tab (byte 9), each line ended by byte 10" (RULES 1.1)
unfoldable pub line_bytes : Line → List ℕ
line_bytes l = join 9 (fields_of l) ++ 10 ∷ []

-- "Lines of text, one record a line" (RULES 1.1)
unfoldable pub lines_bytes : List Line → List ℕ
lines_bytes [] = []
lines_bytes (l ∷ ls) = line_bytes l ++ lines_bytes ls

-- The file of a netlist.
unfoldable pub bytes_of : Netlist → List ℕ
bytes_of d = lines_bytes (netlist_lines d)
