-- A file read line by line: the tests 2 to 6 and 18, and the netlist that an accepted file holds. (RULES 9.1)
use Rattle.std.specs.Prelude.{◌*◌, ◌+◌, ℕ, eqb, leb, ltb, Bool, ◌&&◌, ◌||◌, cond, false, not, true, List, [], ◌++◌, ◌∷◌, Option, None, Some, Result, Err, Ok}
use Rattle.netlist_model.specs.Limits.{by_name_edition, by_place_edition, edition_of, max_gates, number_of_edition}
use Rattle.netlist_model.specs.Names.{among?, name_count}
use Rattle.netlist_model.specs.Netlist as netlist
use Rattle.netlist_model.specs.Netlist.{Netlist}
use Rattle.netlist_model.specs.Records.{Line, file_lines, kind_of, name_line, records_in}
use Rattle.netlist_model.specs.declared.Body.{Body}
use Rattle.netlist_model.specs.declared.Due.TheVariants.{First, Later}
use Rattle.netlist_model.specs.declared.Due.{Due}
use Rattle.netlist_model.specs.declared.Rejected.{Rejected}
use Rattle.netlist_model.specs.declared.Summary.{Summary}
use Rattle.netlist_model.specs.declared.Operation.TheVariants.{And, Or, Xor}
use Rattle.netlist_model.specs.declared.Operation.{Operation}
use Rattle.netlist_model.specs.declared.Record.TheVariants.{Constraint, Gate, Header, Name, Output}
use Rattle.netlist_model.specs.declared.Record.{Record}
use Rattle.netlist_model.specs.declared.Role.TheVariants as role
use Rattle.netlist_model.specs.declared.Role.TheVariants.{Second}
use Rattle.netlist_model.specs.declared.Role.{Role}
use Rattle.refusal.specs.Number.{number_of}
use Rattle.table.specs.Limits.{max_inputs, max_outputs}
use Rattle.table.specs.Refusals.{Test, first_refusal}

-- "`and` and `or` stand for one AND each", "`xor` stands for three ANDs" (RULES 1.9, 2.2)
abbrev pub ands_of : Operation → ℕ
ands_of And = 1
ands_of Or = 1
ands_of Xor = 3

-- "2. The line is not an N, I, G, O or C record of this layout or has no end byte.": whether it is one. (RULES 8.1)
unfoldable pub formed? : Option Record → Bool
formed? None = false
formed? (Some r) = true

-- "5. The line is .. not of the kind due there": whether it is the header that is due in line 1. (RULES 8.1)
unfoldable pub header? : Option Record → Bool
header? (Some (Header e i g o)) = true
header? _ = false

-- "or a second file of another edition": whether the edition is that of the first file. A first file may have either. (RULES 8.1)
abbrev pub suits? : Role → ℕ → Bool
suits? role.First e = true
suits? (Second first) e = eqb e first

-- "3 now means an edition other than 1 or 2, or a second file of another edition": whether it is neither. (RULES 8.1)
unfoldable pub known? : Role → Option Record → Bool
known? role (Some (Header e i g o)) = (eqb e by_place_edition || eqb e by_name_edition) && suits? role e
known? role _ = false

-- "4. A count in line 1 is beyond its limit.": whether none is. (RULES 8.1)
unfoldable pub limited? : Option Record → Bool
limited? (Some (Header e i g o)) = leb i max_inputs && leb g max_gates && leb 1 o && leb o max_outputs
limited? _ = false

-- "Within line 1 the order is 2, 5, 3, 4" (RULES 9.2)
abbrev pub first_tests : Role → Option Record → List (Test ℕ)
first_tests role r =
    record { answer = 2; applies = not (formed? r) }
    ∷ record { answer = 5; applies = not (header? r) }
    ∷ record { answer = 3; applies = not (known? role r) }
    ∷ record { answer = 4; applies = not (limited? r) }
    ∷ []

-- "5. The line is .. extra, or not of the kind due there": whether it is a name's and names are left, a gate's and only gates and outputs
-- are, an output's and only outputs are, or a constraint's, where one may still come, and none of these are. (RULES 1.13, 8.1)
abbrev pub due? : Body → Option Record → Bool
due? b (Some Name) = ltb b.name b.names
due? b (Some (Gate op p q)) = eqb b.name b.names && ltb b.gate b.gates
due? b (Some (Output r)) = eqb b.name b.names && eqb b.gate b.gates && ltb b.output b.outputs
due? b (Some (Constraint r)) =
    eqb b.name b.names && eqb b.gate b.gates && eqb b.output b.outputs && ltb b.constraint b.constraints
due? b (Some (Header e i g o)) = false
due? b None = false

-- "6. A reference is not below twice its gate's vertex number or, in an output, twice the number of vertices.": whether all are; a name's
-- line has none. "refusals 6 and 11 cover r as they do an output" (RULES 1.13, 8.1)
abbrev pub below? : Body → Option Record → Bool
below? b (Some (Gate op p q)) = ltb p (2 * (1 + b.inputs + b.gate)) && ltb q (2 * (1 + b.inputs + b.gate))
below? b (Some (Output r)) = ltb r (2 * (1 + b.inputs + b.gates))
below? b (Some (Constraint r)) = ltb r (2 * (1 + b.inputs + b.gates))
below? b (Some Name) = true
below? b (Some (Header e i g o)) = false
below? b None = false

-- "18 a name twice in a file": whether the name that a line gives stands in an earlier line. (RULES 8.1)
unfoldable pub twice? : List (List ℕ) → Line → Bool
twice? seen (name_line name) = among? name seen
twice? seen _ = false

-- "within others 2, 5, 6"; 18 "at its line and after 5". No line has both references and a name. (RULES 9.2)
abbrev pub later_tests : List (List ℕ) → Body → Line → List (Test ℕ)
later_tests seen b l =
    record { answer = 2; applies = not (formed? (kind_of l)) }
    ∷ record { answer = 5; applies = not (due? b (kind_of l)) }
    ∷ record { answer = 6; applies = not (below? b (kind_of l)) }
    ∷ record { answer = 18; applies = twice? seen l }
    ∷ []

-- The tests of a line, by what is due and the names in earlier lines. (RULES 9.2)
abbrev pub line_tests : List (List ℕ) → Due → Line → List (Test ℕ)
line_tests seen (First role) l = first_tests role (kind_of l)
line_tests seen (Later b) l = later_tests seen b l

-- "5. The line is missing .. (an empty file: line 1)": whether more lines are due. A constraint's never is. (RULES 8.1)
unfoldable pub more? : Due → Bool
more? (First role) = true
more? (Later b) = not (eqb b.name b.names && eqb b.gate b.gates && eqb b.output b.outputs)

-- The test after the last line.
abbrev pub end_tests : Due → List (Test ℕ)
end_tests due = record { answer = 5; applies = more? due } ∷ []

-- "A first file may end with one line `C⇥r`": how many such lines may come. (RULES 1.13)
abbrev pub constraints_due : Role → ℕ
constraints_due role.First = 1
constraints_due (Second first) = 0

-- What is due after line 1: its counts, and nothing read yet.
abbrev pub after_header : Role → ℕ → ℕ → ℕ → ℕ → Body
after_header role edition inputs gates outputs =
    record {
      edition = edition_of edition;
      inputs = inputs;
      names = name_count edition inputs;
      gates = gates;
      outputs = outputs;
      constraints = constraints_due role;
      name = 0;
      gate = 0;
      output = 0;
      constraint = 0;
      ands = 0;
      reference = 1;
    }

-- What is due after a line with a name, a gate, an output or a constraint: one more is read.
abbrev pub after_name : Body → Body
after_name b = record b { name = b.name + 1 }

abbrev pub after_gate : Operation → Body → Body
after_gate op b = record b { gate = b.gate + 1; ands = b.ands + ands_of op }

abbrev pub after_output : Body → Body
after_output b = record b { output = b.output + 1 }

abbrev pub after_constraint : ℕ → Body → Body
after_constraint r b = record b { constraint = b.constraint + 1; reference = r }

-- What is due after a line that passed its tests.
unfoldable pub due_after : Due → Option Record → Due
due_after (First role) (Some (Header e i g o)) = Later (after_header role e i g o)
due_after (First role) _ = First role
due_after (Later b) (Some Name) = Later (after_name b)
due_after (Later b) (Some (Gate op p q)) = Later (after_gate op b)
due_after (Later b) (Some (Output r)) = Later (after_output b)
due_after (Later b) (Some (Constraint r)) = Later (after_constraint r b)
due_after (Later b) _ = Later b

-- The names that a line gives: one, or none.
abbrev pub name_given : Line → List (List ℕ)
name_given (name_line name) = name ∷ []
name_given _ = []

-- The names of some lines, in order.
unfoldable pub names_in : List Line → List (List ℕ)
names_in [] = []
names_in (l ∷ ls) = name_given l ++ names_in ls

-- What an accepted file has: "r's reference .., 1 where no line gives it" among it. (RULES 1.13)
pub record Counts : Type 0 where
  pub edition : ℕ
  pub inputs : ℕ
  pub names : ℕ
  pub gates : ℕ
  pub outputs : ℕ
  pub ands : ℕ
  pub reference : ℕ

-- An answer: the counts of an accepted file, or the number and the line of a refusal. (RULES 8.1)
pub data Answer : Type 0 where
  accepted : Counts → Answer
  refused : ℕ → ℕ → Answer

-- The counts of a summary.
abbrev pub summary_counts : Summary → Counts
summary_counts s =
    record {
      edition = number_of_edition s.edition;
      inputs = s.inputs;
      names = s.names;
      gates = s.gates;
      outputs = s.outputs;
      ands = s.ands;
      reference = s.reference;
    }

-- The rules' number and values for each case of the result. (RULES 8.1)
abbrev pub answer_of : Result Summary Rejected → Answer
answer_of (Ok s) = accepted (summary_counts s)
answer_of (Err e) = refused (number_of e.refusal) e.line

-- The counts when all lines are passed.
abbrev pub counts_of : Due → Counts
counts_of (First role) = record { edition = 0; inputs = 0; names = 0; gates = 0; outputs = 0; ands = 0; reference = 1 }
counts_of (Later b) =
    record {
      edition = number_of_edition b.edition;
      inputs = b.inputs;
      names = b.names;
      gates = b.gates;
      outputs = b.outputs;
      ands = b.ands;
      reference = b.reference;
    }

-- The answer at line n, by the number of the refusal that applies there: 0 where none does, and then the answer is what follows.
abbrev pub answer_at : ℕ → ℕ → Answer → Answer
answer_at n number rest = cond (eqb number 0) rest (refused number n)

-- After the last line, line n being the next.
unfoldable pub finish : ℕ → Due → Answer
finish n due = answer_at n (first_refusal 0 (end_tests due)) (accepted (counts_of due))

-- "then 2 to 6 line by line": the lines from line n on, by the names in earlier lines and by what is due. (RULES 9.1)
unfoldable pub check_from : ℕ → List (List ℕ) → Due → List Line → Answer
check_from n seen due [] = finish n due
check_from n seen due (l ∷ ls) =
    answer_at n (first_refusal 0 (line_tests seen due l))
    (check_from (n + 1) (seen ++ name_given l) (due_after due (kind_of l)) ls)

-- A whole file, the first or the second of a pair.
unfoldable pub check_file : Role → List ℕ → Answer
check_file role bytes = check_from 1 [] (First role) (file_lines bytes)

-- The gates of some records, in order.
unfoldable pub gates_in : List (Option Record) → List netlist.Gate
gates_in [] = []
gates_in (Some (Gate op p q) ∷ rs) = record { op = op; p = p; q = q } ∷ gates_in rs
gates_in (_ ∷ rs) = gates_in rs

-- The outputs of some records, in order.
unfoldable pub outputs_in : List (Option Record) → List ℕ
outputs_in [] = []
outputs_in (Some (Output r) ∷ rs) = r ∷ outputs_in rs
outputs_in (_ ∷ rs) = outputs_in rs

-- The constraints of some records, in order.
unfoldable pub constraints_in : List (Option Record) → List ℕ
constraints_in [] = []
constraints_in (Some (Constraint r) ∷ rs) = r ∷ constraints_in rs
constraints_in (_ ∷ rs) = constraints_in rs

-- The netlist of some lines, given the edition and the inputs of line 1.
abbrev pub netlist_in : Counts → List Line → Netlist
netlist_in c ls =
    record {
      edition = c.edition;
      inputs = c.inputs;
      names = names_in ls;
      gates = gates_in (records_in ls);
      outputs = outputs_in (records_in ls);
      constraints = constraints_in (records_in ls);
    }

-- A netlist, or a refusal's number and line.
pub data Read : Type 0 where
  read : Netlist → Read
  unread : ℕ → ℕ → Read

-- What was read, by what the check says of the lines.
unfoldable pub read_by : Answer → List Line → Read
read_by (accepted c) ls = read (netlist_in c ls)
read_by (refused k n) ls = unread k n

-- The netlist that a file's bytes hold, or why they hold none.
unfoldable pub read_netlist : Role → List ℕ → Read
read_netlist role bytes = read_by (check_file role bytes) (file_lines bytes)
