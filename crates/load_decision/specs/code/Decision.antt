-- What load decides before it writes: a refusal, or that two files with some counts are loaded.
use Rattle.std.specs.Prelude.{ℕ, List, ◌≡◌, Result, Err, Ok}
use Rattle.load_model.specs.Load.{LoadRoom, length_tests, pair_tests}
use Rattle.load_model.specs.declared.Accepted.{Accepted}
use Rattle.load_model.specs.declared.Refused.{Refused}
use Rattle.netlist_model.specs.Check.{Answer, accepted, check_file, refused, summary_counts}
use Rattle.netlist_model.specs.Limits.{number_of_edition}
use Rattle.netlist_model.specs.Names.{first_lacked}
use Rattle.netlist_model.specs.code.Accepted.{summary_with}
use Rattle.netlist_model.specs.code.Passing.{front_names, gates_at}
use Rattle.netlist_model.specs.declared.Rejected.{Rejected}
use Rattle.netlist_model.specs.declared.Role.TheVariants.{First, Second}
use Rattle.netlist_model.specs.declared.Role.{Role}
use Rattle.netlist_model.specs.declared.Summary.{Summary}
use Rattle.refusal.specs.Number.{number_of}
use Rattle.table.specs.Refusals.{first_refusal}

-- What the check of a file comes to: a summary, or the number and the line of a refusal.
pub data Checked : Type 0 where
  summed : Summary → Checked
  rejected : ℕ → ℕ → Checked

-- The same, of the check's result.
abbrev pub checked_of : Result Summary Rejected → Checked
checked_of (Ok s) = summed s
checked_of (Err e) = rejected (number_of e.refusal) e.line

-- A refusal's number, file and line, or the summaries of two files that are loaded.
pub data Decision : Type 0 where
  stopped : ℕ → ℕ → ℕ → Decision
  go : Summary → Summary → Decision

-- The same, of what is decided.
abbrev pub decided : Result (Accepted × Accepted) Refused → Decision
decided (Ok p) = go p.0.summary p.1.summary
decided (Err r) = stopped (number_of r.refusal) r.file r.line

-- The result of the check of a file: its answer, and where its gate lines start.
abbrev pub checked_as : List ℕ → Answer → Checked
checked_as bytes (accepted c) = summed (summary_with (gates_at bytes c.names) c)
checked_as bytes (refused k n) = rejected k n

abbrev pub checked_file : Role → List ℕ → Checked
checked_file role bytes = checked_as bytes (check_file role bytes)

-- What the check of the file of a number comes to.
abbrev pub FoundIn : ℕ → Result Summary Refused → Checked → Type 0
FoundIn number (Ok s) x = x ≡ summed s
FoundIn number (Err r) x = (r.file ≡ number) × (x ≡ rejected (number_of r.refusal) r.line)

-- "then 7, 8, 9, 14" and 19 after 7, by the counts and the names of two accepted files. (RULES 9.1)
unfoldable pub pair_decision : List ℕ → List ℕ → Summary → Summary → LoadRoom → Decision
pair_decision left right s t room =
    first_refusal (go s t)
    (pair_tests stopped (summary_counts s) (summary_counts t) (first_lacked (front_names s.names left) (front_names t.names right)) room)

-- "then 2 to 6 line by line, first file first" (RULES 9.1)
unfoldable pub second_decision : List ℕ → List ℕ → Summary → Checked → LoadRoom → Decision
second_decision left right s (rejected k n) room = stopped k 2 n
second_decision left right s (summed t) room = pair_decision left right s t room

unfoldable pub read_decision : List ℕ → List ℕ → Checked → LoadRoom → Decision
read_decision left right (rejected k n) room = stopped k 1 n
read_decision left right (summed s) room = second_decision left right s (checked_file (Second (number_of_edition s.edition)) right) room

-- "Load tests 1 for both files" (RULES 9.1)
unfoldable pub decision : List ℕ → List ℕ → LoadRoom → Decision
decision left right room = first_refusal (read_decision left right (checked_file First left) room) (length_tests stopped left right)

-- Two files whose checks gave these summaries.
pub record Checks (left right : List ℕ) (s t : Summary) : Type 0 where
  pub left-checked : checked_file First left ≡ summed s
  pub right-checked : checked_file (Second (number_of_edition s.edition)) right ≡ summed t
