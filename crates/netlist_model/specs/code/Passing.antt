-- What holds while a file is passed line by line.
use Rattle.std.specs.Prelude.{◌*◌, ◌+◌, ◌<◌, ◌≤◌, suc, zero, ℕ, eqb, drop, length, take, cond, List, [], ◌++◌, ◌∷◌, map, ◌≡◌, Option, None, Some, ◌||◌, ◌&&◌, Result, Err, Ok}
use Rattle.netlist_model.specs.Check.{due_after, line_tests, names_in, suits?}
use Rattle.netlist_model.specs.Limits.{by_name_edition, by_place_edition, edition_of, max_gates}
use Rattle.netlist_model.specs.Records.{Line, file_lines, kind_of, line_of, malformed_line, name_line, records_in}
use Rattle.netlist_model.specs.declared.Body.{Body}
use Rattle.netlist_model.specs.declared.Due.TheVariants.{First, Later}
use Rattle.netlist_model.specs.declared.Due.{Due}
use Rattle.netlist_model.specs.declared.edition.Edition.{Edition}
use Rattle.netlist_model.specs.declared.Record.{Record}
use Rattle.netlist_model.specs.declared.Rejected.{Rejected}
use Rattle.netlist_model.specs.declared.Role.{Role}
use Rattle.netlist_model.specs.declared.Summary.{Summary}
use Rattle.refusal.specs.Number.{number_of}
use Rattle.refusal.specs.declared.Refusal.{Refusal}
use Rattle.table.specs.Limits.{max_inputs, max_outputs}
use Rattle.table.specs.Refusals.{first_refusal}
use Rattle.text.specs.Split.{has, up_to}

-- The records of a file's lines.
abbrev pub file_records : List ℕ → List (Option Record)
file_records bytes = records_in (file_lines bytes)

-- The first of some bytes' lines: "2. The line is not an N, I, G, O or C record of this layout or has no end byte." (RULES 8.1)
unfoldable pub first_line : List ℕ → Line
first_line bytes = cond (has 10 bytes) (line_of (up_to 10 bytes)) malformed_line

-- Its record.
abbrev pub line_record : List ℕ → Option Record
line_record bytes = kind_of (first_line bytes)

-- What a line comes to, by the names in earlier lines and by what is due: what is due next, or the number of the refusal that applies.
unfoldable pub step_of : List (List ℕ) → Due → Line → Result Due ℕ
step_of seen due l =
    let number : ℕ = first_refusal 0 (line_tests seen due l) in
    cond (eqb number 0) (Ok (due_after due (kind_of l))) (Err number)

-- The same with the refusal's number for the refusal.
abbrev pub numbered : Result Due Refusal → Result Due ℕ
numbered (Ok due) = Ok due
numbered (Err refusal) = Err (number_of refusal)

-- The edition with a number, where a file of a role may have it.
abbrev pub known_edition : Role → ℕ → Option Edition
known_edition role e =
    cond ((eqb e by_place_edition || eqb e by_name_edition) && suits? role e) (Some (edition_of e)) None

-- The place after the first k lines of a file.
unfoldable pub place_after : List ℕ → ℕ → ℕ
place_after file zero = 0
place_after file (suc k) = place_after file k + length (up_to 10 (drop (place_after file k) file)) + 1

-- The gate lines of a file start after line 1 and the names.
abbrev pub gates_at : List ℕ → ℕ → ℕ
gates_at file names = place_after file (1 + names)

abbrev pub StartsAt : List ℕ → Result Summary Rejected → Type 0
StartsAt file (Ok s) = s.start ≡ gates_at file s.names
StartsAt file (Err e) = Unit

-- The counts of line 1 within their limits, and those kept within them.
pub record Counted (b : Body) : Type 0 where
  pub inputs : b.inputs ≤ max_inputs
  pub names : b.names ≤ max_inputs
  pub gates : b.gates ≤ max_gates
  pub outputs : b.outputs ≤ max_outputs
  pub constraints : b.constraints ≤ 1
  pub name : b.name ≤ b.names
  pub gate : b.gate ≤ b.gates
  pub output : b.output ≤ b.outputs
  pub constraint : b.constraint ≤ b.constraints
  pub ands : b.ands ≤ 3 * b.gate

-- The same of what is due.
pub data Held : Due → Type 0 where
  at_first : {role : Role} → Held (First role)
  at-later : {b : Body} → Counted b → Held (Later b)

-- The number of the line that is due.
unfoldable pub line_due : Due → ℕ
line_due (First role) = 1
line_due (Later b) = 2 + b.name + b.gate + b.output + b.constraint

-- The first names after line 1.
unfoldable pub front_names : ℕ → List ℕ → List (List ℕ)
front_names count file = take count (names_in (drop 1 (file_lines file)))

-- The lines after line 1 begin with those of some names.
pub record Names (file : List ℕ) (names : List (List ℕ)) : Type 0 where
  pub first : Line
  pub formed : kind_of first ≡ None → ⊥
  pub rest : List Line
  pub lines : file_lines file ≡ first ∷ (map name_line names ++ rest)

-- There are so many of them.
pub record NamesThere (file : List ℕ) (count : ℕ) : Type 0 where
  pub names : List (List ℕ)
  pub there : Names file names
  pub counted : length names ≡ count

-- The names in earlier lines, by what is due.
abbrev pub seen_by : List ℕ → Due → List (List ℕ)
seen_by file (First role) = []
seen_by file (Later b) = front_names b.name file

-- The lines of these names are there.
abbrev pub SeenThere : List ℕ → Due → Type 0
SeenThere file (First role) = Unit
SeenThere file (Later b) = NamesThere file b.name

-- Where all that is due was there, the place at which the gate lines start is in the file.
abbrev pub StartInside : List ℕ → Due → Type 0
StartInside file (First role) = Unit
StartInside file (Later b) = b.name ≡ b.names → gates_at file b.names ≤ length file

-- The lines before a place, by what is due there: line 1, the names, and others, which come after the last name.
pub record Passed (file : List ℕ) (at : ℕ) (b : Body) : Type 0 where
  pub first : Line
  pub formed : kind_of first ≡ None → ⊥
  pub names : List (List ℕ)
  pub others : List Line
  pub lines : file_lines file ≡ first ∷ (map name_line names ++ (others ++ file_lines (drop at file)))
  pub counted : length names ≡ b.name
  pub before : b.name < b.names → others ≡ []
