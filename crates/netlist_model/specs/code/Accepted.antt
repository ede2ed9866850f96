-- What an accepted file holds.
use Rattle.std.specs.Prelude.{◌≤◌, ℕ, drop, length, List, [], ◌≡◌}
use Rattle.netlist_model.specs.Check.{Counts, netlist_in, read, read_netlist, summary_counts}
use Rattle.netlist_model.specs.Limits.{edition_of}
use Rattle.netlist_model.specs.Meaning.{and_count}
use Rattle.netlist_model.specs.Netlist.{Netlist, Within, body_records, bytes_of, constraint_reference, netlist_lines}
use Rattle.netlist_model.specs.Records.{file_lines}
use Rattle.netlist_model.specs.code.Passing.{file_records, gates_at}
use Rattle.netlist_model.specs.declared.Role.TheVariants as role
use Rattle.netlist_model.specs.declared.Role.TheVariants.{Second}
use Rattle.netlist_model.specs.declared.Role.{Role}
use Rattle.netlist_model.specs.declared.Summary.{Summary}

-- A second file has the edition of the first, and no `C` line. (RULES 1.13, 8.1)
pub record SuitsSecond (first : ℕ) (d : Netlist) : Type 0 where
  pub edition : d.edition ≡ first
  pub constraints : d.constraints ≡ []

-- A netlist suits its file's role. (RULES 8.1)
abbrev pub Suits : Role → Netlist → Type 0
Suits role.First d = Unit
Suits (Second first) d = SuitsSecond first d

-- The counts of a netlist.
abbrev pub counts_in : Netlist → Counts
counts_in d =
    record {
      edition = d.edition;
      inputs = d.inputs;
      names = length d.names;
      gates = length d.gates;
      outputs = length d.outputs;
      ands = and_count d.gates;
      reference = constraint_reference d;
    }

-- Counts with the place at which the gate lines start.
abbrev pub summary_with : ℕ → Counts → Summary
summary_with start c =
    record {
      edition = edition_of c.edition;
      inputs = c.inputs;
      names = c.names;
      gates = c.gates;
      outputs = c.outputs;
      ands = c.ands;
      reference = c.reference;
      start = start;
    }

-- The netlist that an accepted file holds.
unfoldable pub netlist_of : List ℕ → Summary → Netlist
netlist_of file s = netlist_in (summary_counts s) (file_lines file)

-- A file with a summary holds a netlist: it is its bytes, keeps the limits, and its gate lines start after line 1 and the names.
pub record HoldsNetlist (bytes : List ℕ) (s : Summary) (d : Netlist) : Type 0 where
  pub file : bytes ≡ bytes_of d
  pub within : Within d
  pub counts : s ≡ summary_with (gates_at bytes (length d.names)) (counts_in d)
  pub lines : file_lines bytes ≡ netlist_lines d
  pub inside : s.start ≤ length bytes
  pub body : file_records (drop s.start bytes) ≡ body_records d

-- And it is read as that netlist.
pub record ReadAs (role : Role) (bytes : List ℕ) (s : Summary) (d : Netlist) : Type 0 where
  pub reads : read_netlist role bytes ≡ read d
  pub suits : Suits role d
  pub holds : HoldsNetlist bytes s d
