-- The bench cards on loading, computed: the files are read, then the graphs are built.
use Prim.Native.Nat.{ℕ}
use Rattle.aig.specs.Fold.{fold_of}
use Rattle.aig.specs.Lookup.{first_vertex, own_words}
use Rattle.load_model.specs.Build.{ask_and, ask_gate, ask_gates, ask_xor, build_file, build_pair, empty_build, folded_or_not, found_or_made, literals_from}
use Rattle.load_model.specs.Cards.{Loading, and_file, false_file, named_and, or_file, turned_and, xor_file}
use Rattle.load_model.specs.Load.{counts_differ?, load_result, read_result, read_second, short_slice?, table_after, table_of, table_words, tally_of}
use Rattle.netlist_model.specs.Check.{check_file, check_from, constraints_in, due_after, finish, formed?, gates_in, header?, known?, limited?, more?, names_in, outputs_in, read, read_by, read_netlist, twice?}
use Rattle.netlist_model.specs.Meaning.{and_count}
use Rattle.netlist_model.specs.Names.{first_lacked, name_count, place_of}
use Rattle.netlist_model.specs.Netlist.{Netlist}
use Rattle.netlist_model.specs.Pairing.{input_for, paired, reference_for}
use Rattle.netlist_model.specs.Records.{fields_record, file_lines, line_of, part_lines, name?, operation_of, record_of, unended}
use Rattle.netlist_model.specs.declared.Role.TheVariants.{First, Second}
use Rattle.netlist_model.specs.declared.Operation.TheVariants.{And, Or, Xor}
use Rattle.netlist_model.specs.declared.Operation.{Operation}
use Rattle.table.specs.Refusals.{first_refusal}
use Rattle.table.specs.Table.{graph_of, output_value, output_words, outputs, pairs, rows_of, side_outputs, values_on}
use Rattle.table.specs.Values.{vertex_values}
use Rattle.text.specs.Numerals.{digits_from, numeral_of}
use mathlib.Core.List.{[], ◌∷◌}
use mathlib.Core.Path.{◌≡◌, refl}

-- The files, read.
abbrev one_gate : Operation → ℕ → ℕ → ℕ → Netlist
one_gate op p q r =
    record { edition = 1; inputs = 2; names = []; gates = record { op = op; p = p; q = q } ∷ []; outputs = r ∷ []; constraints = [] }

abbrev no_gate : Netlist
no_gate = record { edition = 1; inputs = 2; names = []; gates = []; outputs = 0 ∷ []; constraints = [] }

abbrev named : ℕ → ℕ → ℕ → ℕ → Netlist
named x y p q =
    record {
      edition = 2;
      inputs = 2;
      names = (x ∷ []) ∷ (y ∷ []) ∷ [];
      gates = record { op = And; p = p; q = q } ∷ [];
      outputs = 6 ∷ [];
      constraints = [];
    }

record FilesRead : Type 0 where
  xor_file_lem : read_netlist First xor_file ≡ read (one_gate Xor 2 2 6)
  false_file_lem : read_netlist (Second 1) false_file ≡ read no_gate
  and_file_lem : read_netlist First and_file ≡ read (one_gate And 2 4 6)
  or_file_lem : read_netlist (Second 1) or_file ≡ read (one_gate Or 3 5 7)
  named-file : read_netlist First named_and ≡ read (named 97 98 2 5)
  turned-file : read_netlist (Second 2) turned_and ≡ read (named 98 97 3 4)

reads : FilesRead
unfolding due_after check_file check_from constraints_in finish first_refusal formed? gates_in header? known? limited? more? name_count names_in outputs_in place_of read_by read_netlist twice? digits_from numeral_of fields_record file_lines line_of part_lines name? operation_of record_of unended
reads = record { xor_file_lem = refl; false_file_lem = refl; and_file_lem = refl; or_file_lem = refl; named-file = refl; turned-file = refl }

-- The second files in the first ones' order.
record FilesPaired : Type 0 where
  xor_paired : paired (one_gate Xor 2 2 6) no_gate ≡ no_gate
  and_or-paired : paired (one_gate And 2 4 6) (one_gate Or 3 5 7) ≡ one_gate Or 3 5 7
  named-paired : paired (named 97 98 2 5) (named 98 97 3 4) ≡ named 97 98 5 2

pairs-read : FilesPaired
unfolding input_for paired place_of reference_for
pairs-read = record { xor_paired = refl; and_or-paired = refl; named-paired = refl }

-- The graphs, built.
record Built : Type 0 where
  xor_built : build_pair (one_gate Xor 2 2 6) no_gate
      ≡ record {
        left = 0 ∷ [];
        right = 0 ∷ [];
        constraint = 1;
        build = record { words = 0 ∷ 0 ∷ 2 ∷ 2 ∷ 4 ∷ 4 ∷ []; count = 3; asked = 3; folded = 3; found = 0 };
      }
  and_or_built : build_pair (one_gate And 2 4 6) (one_gate Or 3 5 7)
      ≡ record {
        left = 6 ∷ [];
        right = 6 ∷ [];
        constraint = 1;
        build = record { words = 0 ∷ 0 ∷ 2 ∷ 2 ∷ 4 ∷ 4 ∷ 2 ∷ 4 ∷ []; count = 4; asked = 2; folded = 0; found = 1 };
      }
  named_built : build_pair (named 97 98 2 5) (named 97 98 5 2)
      ≡ record {
        left = 6 ∷ [];
        right = 6 ∷ [];
        constraint = 1;
        build = record { words = 0 ∷ 0 ∷ 2 ∷ 2 ∷ 4 ∷ 4 ∷ 2 ∷ 5 ∷ []; count = 4; asked = 2; folded = 0; found = 1 };
      }

built : Built
unfolding fold_of first_vertex own_words ask_and ask_gate ask_gates ask_xor build_file build_pair empty_build folded_or_not found_or_made literals_from
built = record { xor_built = refl; and_or_built = refl; named_built = refl }

-- The cards hold.
pub loading : Loading
unfolding counts_differ? first_lacked load_result place_of read_result read_second short_slice? tally_of and_count first_refusal table_after table_of table_words graph_of output_value output_words outputs pairs rows_of side_outputs values_on vertex_values
loading =
    record {
      xor_tally = rw reads.xor_file_lem (rw (reads.false_file_lem, pairs-read.xor_paired, built.xor_built) refl);
      xor_value = λ old s. rw reads.xor_file_lem (rw (reads.false_file_lem, pairs-read.xor_paired, built.xor_built) refl);
      and_or-tally = rw reads.and_file_lem (rw (reads.or_file_lem, pairs-read.and_or-paired, built.and_or_built) refl);
      named-tally = rw reads.named-file (rw (reads.turned-file, pairs-read.named-paired, built.named_built) refl);
    }
