-- The bench cards, computed.
use Rattle.aig.specs.Fold.{fold_of}
use Rattle.aig.specs.Lookup.{first_vertex, own_words}
use Rattle.compare_model.specs.Compare.{Left, answer_to, answered, beyond?, compared, entry_rows, graph_words, looked_at, next_rows, outputs_left, outside?, problem_of, refusal_of, row_words, said_by, setting_bytes, setting_left, table_left, turned_back}
use Rattle.compare_model.specs.Compare.{short_slice? as slices?}
use Rattle.demands.specs.Cards.{Cards, Replying, comparison_of, constrained_file, first_compared, loaded_table, named_output, output_file, usual}
use Rattle.load_model.proofs.Cards.{loading}
use Rattle.load_model.specs.Build.{ask_and, ask_gate, ask_gates, build_file, build_pair, empty_build, folded_or_not, found_or_made, literals_from}
use Rattle.load_model.specs.Cards.{and_file, named_and, or_file, turned_and}
use Rattle.load_model.specs.Load.{counts_differ?, load_result, max_table, read_result, read_second, short_slice?, table_after, table_of, table_words, tally_of}
use Rattle.netlist_model.specs.Check.{check_file, check_from, constraints_in, due_after, finish, formed?, gates_in, header?, known?, limited?, more?, names_in, outputs_in, read_by, read_netlist, twice?}
use Rattle.netlist_model.specs.Meaning.{and_count}
use Rattle.netlist_model.specs.Names.{first_lacked, name_count, place_of}
use Rattle.netlist_model.specs.Pairing.{input_for, paired, reference_for}
use Rattle.netlist_model.specs.Records.{fields_record, file_lines, line_of, part_lines, name?, operation_of, record_of, unended}
use Rattle.sweep_model.specs.Normalise.{folded_row, found_row, normalise, normalise_from, normalise_row, resolve, take_at, takes_from, wake, wake_at}
use Rattle.sweep_model.specs.State.{bare?, dropped?, gone?, has?, open?, waits?}
use Rattle.sweep_model.specs.Sweep.{and_then, begin, conclude, give_row, go, go_for, look, look_at, multiply, open_at, pick_from, ready?, result_of, scan_from, smaller, start, sweep, swept, top_part, turns_left, turns_of, twin_from, visit}
use Rattle.sweep_model.specs.Sweep.{give_inputs as give_rows}
use Rattle.table.specs.Refusals.{first_refusal}
use Rattle.table.specs.Table.{all_below?, beyond_limits?, downward?, first_functions, functions_of, graph_of, inputs_from, malformed?, out_of_order?, output_words, pairs, row_below?, rows_of, side_outputs}
use Rattle.table.specs.Values.{vertex_values}
use Rattle.text.specs.Numerals.{digits_from, numeral_of}
use Rattle.truth.proofs.Cards.{parts-and_steps}
use Rattle.truth.specs.Truth.{conj, constant?, constantly, input, invert, same?, value_at}
use Rattle.product_model.specs.Run.{◌and_then◌, add_part, add_row, count_step, plain, run}
use Rattle.truth.specs.Distinct.{among, distinct, filter}
use Rattle.truth.specs.Parts.{alike?, cofactors, depends?, parts, size}
use Rattle.truth.specs.Settings.{first_difference}
use Rattle.truth.specs.Steps.{terminal?}
use Prim.Native.Nat.{ℕ}
use lib.ListN.{drop, replicate}
use mathlib.Core.List.{List, ◌∷◌}
use mathlib.Core.Path.{◌≡◌, refl}

record Tables : Type 0 where
  and_or_card : loaded_table and_file or_file ≡ 2 ∷ 1 ∷ 1 ∷ 2 ∷ 4 ∷ 6 ∷ 6 ∷ 1 ∷ drop 8 (replicate max_table 0)
  inverse : loaded_table (output_file 49 50) (output_file 49 51) ≡ 1 ∷ 0 ∷ 1 ∷ 2 ∷ 3 ∷ 1 ∷ drop 6 (replicate max_table 0)
  constants : loaded_table (output_file 48 48) (output_file 48 49) ≡ 0 ∷ 0 ∷ 1 ∷ 0 ∷ 1 ∷ 1 ∷ drop 6 (replicate max_table 0)
  named : loaded_table named_and turned_and ≡ 2 ∷ 1 ∷ 1 ∷ 2 ∷ 5 ∷ 6 ∷ 6 ∷ 1 ∷ drop 8 (replicate max_table 0)
  turned : loaded_table (named_output 97 98) (named_output 98 97) ≡ 2 ∷ 0 ∷ 1 ∷ 2 ∷ 4 ∷ 1 ∷ drop 6 (replicate max_table 0)
  allowed : loaded_table (constrained_file 50) (output_file 49 51) ≡ 1 ∷ 0 ∷ 1 ∷ 2 ∷ 3 ∷ 2 ∷ drop 6 (replicate max_table 0)
  none_allowed : loaded_table (constrained_file 48) (output_file 49 51) ≡ 1 ∷ 0 ∷ 1 ∷ 2 ∷ 3 ∷ 0 ∷ drop 6 (replicate max_table 0)

tables : Tables
unfolding due_after check_file check_from constraints_in finish first_refusal formed? gates_in header? known? limited? more? name_count names_in outputs_in read_by read_netlist twice? digits_from numeral_of fields_record file_lines line_of part_lines name? operation_of record_of unended fold_of first_vertex own_words ask_and ask_gate ask_gates build_file build_pair empty_build folded_or_not found_or_made literals_from counts_differ? first_lacked input_for load_result paired place_of read_result read_second reference_for short_slice? tally_of and_count table_after table_of table_words
tables = record { and_or_card = refl; inverse = refl; constants = refl; named = refl; turned = refl; allowed = refl; none_allowed = refl }

-- What a comparison of a pair's first output comes to, by the table that the pair loads to.
by_table : {A : Type 0} (part : Left → A) (left right table : List ℕ) (x : A) → loaded_table left right ≡ table
    → part (compared (comparison_of 0 usual table)) ≡ x → part (first_compared left right) ≡ x
by_table part left right table x e f = rw e f

replying : Replying
unfolding answer_to answered beyond? compared entry_rows graph_words looked_at next_rows outputs_left outside? problem_of refusal_of
    row_words setting_bytes setting_left slices? table_left turned_back output_words pairs rows_of side_outputs malformed? beyond_limits?
    out_of_order? downward? all_below? row_below? graph_of functions_of first_functions inputs_from first_refusal vertex_values conj
    constant? constantly input invert same? sweep result_of conclude give_row go go_for multiply open_at pick_from ready? scan_from smaller
    swept top_part turns_left turns_of twin_from visit give_rows start look look_at and_then begin normalise normalise_from normalise_row
    folded_row found_row resolve takes_from take_at wake_at wake has? gone? bare? dropped? open? waits? said_by fold_of first_vertex
    own_words ◌and_then◌ add_part add_row count_step plain run among distinct filter alike? cofactors depends? parts size terminal?
    first_difference value_at
replying =
    record {
      and_or-reply = by_table (λ l. l.reply) _ _ _ _ tables.and_or_card refl;
      inverse-reply = by_table (λ l. l.reply) _ _ _ _ tables.inverse refl;
      inverse-setting = by_table (λ l. l.setting) _ _ _ _ tables.inverse refl;
      constants_reply = by_table (λ l. l.reply) _ _ _ _ tables.constants refl;
      constants_setting = by_table (λ l. l.setting) _ _ _ _ tables.constants refl;
      named-reply = by_table (λ l. l.reply) _ _ _ _ tables.named refl;
      turned-reply = by_table (λ l. l.reply) _ _ _ _ tables.turned refl;
      turned-setting = by_table (λ l. l.setting) _ _ _ _ tables.turned refl;
      allowed-reply = by_table (λ l. l.reply) _ _ _ _ tables.allowed refl;
      allowed-setting = by_table (λ l. l.setting) _ _ _ _ tables.allowed refl;
      none-allowed-reply = by_table (λ l. l.reply) _ _ _ _ tables.none_allowed refl;
    }

-- The cards hold.
pub cards : Cards
cards = record { parts-and_steps = parts-and_steps; loading = loading; replying = replying }
