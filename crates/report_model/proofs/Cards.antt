-- The reports, computed.
use Rattle.aig.specs.Fold.{fold_of}
use Rattle.aig.specs.Lookup.{first_vertex, own_words}
use Rattle.compare_model.specs.Compare.{answer_to, answered, beyond?, compared, entry_rows, graph_words, looked_at, next_rows, outputs_left, outside?, problem_of, refusal_of, row_words, said_by, setting_bytes, setting_left, short_slice?, table_left, turned_back}
use Rattle.load_model.specs.Build.{ask_and, ask_gate, ask_gates, ask_xor, build_file, build_pair, empty_build, folded_or_not, found_or_made, literals_from}
use Rattle.load_model.specs.Load.{counts_differ?, load_result, read_result, read_second, table_after, table_of, table_words, tally_of}
use Rattle.load_model.specs.Load.{short_slice? as short_load?}
use Rattle.netlist_model.specs.Check.{check_file, check_from, constraints_in, due_after, finish, formed?, gates_in, header?, known?, limited?, more?, names_in, outputs_in, read_by, read_netlist, twice?}
use Rattle.netlist_model.specs.Meaning.{and_count}
use Rattle.netlist_model.specs.Names.{first_lacked, name_count, place_of}
use Rattle.netlist_model.specs.Pairing.{input_for, paired, reference_for}
use Rattle.netlist_model.specs.Records.{fields_record, file_lines, line_of, name?, operation_of, part_lines, record_of, unended}
use Rattle.product_model.specs.Run.{◌and_then◌, add_part, add_row, count_step, plain, run}
use Rattle.report_format.specs.Report.{head_line, refused_line, reply_line}
use Rattle.report_model.specs.Cards.{Cards}
use Rattle.report_model.specs.Report.{after, comparison_line, comparisons, lines_of, next, report_of, reported, short_room?}
use Rattle.sweep_model.specs.Normalise.{folded_row, found_row, normalise, normalise_from, normalise_row, resolve, take_at, takes_from, wake, wake_at}
use Rattle.sweep_model.specs.State.{bare?, dropped?, gone?, has?, open?, waits?}
use Rattle.sweep_model.specs.Sweep.{and_then, begin, conclude, give_row, go, go_for, look, look_at, meet, multiply, open_at, pick_from, ready?, result_of, scan_from, smaller, start, sweep, swept, top_part, turns_left, turns_of, twin_from, visit}
use Rattle.sweep_model.specs.Sweep.{drop_vertex, give_inputs}
use Rattle.table.specs.Refusals.{first_refusal}
use Rattle.table.specs.Table.{all_below?, beyond_limits?, downward?, first_functions, functions_of, graph_of, inputs_from, malformed?, out_of_order?, output_words, pairs, row_below?, rows_of, side_outputs}
use Rattle.table.specs.Values.{vertex_values}
use Rattle.text.specs.Decimal.{decimal, digits_within}
use Rattle.text.specs.Numerals.{digits_from, numeral_of}
use Rattle.truth.specs.Distinct.{among, distinct, filter}
use Rattle.truth.specs.Parts.{alike?, cofactors, depends?, parts, size}
use Rattle.truth.specs.Settings.{first_difference}
use Rattle.truth.specs.Steps.{terminal?}
use Rattle.truth.specs.Truth.{conj, constant?, constantly, input, invert, same?, value_at}
use mathlib.Core.Path.{refl}

pub cards : Cards
unfolding ask_xor check_file check_from constraints_in due_after finish formed? gates_in header? known? limited? more? name_count names_in outputs_in read_by read_netlist twice?
    digits_from numeral_of fields_record file_lines line_of name? operation_of part_lines record_of unended fold_of first_vertex own_words ask_and ask_gate ask_gates
    build_file build_pair empty_build folded_or_not found_or_made literals_from counts_differ? first_lacked input_for load_result paired place_of read_result read_second reference_for short_load? tally_of and_count first_refusal
    table_after table_of table_words answer_to answered beyond? compared entry_rows graph_words looked_at next_rows outputs_left outside? problem_of refusal_of row_words setting_bytes setting_left
    short_slice? table_left turned_back output_words pairs rows_of side_outputs malformed? beyond_limits? out_of_order? downward? all_below? row_below? graph_of
    functions_of first_functions inputs_from vertex_values conj constant? constantly input invert same? sweep result_of conclude
    give_row go go_for meet multiply open_at pick_from ready? scan_from smaller swept top_part turns_left turns_of twin_from visit drop_vertex give_inputs
    start look look_at and_then begin normalise normalise_from normalise_row folded_row found_row resolve takes_from take_at wake_at wake has? gone? bare?
    dropped? open? waits? said_by ◌and_then◌ add_part add_row count_step plain run among distinct filter alike? cofactors depends? parts size terminal?
    first_difference value_at report_of reported short_room? after next comparisons comparison_line lines_of head_line reply_line refused_line decimal
    digits_within
cards = record { sample = refl; twice = refl; named = refl; empty = refl }
