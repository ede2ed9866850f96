-- The premises of demand 3 and of completeness are met, computed from the files' bytes.
use Prim.Native.Nat.{◌<◌, suc, zero, ℕ}
use Rattle.aig.specs.Fold.{fold_of}
use Rattle.aig.specs.Lookup.{first_vertex, own_words}
use Rattle.compare_model.specs.Compare.{answer_to, answered, beyond?, compared, entry_rows, graph_words, looked_at, next_rows, outputs_left, outside?, problem_of, refusal_of, row_words, said_by, setting_bytes, setting_left, short_slice?, table_left, turned_back}
use Rattle.compare_model.specs.Said.{Said}
use Rattle.demands.proofs.Complete.{complete}
use Rattle.demands.proofs.Demand3.{demand3}
use Rattle.demands.specs.Cards.{comparison_of, usual}
use Rattle.demands.specs.Claims.{compared_ands, gates_ands, next_ands}
use Rattle.demands.specs.Complete.{Decided, Suffice}
use Rattle.demands.specs.Demand3.{Call, Each, Holds, Ran}
use Rattle.demands.specs.Example.{Example, after, before, first_call, least_limits, one_gate, other_file, second_call, size_one, third_call}
use Rattle.load_model.specs.Build.{ask_and, ask_gate, ask_gates, build_file, build_pair, empty_build, folded_or_not, found_or_made, literals_from}
use Rattle.load_model.specs.Cards.{and_file, room}
use Rattle.load_model.specs.Load.{accepted, counts_differ?, load_result, read_result, read_second, table_of, table_words, tally_of}
use Rattle.load_model.specs.Load.{short_slice? as short_load?}
use Rattle.netlist_model.specs.Check.{check_file, check_from, constraints_in, due_after, finish, formed?, gates_in, header?, known?, limited?, more?, names_in, outputs_in, read, read_by, read_netlist, twice?}
use Rattle.netlist_model.specs.Meaning.{and_count, ands_from, file_ands, gate_ands, operation_function}
use Rattle.netlist_model.specs.Names.{first_lacked, name_count, place_of}
use Rattle.netlist_model.specs.Pairing.{input_for, paired, reference_for}
use Rattle.netlist_model.specs.Records.{fields_record, file_lines, line_of, part_lines, operation_of, record_of, unended}
use Rattle.netlist_model.specs.declared.Operation.TheVariants.{And, Or}
use Rattle.netlist_model.specs.declared.Role.TheVariants.{First, Second}
use Rattle.product_model.specs.Run.{◌and_then◌, add_part, add_row, count_step, plain, run}
use Rattle.sweep_model.specs.Claims.{and_function, and_steps, sum}
use Rattle.sweep_model.specs.Normalise.{folded_row, found_row, normalise, normalise_from, normalise_row, resolve, take_at, takes_from}
use Rattle.sweep_model.specs.State.{bare?, dropped?, gone?, has?, open?, waits?}
use Rattle.sweep_model.specs.Sweep.{and_then, begin, conclude, give_row, go, go_for, look, look_at, meet, multiply, open_at, pick_from, ready?, result_of, scan_from, smaller, start, sweep, swept, top_part, turns_left, turns_of, twin_from, visit}
use Rattle.sweep_model.specs.Sweep.{drop_vertex as drop_at, give_inputs as give_rows}
use Rattle.table.specs.Refusals.{first_refusal}
use Rattle.table.specs.Table.{all_below?, beyond_limits?, downward?, first_functions, functions_of, graph_of, inputs_from, malformed?, out_of_order?, output_words, pairs, row_below?, rows_of, side_outputs}
use Rattle.table.specs.Values.{vertex_values}
use Rattle.text.specs.Numerals.{digits_from, numeral_of}
use Rattle.truth.specs.Cards.{a, b}
use Rattle.truth.specs.Distinct.{among, distinct, filter}
use Rattle.truth.specs.Parts.{alike?, all_parts, cofactors, depends?, parts, size, together}
use Rattle.truth.specs.Settings.{first_difference}
use Rattle.truth.specs.Steps.{calls, steps, terminal?}
use Rattle.truth.specs.Truth.{conj, constant?, constantly, disj, input, invert, same?, value_at}
use lib.ListN.{drop, get_or}
use mathlib.Core.Bool.{false}
use mathlib.Core.List.{List, [], ◌++◌, ◌∷◌, map}
use mathlib.Core.Path.{◌≡◌, refl}
use native.Mathlib.Omega.{arith}

-- The files, read.
reads-left : read_netlist First and_file ≡ read (one_gate And)
unfolding due_after check_file check_from constraints_in finish first_refusal formed? gates_in header? known? limited? more? name_count names_in outputs_in read_by read_netlist twice? digits_from numeral_of fields_record file_lines line_of part_lines operation_of record_of unended
reads-left = refl

reads-right : read_netlist (Second 1) other_file ≡ read (one_gate Or)
unfolding due_after check_file check_from constraints_in finish first_refusal formed? gates_in header? known? limited? more? name_count names_in outputs_in read_by read_netlist twice? digits_from numeral_of fields_record file_lines line_of part_lines operation_of record_of unended
reads-right = refl

-- The second file's inputs are in the first one's order.
second : paired (one_gate And) (one_gate Or) ≡ one_gate Or
unfolding input_for paired place_of reference_for
second = refl

-- The load is accepted.
accepts : load_result and_file other_file room ≡ accepted 1 (record { asked = 2; folded = 0; found = 0; made = 2 })
unfolding fold_of first_vertex own_words ask_and ask_gate ask_gates build_file build_pair empty_build folded_or_not found_or_made literals_from counts_differ? first_lacked load_result read_result read_second short_load? tally_of and_count first_refusal
accepts = rw reads-left (rw (reads-right, second) refl)

-- The table after it.
abbrev words : List ℕ
words = 2 ∷ 2 ∷ 1 ∷ 2 ∷ 4 ∷ 3 ∷ 5 ∷ 6 ∷ 9 ∷ 1 ∷ drop 10 before

table : after ≡ words
unfolding fold_of first_vertex own_words ask_and ask_gate ask_gates build_file build_pair empty_build folded_or_not found_or_made literals_from table_of table_words
table = rw second refl

-- The calls on it: none changes it.
record Computed : Type 0 where
  first-accepted : refusal_of (comparison_of 0 least_limits words) ≡ 0
  first-reply : (compared (comparison_of 0 least_limits words)).reply ≡ Said.different 4 6 0
  first-setting : (compared (comparison_of 0 least_limits words)).setting ≡ 48 ∷ 49 ∷ []
  first-table : (compared (comparison_of 0 least_limits words)).table ≡ words
  second-reply : (compared (comparison_of 1 usual words)).reply ≡ Said.refused 12
  second-table : (compared (comparison_of 1 usual words)).table ≡ words
  third_reply : (compared (comparison_of 0 size_one words)).reply ≡ Said.size 2 6 0

computed : Computed
unfolding answer_to answered beyond? compared entry_rows graph_words looked_at next_rows outputs_left outside? problem_of refusal_of
    row_words setting_bytes setting_left short_slice? table_left turned_back output_words pairs rows_of side_outputs malformed?
    beyond_limits? out_of_order? downward? all_below? row_below? graph_of functions_of first_functions inputs_from first_refusal
    vertex_values conj constant? constantly input invert same? sweep result_of conclude give_row go go_for meet multiply open_at pick_from
    ready? scan_from smaller swept top_part turns_left turns_of twin_from visit drop_at give_rows start look look_at and_then begin
    normalise normalise_from normalise_row folded_row found_row resolve takes_from take_at has? gone? bare? dropped? open? waits? said_by
    fold_of first_vertex own_words ◌and_then◌ add_part add_row count_step plain run among distinct filter alike? cofactors depends? parts
    size terminal? first_difference value_at
computed =
    record { first-accepted = refl; first-reply = refl; first-setting = refl; first-table = refl; second-reply = refl; second-table = refl; third_reply = refl }

-- What the ANDs of the comparison come to: a with b, and their inversions. The table's word for r is 1.
record Summed : Type 0 where
  ands : compared_ands words (one_gate And) (one_gate Or) 0 ≡ (a, b) ∷ (invert a, invert b) ∷ []
  first-size : size (conj a b) ≡ 2
  second-size : size (conj (invert a) (invert b)) ≡ 2
  parts_all : together (inputs_from 2 1 2 ++ map and_function ((a, b) ∷ (invert a, invert b) ∷ [])) ≡ 4
  steps_all : sum (map and_steps ((a, b) ∷ (invert a, invert b) ∷ [])) ≡ 6

summed : Summed
unfolding gates_ands next_ands input_for paired place_of reference_for file_ands ands_from gate_ands operation_function disj first_functions inputs_from among distinct filter alike? all_parts cofactors depends? parts size together calls steps sum terminal? conj constant? constantly input invert same?
summed = record { ands = refl; first-size = refl; second-size = refl; parts_all = refl; steps_all = refl }

-- The least limits suffice for them.
suffice : Suffice after (one_gate And) (one_gate Or) 0 least_limits
suffice =
    record {
      small = λ x. none-large x.place (rw two at x.there) (rw two at x.large);
      few-parts = λ l. let m = rw two at l in omega (arith, summed.parts_all);
      few-steps = λ l. let m = rw two at l in omega (arith, summed.steps_all);
    }
  where
    two : compared_ands after (one_gate And) (one_gate Or) 0 ≡ (a, b) ∷ (invert a, invert b) ∷ []
    two = rw table summed.ands

    none-large : (i : ℕ) → i < 2 → 2 < size (and_function (get_or ((a, b) ∷ (invert a, invert b) ∷ []) i (constantly 0 false, constantly 0 false))) → ⊥
    none-large zero h l = omega (arith, summed.first-size)
    none-large (suc zero) h l = omega (arith, summed.second-size)
    none-large (suc (suc i)) h l = omega arith

-- It is met.
pub example : Example
example =
    record {
      loaded = accepts;
      left = reads-left;
      right = reads-right;
      ran = Ran.next refl refl (Ran.next refl refl (Ran.next refl refl Ran.none));
      suffice = suffice;
      first-accepted = rw table computed.first-accepted;
      first-reply = rw table computed.first-reply;
      first-setting = rw table computed.first-setting;
      second-reply = rw (table, computed.first-table) computed.second-reply;
      third_reply = rw (table, computed.first-table, computed.second-table) computed.third_reply;
    }

-- So demand 3 holds of it.
pub example_holds : Holds (one_gate And) (one_gate Or) after (first_call ∷ second_call ∷ third_call ∷ []) third_call.left.table
example_holds =
    demand3 and_file other_file room 1 (record { asked = 2; folded = 0; found = 0; made = 2 }) (one_gate And) (one_gate Or) before third_call.left.table
    (first_call ∷ second_call ∷ third_call ∷ []) example.loaded example.left example.right example.ran

-- The first call of a list keeps what each does.
first_of : {P : Call → Type 0} {c : Call} {cs : List Call} → Each P (c ∷ cs) → P c
first_of (Each.next p r) = p

-- So the first call decides, by completeness.
pub example_decides : Decided (one_gate And) (one_gate Or) 0 first_call.left.reply
example_decides =
    first_of
    (complete and_file other_file room 1 (record { asked = 2; folded = 0; found = 0; made = 2 }) (one_gate And) (one_gate Or) before third_call.left.table
    (first_call ∷ second_call ∷ third_call ∷ []) example.loaded example.left example.right example.ran)
    example.first-accepted example.suffice
