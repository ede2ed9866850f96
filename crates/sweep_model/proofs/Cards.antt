-- The bench cards on replies hold, by computation.
use Rattle.aig.specs.Fold.{fold_of}
use Rattle.aig.specs.Lookup.{first_vertex, own_words}
use Rattle.product_model.specs.Run.{◌and_then◌, add_part, add_row, count_step, run}
use Rattle.sweep_model.specs.Cards.{SweepCards, first_functions, made_functions}
use Rattle.sweep_model.specs.Normalise.{folded_row, found_row, normalise, normalise_from, normalise_row, resolve, take_at, takes_from, wake, wake_at}
use Rattle.sweep_model.specs.State.{bare?, dropped?, gone?, has?, open?, waits?}
use Rattle.sweep_model.specs.Sweep.{and_then, begin, conclude, drop_vertex, give_inputs, give_row, go, go_for, look, look_at, meet, multiply, open_at, pick_from, ready?, result_of, scan_from, smaller, start, sweep, swept, top_part, turns_left, turns_of, twin_from, visit}
use Rattle.truth.specs.Distinct.{among, distinct, filter}
use Rattle.truth.specs.Parts.{alike?, cofactors, depends?, parts, plain, size}
use Rattle.truth.specs.Settings.{first_difference}
use Rattle.truth.specs.Steps.{terminal?}
use Rattle.truth.specs.Truth.{conj, constant?, constantly, input, invert, same?, value_at}
use mathlib.Core.Path.{refl}

pub sweep_cards : SweepCards
unfolding fold_of first_vertex own_words ◌and_then◌ add_part add_row count_step run first_functions made_functions folded_row found_row normalise normalise_from normalise_row resolve take_at takes_from wake wake_at bare? dropped? gone? has? open? waits? and_then result_of begin conclude drop_vertex give_row go go_for give_inputs look look_at meet multiply open_at pick_from ready? scan_from smaller start sweep swept top_part turns_left turns_of twin_from visit among distinct filter alike? cofactors depends? parts plain size first_difference terminal? conj constant? constantly input invert same? value_at
sweep_cards =
    record {
      and_or_card = refl;
      and_or-rows = refl;
      and_or-steps = refl;
      and_or_six = refl;
      and_or-size = refl;
      and_or-input = refl;
      broken_eight = refl;
      broken_seven = refl;
      broken_six = refl;
      broken-steps = refl;
      zero_rows = refl;
      zero_steps = refl;
      xor_pair_card = refl;
      xor_first = refl;
      xor_second = refl;
      and_twice = refl;
      inverse_wires = refl;
      no_inputs = refl;
    }
