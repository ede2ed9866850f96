-- The computed cards hold.
use Rattle.product_model.specs.Cards.{InverseStored, NoRowNoStep, ProductOfTwo, ZeroBeforeOne}
use Rattle.product_model.specs.Run.{◌and_then◌, add_part, add_row, count_step, plain, run}
use Rattle.truth.specs.Distinct.{among}
use Rattle.truth.specs.Parts.{alike?, depends?}
use Rattle.truth.specs.Steps.{terminal?}
use Rattle.truth.specs.Truth.{conj, constant?, constantly, disj, input, invert, same?, value_at}
use mathlib.Core.Path.{refl}

pub product_of_two : ProductOfTwo
unfolding add_part add_row ◌and_then◌ count_step plain run among alike? depends? terminal? conj constant? constantly disj input invert same? value_at
product_of_two = record { and_done = refl; and_rows = refl; and_steps = refl }

pub zero_before-one : ZeroBeforeOne
unfolding add_part add_row ◌and_then◌ count_step plain run among alike? depends? terminal? conj constant? constantly disj input invert same? value_at
zero_before-one = record { order-done = refl; order-rows = refl; order-ended = refl; order-steps = refl }

pub inverse-stored : InverseStored
unfolding add_part add_row ◌and_then◌ count_step plain run among alike? depends? terminal? conj constant? constantly disj input invert same? value_at
inverse-stored = record { inverse-plain = refl; inverse-found = refl }

pub no_row_no_step : NoRowNoStep
unfolding add_part add_row ◌and_then◌ count_step plain run among alike? depends? terminal? conj constant? constantly disj input invert same? value_at
no_row_no_step = record { halves-equal = refl; input-passed = refl }
