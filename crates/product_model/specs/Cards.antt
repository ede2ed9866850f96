-- Computed cards of products of functions of two and three inputs.
use Rattle.product_model.specs.Run.{Book, done, run, short_of_rows, short_of_steps}
use Rattle.truth.specs.Truth.{Truth, conj, disj, input, invert, leaf, node}
use Rattle.std.specs.Prelude.{false, true, List, [], ◌∷◌, ◌≡◌}

-- Inputs 1 and 2, of two, and their rows: input 2's is the function of one input that is left after input 1.
abbrev pub a : Truth
a = input 2 1

abbrev pub b : Truth
b = input 2 2

abbrev pub rows_of_inputs : List Truth
rows_of_inputs = a ∷ node (leaf false) (leaf true) ∷ []

abbrev pub inputs_only : Book
inputs_only = record { store = rows_of_inputs; steps = 0 }

-- "For a AND b they are 3": the product of a and b, ended, with row limit 2 and with step limit 2. (RULES 5.7)
pub record ProductOfTwo : Type 0 where
  pub and_done : run 3 3 a b inputs_only ≡ done (record { store = conj a b ∷ rows_of_inputs; steps = 3 })
  pub and_rows : run 2 3 a b inputs_only ≡ short_of_rows (record { store = rows_of_inputs; steps = 3 })
  pub and_steps : run 3 2 a b inputs_only ≡ short_of_steps (record { store = rows_of_inputs; steps = 2 })

-- Functions of three inputs: the second input, and the exclusive or of the first and the third.
abbrev pub second : Truth
second = node a a

abbrev pub first_xor_third : Truth
first_xor_third = node b (invert b)

abbrev pub rows_of_both : List Truth
rows_of_both = first_xor_third ∷ rows_of_inputs

abbrev pub both_stored : Book
both_stored = record { store = rows_of_both; steps = 0 }

-- Value 0 comes before value 1: their rows stand in that order, a shortfall in value 1 leaves the row of value 0, and one in value 0
-- ends the run before value 1.
pub record ZeroBeforeOne : Type 0 where
  pub order-done : run 6 7 second first_xor_third both_stored
      ≡ done (record { store = node (conj a b) (conj a (invert b)) ∷ conj a (invert b) ∷ conj a b ∷ rows_of_both; steps = 7 })
  pub order-rows : run 4 7 second first_xor_third both_stored ≡ short_of_rows (record { store = conj a b ∷ rows_of_both; steps = 7 })
  pub order-ended : run 3 7 second first_xor_third both_stored ≡ short_of_rows (record { store = rows_of_both; steps = 4 })
  pub order-steps : run 6 4 second first_xor_third both_stored ≡ short_of_steps (record { store = conj a b ∷ rows_of_both; steps = 4 })

-- The product of not a and not b is true on the all-zero setting: "one row serving a function and its inverse", in plain form. (RULES 6.7)
abbrev pub rows_of_nor : List Truth
rows_of_nor = disj a b ∷ rows_of_inputs

pub record InverseStored : Type 0 where
  pub inverse-plain : run 3 3 (invert a) (invert b) inputs_only ≡ done (record { store = rows_of_nor; steps = 3 })
  pub inverse-found : run 3 3 (invert a) (invert b) (record { store = rows_of_nor; steps = 0 }) ≡ done (record { store = rows_of_nor; steps = 3 })

-- The functions a implies b and a or b, whose conjunction is b.
abbrev pub implies : Truth
implies = disj (invert a) b

abbrev pub rows_of_factors : List Truth
rows_of_factors = invert implies ∷ disj a b ∷ rows_of_inputs

-- No row where the halves of a conjunction are equal, and no step for an input on which neither function depends. (RULES 5.2, 5.6)
pub record NoRowNoStep : Type 0 where
  pub halves-equal : run 4 3 implies (disj a b) (record { store = rows_of_factors; steps = 0 }) ≡ done (record { store = rows_of_factors; steps = 3 })
  pub input-passed : run 3 3 (node a a) (node b b) inputs_only ≡ done (record { store = conj a b ∷ rows_of_inputs; steps = 3 })
