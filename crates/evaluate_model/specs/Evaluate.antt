-- The evaluator: "Evaluating one side's output on a setting gives 0 or 1, its value there." (RULES 10.2)
use Rattle.std.specs.Prelude.{◌<◌, ◌≤◌, ℕ, eqb, leb, ltb, length, Bool, ◌&&◌, ◌||◌, cond, not, true, List, [], ◌++◌, ◌∷◌, map, ◌≡◌, Result, Ok, Err}
use Rattle.refusal.specs.Number.{number_of}
use Rattle.refusal.specs.declared.Refusal.{Refusal}
use Rattle.table.specs.Accepted.{Accepted}
use Rattle.table.specs.Refusals.{Test, first_refusal}
use Rattle.table.specs.Table.{graph_of, inputs_of, output_value, outputs_of, table_tests, vertices_of}
use Rattle.truth.specs.Truth.{Setting}

-- "one byte an input, 48 or 49": the byte of a digit that is 1. (RULES 10.1)
abbrev pub digit_one : ℕ
digit_one = 49

-- That of a digit that is 0.
abbrev pub digit_zero : ℕ
digit_zero = 48

-- The digits that the bytes of a setting stand for. (RULES 10.1)
abbrev pub digits_of : List ℕ → Setting
digits_of bytes = map (λ b. eqb b digit_one) bytes

-- "The side is not 1 or 2": whether it is. (RULES 8.1)
unfoldable pub side? : ℕ → Bool
side? side = eqb side 1 || eqb side 2

-- "The side is not 1 or 2, or the output number is too high." (RULES 8.1)
unfoldable pub unknown? : ℕ → ℕ → ℕ → Bool
unknown? side output outputs = not (side? side) || leb outputs output

-- Test 12. (RULES 8.1, 9.4)
abbrev pub output_test : List ℕ → ℕ → ℕ → Test ℕ
output_test words side output = record { answer = 12; applies = unknown? side output (outputs_of words) }

-- "A working slice is short: .. evaluate only one byte a vertex.", where `room` is the slice's length. (RULES 8.1, 8.2)
abbrev pub room_test : List ℕ → ℕ → Test ℕ
room_test words room = record { answer = 14; applies = ltb room (vertices_of words) }

-- "The setting's length differs from the inputs." (RULES 8.1)
abbrev pub length_test : List ℕ → List ℕ → Test ℕ
length_test words setting = record { answer = 16; applies = not (eqb (length setting) (inputs_of words)) }

-- Whether a byte is "48 or 49". (RULES 8.1)
unfoldable pub digit? : ℕ → Bool
digit? b = eqb b digit_zero || eqb b digit_one

-- Whether all bytes are.
unfoldable pub all_digits? : List ℕ → Bool
all_digits? [] = true
all_digits? (b ∷ bs) = digit? b && all_digits? bs

-- "A setting byte is not 48 or 49." (RULES 8.1)
abbrev pub digits_test : List ℕ → Test ℕ
digits_test setting = record { answer = 17; applies = not (all_digits? setting) }

-- The tests after those of the table. (RULES 9.4)
abbrev pub call_tests : List ℕ → ℕ → ℕ → List ℕ → ℕ → List (Test ℕ)
call_tests words side output setting room =
    output_test words side output ∷ room_test words room ∷ length_test words setting ∷ digits_test setting ∷ []

-- "evaluate 10, 11, 12, 14, 16, 17, each in rising order" (RULES 9.4)
abbrev pub evaluate_tests : List ℕ → ℕ → ℕ → List ℕ → ℕ → List (Test ℕ)
evaluate_tests words side output setting room = table_tests words ++ call_tests words side output setting room

-- An answer: the value, or the number of a refusal. (RULES 8.1, 10.2)
pub data Answer : Type 0 where
  valued : ℕ → Answer
  refused : ℕ → Answer

-- The rules' value or number for each case of the result. (RULES 8.1, 10.2)
abbrev pub answer_of : Result ℕ Refusal → Answer
answer_of (Ok v) = valued v
answer_of (Err refusal) = refused (number_of refusal)

-- "gives 0 or 1": a truth value as a number. (RULES 10.2)
abbrev pub bit : Bool → ℕ
bit b = cond b 1 0

-- The value of one side's output on a setting. (RULES 10.2)
unfoldable pub evaluated_value : List ℕ → ℕ → ℕ → List ℕ → ℕ
evaluated_value words side output setting = bit (output_value (graph_of words) side output (digits_of setting))

-- The first refusal that applies, or that value where none does. (RULES 8.1, 10.2)
unfoldable pub evaluation : List ℕ → ℕ → ℕ → List ℕ → ℕ → Answer
evaluation words side output setting room =
    let n : ℕ = first_refusal 0 (evaluate_tests words side output setting room) in
    cond (eqb n 0) (valued (evaluated_value words side output setting)) (refused n)

-- "refusals leaving all of them unchanged": the working slice before and after an answer. It is free where a value is given. (RULES 8.3, 12.5)
abbrev pub Kept : Answer → List ℕ → List ℕ → Type 0
Kept (valued v) before after = length after ≡ length before
Kept (refused n) before after = after ≡ before

-- What no refusal leaves of the arguments.
pub record Ready (words : List ℕ) (side output : ℕ) (setting : List ℕ) (room : ℕ) : Type 0 where
  pub table : Accepted words
  pub side-known : side? side ≡ true
  pub output-known : output < outputs_of words
  pub room-enough : vertices_of words ≤ room
  pub setting-fits : length setting ≡ inputs_of words
  pub setting-digits : all_digits? setting ≡ true
