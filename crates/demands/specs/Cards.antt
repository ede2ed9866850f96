-- The bench cards marked P: "shown from the definitions, as a group under a common theorem". Those on replies are here, from the bytes of
-- the files; those on parts and steps and those on loading stand with their definitions. (RULES 13.2)
use Rattle.std.specs.Prelude.{◌*◌, ◌+◌, ℕ, replicate, List, [], ◌++◌, ◌∷◌, ◌≡◌}
use Rattle.compare_model.specs.Compare.{Given, Left, compared, vertex_room}
use Rattle.compare_model.specs.Said.{Said}
use Rattle.load_model.specs.Cards.{Loading, and_file, named_and, or_file, table_left, turned_and}
use Rattle.load_model.specs.Load.{max_table, max_vertices}
use Rattle.sweep_model.specs.State.{Limits}
use Rattle.table.specs.Table.{inputs_of}
use Rattle.truth.specs.Cards.{PartsAndSteps}

-- `N⇥1⇥n⇥0⇥1`, `O⇥r`, for two digits: a file of one output and no gate.
abbrev pub output_file : ℕ → ℕ → List ℕ
output_file n r = 78 ∷ 9 ∷ 49 ∷ 9 ∷ n ∷ 9 ∷ 48 ∷ 9 ∷ 49 ∷ 10 ∷ 79 ∷ 9 ∷ r ∷ 10 ∷ []

-- `N⇥2⇥2⇥0⇥1`, `I⇥x`, `I⇥y`, `O⇥2`, for two letters: the first of two named inputs.
abbrev pub named_output : ℕ → ℕ → List ℕ
named_output x y =
    78 ∷ 9 ∷ 50 ∷ 9 ∷ 50 ∷ 9 ∷ 48 ∷ 9 ∷ 49 ∷ 10 ∷ 73 ∷ 9 ∷ x ∷ 10 ∷ 73 ∷ 9 ∷ y ∷ 10 ∷ 79 ∷ 9 ∷ 50 ∷ 10 ∷ []

-- `N⇥1⇥1⇥0⇥1`, `O⇥2`, `C⇥c`, for a digit: the one input, and a constraint.
abbrev pub constrained_file : ℕ → List ℕ
constrained_file c = output_file 49 50 ++ (67 ∷ 9 ∷ c ∷ 10 ∷ [])

-- The table after a load of two files into a table that is just long enough.
abbrev pub loaded_table : List ℕ → List ℕ → List ℕ
loaded_table left right = table_left left right (replicate max_table 0)

-- The words of a slice for the most vertices and two more.
abbrev pub most_words : ℕ
most_words = 2 * (max_vertices + 2)

-- A comparison of a table's output with slices that are long enough.
abbrev pub comparison_of : ℕ → Limits → List ℕ → Given
comparison_of output limits table =
    record {
      table = table;
      output = output;
      limits = limits;
      room = record { pairs = most_words; look = most_words; diagrams = most_words; stages = most_words; rows = 4 * limits.rows };
      marks = replicate (vertex_room table) 0;
      setting = replicate (inputs_of table) 0;
    }

-- "limits 4,096 unless said" (RULES 13.1)
abbrev pub usual : Limits
usual = record { size = 4096; rows = 4096; steps = 4096 }

-- What a comparison of a pair's first output gives back and leaves.
abbrev pub first_compared : List ℕ → List ℕ → Left
first_compared left right = compared (comparison_of 0 usual (loaded_table left right))

-- "`and 2 4` output 6 against `or 3 5` output 7: .. Equal, rows 0, steps 0." "output 2 against 3, one input: Different, setting 0, rows 0."
-- "no inputs, 0 against 1: Different, empty setting." "edition 2, names `a b` against `b a`: `and 2 5` against `and 3 4`: .. Equal, rows 0; output 2
-- against 2: Different, setting 01." "output 2 against 3, one input, `C 2`: Different, setting 1, rows 1; `C 0`: Equal, rows 0." (RULES 13.2)
pub record Replying : Type 0 where
  pub and_or-reply : (first_compared and_file or_file).reply ≡ Said.equal 0 0 0
  pub inverse-reply : (first_compared (output_file 49 50) (output_file 49 51)).reply ≡ Said.different 0 0 0
  pub inverse-setting : (first_compared (output_file 49 50) (output_file 49 51)).setting ≡ 48 ∷ []
  pub constants_reply : (first_compared (output_file 48 48) (output_file 48 49)).reply ≡ Said.different 0 0 0
  pub constants_setting : (first_compared (output_file 48 48) (output_file 48 49)).setting ≡ []
  pub named-reply : (first_compared named_and turned_and).reply ≡ Said.equal 0 0 0
  pub turned-reply : (first_compared (named_output 97 98) (named_output 98 97)).reply ≡ Said.different 2 0 0
  pub turned-setting : (first_compared (named_output 97 98) (named_output 98 97)).setting ≡ 48 ∷ 49 ∷ []
  pub allowed-reply : (first_compared (constrained_file 50) (output_file 49 51)).reply ≡ Said.different 1 0 0
  pub allowed-setting : (first_compared (constrained_file 50) (output_file 49 51)).setting ≡ 49 ∷ []
  pub none-allowed-reply : (first_compared (constrained_file 48) (output_file 49 51)).reply ≡ Said.equal 0 0 0

-- All of them.
pub record Cards : Type 0 where
  pub parts-and_steps : PartsAndSteps
  pub loading : Loading
  pub replying : Replying
