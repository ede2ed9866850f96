-- Two calls tied: evaluate, on the table as a comparison left it and the setting that a Different wrote.
use Rattle.std.specs.Prelude.{ℕ, take, List, ◌≢◌, ◌≡◌}
use Rattle.compare_model.specs.Compare.{Given, Left}
use Rattle.evaluate_model.specs.Evaluate.{evaluation, valued}
use Rattle.table.specs.Table.{inputs_of}

-- "A Different writes one byte an input, 48 or 49, to the front of the lent setting slice": those bytes. (RULES 7.2)
abbrev pub written : Left → List ℕ
written left = take (inputs_of left.table) left.setting

-- "Evaluating one side's output on a setting gives 0 or 1, its value there.": the two sides' values there are not one. (RULES 10.2)
pub record Confirmed (given : Given) (left : Left) (room : ℕ) : Type 0 where
  pub first : ℕ
  pub second : ℕ
  pub first-side : evaluation left.table 1 given.output (written left) room ≡ valued first
  pub second-side : evaluation left.table 2 given.output (written left) room ≡ valued second
  pub differ : first ≢ second
