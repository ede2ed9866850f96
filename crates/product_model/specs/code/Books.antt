-- What a book and its store hold. No run is defined by this: it serves the laws on states of the sweep and the proofs of code.
use Rattle.std.specs.Prelude.{◌≤◌, ℕ, length, true, List, ◌≡◌}
use Rattle.product_model.specs.Run.{Book}
use Rattle.truth.specs.Distinct.{among, apart}
use Rattle.truth.specs.Parts.{alike?, all_parts, parts}
use Rattle.truth.specs.Truth.{Truth}

-- Every part of f has its row.
abbrev pub Stored : Truth → List Truth → Type 0
Stored f store = (t : Truth) → among alike? t (parts f) ≡ true → among alike? t store ≡ true

-- A book that a run may start from: no two rows serve one function, and neither count is past its limit.
pub record Proper (row_limit step_limit : ℕ) (b : Book) : Type 0 where
  pub no_repeats : apart alike? b.store ≡ true
  pub rows : length b.store ≤ row_limit
  pub taken : b.steps ≤ step_limit

-- The rows are the parts of these functions.
pub record HoldsParts (b : Book) (fs : List Truth) : Type 0 where
  pub members : (t : Truth) → among alike? t b.store ≡ among alike? t (all_parts fs)
