-- References that can be followed.
use Rattle.std.specs.Prelude.{◌*◌, ◌≤◌, ℕ, length, List}
use Rattle.bdd.specs.Diagram.{Canonical, Reference}

-- A reference of the last `inputs` inputs that can be followed down to a constant.
pub record Walks (rows : List ℕ) (inputs r : ℕ) : Type 0 where
  pub used : ℕ
  pub canonical : Canonical rows used
  pub long : used * 4 ≤ length rows
  pub here : Reference rows used inputs r
