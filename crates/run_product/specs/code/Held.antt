-- What holds of the references of a circuit between products.
use Rattle.std.specs.Prelude.{ℕ, get_or, List}
use Rattle.bdd.specs.Diagram.{Reference}

-- Each is a reference of at most `inputs` inputs to the rows in use.
pub record Held (rows references : List ℕ) (used inputs : ℕ) : Type 0 where
  pub each : (v : ℕ) → Reference rows used inputs (get_or references v 0)
