-- The bench cards on parts and steps, marked P. "a is reference 2, b is 4": inputs 1 and 2, of two. (RULES 13.1, 13.2)
use Rattle.truth.specs.Parts.{size, together}
use Rattle.truth.specs.Steps.{steps}
use Rattle.truth.specs.Truth.{Truth, conj, constantly, exclusive, input, invert}
use Rattle.std.specs.Prelude.{Bool, false, [], ◌∷◌, ◌≡◌}

abbrev pub a : Truth
a = input 2 1

abbrev pub b : Truth
b = input 2 2

-- "parts: constant 0; a 1; a AND b 2; a XOR b 2; those of a, b and a AND b together 3." "steps: a with b 3; a with not a 1; false
-- with a 1." (RULES 13.2)
pub record PartsAndSteps : Type 0 where
  pub parts-constant : (v : Bool) → size (constantly 2 v) ≡ 0
  pub parts-a : size a ≡ 1
  pub parts_and : size (conj a b) ≡ 2
  pub parts_xor : size (exclusive a b) ≡ 2
  pub parts-together : together (a ∷ b ∷ conj a b ∷ []) ≡ 3
  pub steps-a-b : steps a b ≡ 3
  pub steps-inverse : steps a (invert a) ≡ 1
  pub steps_false : steps (constantly 2 false) a ≡ 1
