-- The first difference of two references, as bytes.
use Rattle.std.specs.Prelude.{ℕ, cond, List, [], ◌∷◌}
use Rattle.truth.specs.Truth.{Setting}

-- "one byte an input, 48 or 49". (RULES 7.2)
unfoldable pub digits : Setting → List ℕ
digits [] = []
digits (x ∷ s) = cond x 49 48 ∷ digits s
