-- Counting order, and the first setting on which two functions differ. (RULES 7.1, 7.2)
use Rattle.std.specs.Prelude.{◌+◌, ◌<◌, ◌^◌, ℕ, length, cond, false, true, [], ◌∷◌, ◌≢◌, ◌≡◌}
use Rattle.truth.specs.Truth.{Setting, Truth, leaf, node, same?, value_at}

-- "Counting order: input 1 is the leading digit, 0 before 1": the number whose binary digits the setting holds. (RULES 7.1)
unfoldable pub number_of : Setting → ℕ
number_of [] = 0
number_of (x ∷ s) = cond x (2 ^ length s) 0 + number_of s

-- "the first setting, in counting order, on which they disagree", of m inputs. (RULES 7.2, 12.2)
pub record FirstDifference (m : ℕ) (f g : Truth) (s : Setting) : Type 0 where
  pub digits : length s ≡ m
  pub differ : value_at f s ≢ value_at g s
  pub first : (t : Setting) → length t ≡ m → number_of t < number_of s → value_at f t ≡ value_at g t

-- That setting, found from the root: 0 where the 0 halves differ, else 1.
unfoldable pub first_difference : Truth → Truth → Setting
first_difference (leaf a) g = []
first_difference (node a b) (leaf c) = []
first_difference (node a b) (node c d) = cond (same? a c) (true ∷ first_difference b d) (false ∷ first_difference a c)
