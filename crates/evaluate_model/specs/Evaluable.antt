-- A call of the evaluator that keeps the rules, with the rules' own numbers. (RULES 9.4, 10.1)
use Rattle.std.specs.Prelude.{◌+◌, ◌<◌, ◌≤◌, ℕ, get_or, length, List, ◌⊎◌, ◌≡◌}
use Rattle.table.specs.Fits.{Fits, word}

-- A table that keeps its rules, side 1 or 2, an output that is there, "one byte a vertex" to work in, and a setting of "one byte an input,
-- 48 or 49". (RULES 8.2, 10.1)
pub record Evaluable (words : List ℕ) (side output : ℕ) (setting : List ℕ) (room : ℕ) : Type 0 where
  pub table : Fits words
  pub side-known : (side ≡ 1) ⊎ (side ≡ 2)
  pub output-known : output < word words 2
  pub room-enough : 1 + word words 0 + word words 1 ≤ room
  pub setting-fits : length setting ≡ word words 0
  pub setting-digits : (i : ℕ) → i < length setting → (get_or setting i 0 ≡ 48) ⊎ (get_or setting i 0 ≡ 49)
